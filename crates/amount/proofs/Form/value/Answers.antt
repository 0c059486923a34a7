use Rattle.std.proofs.Common.{◌≡◌, ◌+◌, ◌*◌, ◌<◌, ◌≤◌, length, drop, ℤ, pos, ◌+ℤ◌, ◌*ℤ◌, ap, arith, w64, to_z, of_z, rules}
use Rattle.std.proofs.lemmas.Int.{ints, to_z_pos}
use Rattle.std.proofs.lemmas.List.{length_push}
use Rattle.std.proofs.lemmas.Slice.Zip.{zip_turn, zip_end}
use Rattle.amount.specs.Form.{dotℤ, Within}
use Rattle.amount.proofs.Dots.{dotℤ_more, dotℤ_all}
use Rattle.amount.proofs.Ranges.{exact, within_more, within_product}
use Rattle.amount.proofs.Form.value.Goals as goal
use Rattle.amount.proofs.Form.value.Goals.{In-Some}

abbrev term : In-Some → ℤ
term c = c.in-Some.coefficient.now *ℤ pos c.in-Some.units.now

-- what one turn adds: as 64 bits reckon it, how large it is, and what is left to add
record Turn (c : In-Some) : Type 0 where
  reckoned : (units : ℤ) → units ≡ pos c.in-Some.units.now → to_z w64 (of_z w64 c.in-Some.coefficient.now) *ℤ to_z w64 (of_z w64 units) ≡ term c
  range : Within (65535 * 1024 * 4294967295) (term c)
  place : length c.loop-coefficient.yielded < 8
  left : let n = length c.loop-coefficient.yielded in
      dotℤ (drop n c.args.self.now.per) (drop n c.args.slots.now) ≡ term c +ℤ dotℤ (drop (n + 1) c.args.self.now.per) (drop (n + 1) c.args.slots.now)

turn : (c : In-Some) → Turn c
turn c =
    let per = c.args.self.now.per in
    let slots = c.args.slots.now in
    let n = length c.loop-coefficient.yielded in
    let t = zip_turn per slots c.loop-coefficient.yielded _ _ c.next.new.self _ (cc) (cc) c.loop-coefficient.yielded_by _ c.in-Some.is c.next.ensures.steps in
    let coefficient = t.2 (pos 0) in
    let units = t.3 0 in
    let small : Within (65535 * 1024) c.in-Some.coefficient.now = rw coefficient (c.requires.per n) in
    let few : c.in-Some.units.now ≤ 4294967295 = search rules in
    record {
      reckoned = λ z e. rw (exact c.in-Some.coefficient.now (within_more _ _ _ (omega arith) small), e) (ap (λ (v : ℤ). c.in-Some.coefficient.now *ℤ v) (to_z_pos w64 c.in-Some.units.now (omega arith)));
      range = within_product (65535 * 1024) 4294967295 _ _ small few;
      place = omega (arith, t.1);
      left = rw (coefficient, units) (dotℤ_more per slots n t.0 t.1);
    }

pub overflow_mul-sum : goal.overflow_mul-sum
overflow_mul-sum c =
    let t = turn (goal.at.overflow_mul-sum c).In-Some in
    rw (t.reckoned _ c.from.ensures) (omega (arith, ints, t.range.low, t.range.high))

pub overflow_add-sum : goal.overflow_add-sum
overflow_add-sum c =
    let t = turn (goal.at.overflow_add-sum c).In-Some in
    rw (t.reckoned _ c.from.ensures) (omega (arith, ints))

pub loop-coefficient-preserved : goal.loop-coefficient-preserved
loop-coefficient-preserved c =
    let t = turn (goal.at.loop-coefficient-preserved c).In-Some in
    rw (t.reckoned _ c.from.ensures, length_push) (record { whole = omega (arith, ints); fits = record { low = omega (arith, ints); high = omega (arith, ints) } })

pub returns : goal.returns
returns c =
    let e = zip_end c.args.self.now.per c.args.slots.now c.loop-coefficient.yielded _ _ c.next.new.self _ (cc) (cc) c.loop-coefficient.yielded_by c.in-None.is c.next.ensures.steps in
    let end = dotℤ_all c.args.self.now.per c.args.slots.now (length c.loop-coefficient.yielded) (omega arith) in
    omega (arith, ints)
