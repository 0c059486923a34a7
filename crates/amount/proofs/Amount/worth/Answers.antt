use Rattle.std.proofs.Common.{◌≡◌, ◌+◌, ◌*◌, ◌^◌, ◌<◌, ◌≤◌, ◌-◌, ◌/◌, ℕ, Option, fold, arith, rules, tests}
use Rattle.std.specs.Fn.{Called}
use Rattle.std.specs.Iterator.Adapters.{map_source, map_callee, map_steps}
use Rattle.std.specs.Iterator.Runs.{WholeRun}
use Rattle.std.specs.List.{zip}
use Rattle.std.specs.declared.iter.Map.{Map}
use Rattle.std.proofs.iter.Yields.{fronts}
use Rattle.std.proofs.lemmas.Iterator.{YieldsList, zips, YieldsList-from_slice, YieldsList-from_map, YieldsList-from_zip}
use Rattle.std.proofs.lemmas.Iterator.Adapters.{YieldsAtMost, fits_from_length, at_most_from_yields_List}
use Rattle.std.proofs.lemmas.Iterator.Consumers.{YieldsList-at, sum_by_from_yields_List}
use Rattle.std.proofs.lemmas.Slice.Zip.{length-zip}
use denote.Param.Members.{Mut}
use Rattle.amount.proofs.Dots.{sum_by-dot}
use Rattle.amount.proofs.Amount.worth.Goals as goal
use Rattle.amount.proofs.Amount.worth.Goals.{After-map}

-- a sum of at most n numbers, each below its share of top
total_below :
    {S A F : Type 0} {steps : S → Option A → S → Type 0} {s : Map S F} (g : Mut F (A × Unit {0}) ℕ) (f : F) (n top r : ℕ) →
    WholeRun (map_steps steps g) s (λ p. r ≡ fold (λ a x. a + x) 0 p.items) → YieldsAtMost steps (map_source s) n → map_callee s ≡ f → 0 < top →
    ((x : A) (r : ℕ) (q : F) → Called g f (x, tt) r q → (q ≡ f) × (r ≤ (top - 1) / n)) → r < top
total_below g f n top r w few e some most = let below = fits_from_length g f n top few e some most w.0 w.0.seen w.1 in rw w.3 below

-- the pairs that are multiplied, and how many there are
pairs : (c : After-map) → YieldsList (zips fronts fronts) (λ p. (p.0.now, p.1.now)) (map_source c.map.result) (zip c.args.self.now.per c.args.slots.now)
pairs c = YieldsList-at c.map.ensures.source (YieldsList-from_zip (YieldsList-from_slice c.args.self.now.per cc) (YieldsList-from_slice c.args.slots.now cc))

eight : (c : After-map) → YieldsAtMost (zips fronts fronts) (map_source c.map.result) 8
eight c = at_most_from_yields_List (pairs c) (omega (arith, length-zip c.args.self.now.per c.args.slots.now))

pub sum-units_worth-requires-clause-fits : goal.sum-units_worth-requires-clause-fits
sum-units_worth-requires-clause-fits c = fits_from_length _ _ 8 (2 ^ 64) (eight c) c.map.ensures.closure (omega arith) (λ x r q k. search rules)

pub overflow_add-result : goal.overflow_add-result
overflow_add-result c =
    let m = (goal.at.overflow_add-result c).After-map in
    let below : c.sum-units_worth.result < 2 ^ 63 = total_below _ _ 8 (2 ^ 63) _ (c.sum-units_worth.ensures.runs tt) (eight m) m.map.ensures.closure (omega arith) (λ x r q k. search rules) in
    omega arith

pub returns : goal.returns
returns c =
    let m = (goal.at.returns c).After-map in
    let per = c.args.self.now.per in
    let slots = c.args.slots.now in
    let sum = sum_by_from_yields_List (λ p. p.0 * p.1) (zip per slots) _ _ c.sum-units_worth.ensures.ran (YieldsList-from_map _ _ (pairs m) m.map.ensures.closure (λ x r q k. search (rules, tests))) in
    omega (arith, sum_by-dot per slots)
