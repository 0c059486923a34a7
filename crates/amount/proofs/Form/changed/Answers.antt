use Rattle.std.proofs.Common.{◌≡◌, ℕ, ◌<◌, ◌≤◌, ◌^◌, length, get_or, ℤ, pos, ◌∙◌, arith, w64, to_z, of_z, rules}
use Rattle.std.proofs.lemmas.Int.{to_z-of_z, to_z_pos}
use Rattle.amount.specs.Form.{Within, each}
use Rattle.amount.proofs.Filled.{called, filled}
use Rattle.amount.proofs.Growing.{grown}
use Rattle.amount.proofs.Places.{length-each, get_or-each}
use Rattle.amount.proofs.Ranges.{within_more, exact}
use Rattle.amount.proofs.Form.changed.Goals as goal

-- two arguments of a call, which 64 bits hold as they are
arguments : (P : ℤ → ℤ → Type 0) (z : ℤ) (n : ℕ) → Within (2 ^ 62) z → n < 2 ^ 32 → P (to_z w64 (of_z w64 z)) (to_z w64 (of_z w64 (pos n))) → P z (pos n)
arguments P z n w h p = let few : n < 2 ^ 63 = omega arith in rw (exact z w, to_z_pos w64 n few) at p

pub returns-clause-is : goal.returns-clause-is
returns-clause-is g c = λ op gives.
    let form = c.args.self.now in
    let amount = c.args.amount.now in
    let given : (z r : ℤ) (n : ℕ) → Within (2 ^ 62) z → n < 2 ^ 32 → g.F.Fn.post c.args.change (to_z w64 (of_z w64 z), (to_z w64 (of_z w64 (pos n)), tt)) r → r ≡ op z (pos n) =
    λ z r n w h p. gives z r n w h (arguments (λ a b. g.F.Fn.post c.args.change (a, (b, tt)) r) z n w h p) in
    let base : to_z w64 (of_z w64 c.change.result) ≡ op form.base (pos amount.base) =
    to_z-of_z w64 c.change.result (search rules)
    ∙ given form.base c.change.result amount.base (within_more _ _ form.base (omega arith) c.requires.roomy.base) (search rules) (rw c.from.ensures at c.change.ensures) in
    let per = filled (pos 0) c.from_fn.ensures.items (λ i y q call. search rules) (each op form.per amount.per) (search (rules, length-each)) (λ k lt call.
    let small : Within (2 ^ 62) (get_or form.per k (pos 0)) = within_more _ _ _ (omega arith) (c.requires.roomy.per k) in
    rw (get_or-each op form.per amount.per k (search rules)) (given _ _ _ small (search rules) (search rules))) in
    λ i. record { base = base i; per = per i }

pub returns-clause-room : goal.returns-clause-room
returns-clause-room g c = λ op gives moves n u.
    let amount = c.args.amount.now in
    let call = called (pos 0) c.from_fn.ensures.items (λ i y q call. search rules) in
    let few : (k : ℕ) → k < length c.args.self.now.per → get_or amount.per k 0 ≤ 65535 = λ k lt. search (rules, call k (search rules)) in
    rw (returns-clause-is g c op gives) (grown op moves c.args.self.now amount (search rules) few n u)
