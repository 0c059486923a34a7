-- An array that a closure fills, place by place, without changing anything: what its calls say of each place.
use Rattle.std.proofs.Common.{◌≡◌, ℕ, zero, suc, ◌+◌, ◌<◌, ◌≤◌, List, length, get_or, sym, subst, ◌∙◌, ⊎_elim, arith}
use Rattle.std.proofs.lemmas.List.{ext_get_or}
use Rattle.std.proofs.lemmas.Bool.{cases_lt}
use Rattle.std.specs.Array.{IsFromFnResult, IsFromFnResultFrom}
use Rattle.std.specs.Fn.{Called}
use denote.Param.Members.{Mut}

module _ {F B : Type 0} {g : Mut F (ℕ × Unit {0}) B} {f : F} {n : ℕ} {xs : List B} (d : B) (r : IsFromFnResult g f xs n) (same : (i : ℕ) (y : B) (q : F) → Called g f (i, tt) y q → q ≡ f) where
  called_from : (i left : ℕ) → IsFromFnResultFrom g f xs i left → (k : ℕ) → i ≤ k → k < i + left → Called g f (k, tt) (get_or xs k d) f
  called_from i zero s k p q = absurd (omega arith)
  called_from i (suc left) s k p q =
      let e = same i s.1 s.0 s.3 in
      ⊎_elim
      (λ (lt : i < k). called_from (i + 1) left (subst (λ (h : F). IsFromFnResultFrom g h xs (i + 1) left) e s.4) k (omega arith) (omega arith))
      (λ le. let here : k ≡ i = omega arith in rw (here, s.2.1 d) (subst (λ (h : F). Called g f (i, tt) s.1 h) e s.3))
      (cases_lt i k)

  pub called : (k : ℕ) → k < n → Called g f (k, tt) (get_or xs k d) f
  called k lt = called_from 0 n r.each k (omega arith) (omega arith)

  pub filled : (ys : List B) → length ys ≡ n → ((k : ℕ) → k < n → Called g f (k, tt) (get_or xs k d) f → get_or xs k d ≡ get_or ys k d) → xs ≡ ys
  filled ys e each = ext_get_or d xs ys (r.long ∙ sym e) (λ k lt. let few : k < n = omega (arith, r.long) in each k few (called k few))
