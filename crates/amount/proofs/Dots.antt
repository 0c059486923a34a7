-- Sums of products, place by place: one step of a loop, its end, and what does not count.
use Rattle.std.proofs.Common.{◌≡◌, ℕ, ◌+◌, ◌*◌, ◌<◌, ◌≤◌, Bool, true, false, List, [], ◌∷◌, length, get_or, drop, ℤ, pos, ◌+ℤ◌, ◌*ℤ◌, sum_by, sym, refl, arith}
use Rattle.std.specs.List.{zip}
use Rattle.std.proofs.lemmas.List.Sums.{sum_by_from}
use Rattle.std.proofs.lemmas.List.{drop_more, drop_all}
use Rattle.amount.specs.Amount.{dot}
use Rattle.amount.specs.Form.{dotℤ}
use Rattle.amount.specs.Known.{mask}

pub dot_nil : (xs : List ℕ) → dot xs [] ≡ 0
unfolding dot
dot_nil [] = refl
dot_nil (x ∷ xs) = refl

-- the sum of the products, as a chain of iterators gives it
pub sum_by-dot : (cs vs : List ℕ) → sum_by (λ (p : ℕ × ℕ). p.0 * p.1) (zip cs vs) ≡ dot cs vs
unfolding dot
sum_by-dot [] vs = refl
sum_by-dot (c ∷ cs) [] = refl
sum_by-dot (c ∷ cs) (v ∷ vs) = let rest = sum_by-dot cs vs in omega (arith, sum_by_from (λ (p : ℕ × ℕ). p.0 * p.1) (0 + c * v) (zip cs vs))

pub dotℤ_more :
    (cs : List ℤ) (vs : List ℕ) (k : ℕ) → k < length cs → k < length vs →
    dotℤ (drop k cs) (drop k vs) ≡ get_or cs k (pos 0) *ℤ pos (get_or vs k 0) +ℤ dotℤ (drop (k + 1) cs) (drop (k + 1) vs)
unfolding dotℤ
dotℤ_more cs vs k p q = rw (drop_more cs k (pos 0) p, drop_more vs k 0 q)

pub dotℤ_all : (cs : List ℤ) (vs : List ℕ) (k : ℕ) → length cs ≤ k → dotℤ (drop k cs) (drop k vs) ≡ pos 0
unfolding dotℤ
dotℤ_all cs vs k p = rw (drop_all k cs p)

-- a coefficient that does not count is as good as a value of 0
pub dot-mask : (bs : List Bool) (cs vs : List ℕ) → dot (mask bs cs) vs ≡ dot cs (mask bs vs)
unfolding dot mask
dot-mask [] cs vs = sym (dot_nil cs)
dot-mask (b ∷ bs) [] [] = refl
dot-mask (b ∷ bs) [] (v ∷ vs) = let rest = dot-mask bs [] vs in omega arith
dot-mask (b ∷ bs) (c ∷ cs) [] = let rest = dot-mask bs cs [] in omega (arith, dot_nil (mask bs cs))
dot-mask (true ∷ bs) (c ∷ cs) (v ∷ vs) = let rest = dot-mask bs cs vs in omega arith
dot-mask (false ∷ bs) (c ∷ cs) (v ∷ vs) = let rest = dot-mask bs cs vs in omega arith
