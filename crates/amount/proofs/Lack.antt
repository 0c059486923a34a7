-- By how much a number is below 0.
use Rattle.std.proofs.Common.{◌≡◌, ℕ, ◌+◌, ◌-◌, ◌≤◌, ℤ, pos, negsuc, ◌-ℤ◌, ◌≤ℤ◌, ◌∙◌, refl, arith}
use Rattle.std.specs.Int.{int_min}
use Rattle.std.specs.Int.RustNames.{unsigned_abs}
use Rattle.std.proofs.lemmas.Int.{ints, clamps}
use Rattle.amount.specs.Amount.{Amount}
use Rattle.amount.specs.Least.{lack, Least, Shortage}
use Rattle.amount.specs.declared.Bounds.{Bounds}

lack_less : (z : ℤ) (m n : ℕ) → z ≡ pos m -ℤ pos n → lack z ≡ n - m
lack_less (pos k) m n h = omega (arith, ints)
lack_less (negsuc k) m n h = omega (arith, ints)

lack_bounds : (z : ℤ) (m n : ℕ) → z ≤ℤ (pos m -ℤ pos n) → n ≤ m + lack z
lack_bounds (pos k) m n h = omega (arith, ints)
lack_bounds (negsuc k) m n h = omega (arith, ints)

pub below_0 : (z : ℤ) → unsigned_abs (int_min z (pos 0)) ≡ lack z
below_0 (pos n) = let e : int_min (pos n) (pos 0) ≡ pos 0 = omega (arith, ints, clamps) in rw e
below_0 (negsuc n) = refl

-- what a least says of how much is lacking
pub short : (x y : Amount) (b : Bounds) (z : ℤ) (r : ℕ) → r ≡ lack z → Least x y b z → Shortage x y b r
short x y b z r e l = record { reached = e ∙ lack_less z _ _ l.reached; none_more = λ vs i. rw e (lack_bounds z _ _ (l.none_less vs i)) }
