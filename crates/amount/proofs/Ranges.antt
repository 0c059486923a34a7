-- How large sums and products of signed numbers can get.
use Rattle.std.proofs.Common.{◌≡◌, ℕ, suc, ◌+◌, ◌*◌, ◌^◌, ◌≤◌, ℤ, pos, negsuc, ◌+ℤ◌, ◌-ℤ◌, ◌*ℤ◌, mul-le-mul, mul-le-mul_left, arith, w64, to_z, of_z}
use Rattle.std.proofs.lemmas.Int.{ints}
use Rattle.amount.specs.Form.{Within, UpTo}
use Rattle.amount.specs.declared.Form.{Form}

pub within_sum : (m n : ℕ) (a b : ℤ) → Within m a → Within n b → Within (m + n) (a +ℤ b)
within_sum m n a b p q = record { low = omega (arith, ints); high = omega (arith, ints) }

pub within_difference : (m n : ℕ) (a b : ℤ) → Within m a → Within n b → Within (m + n) (a -ℤ b)
within_difference m n a b p q = record { low = omega (arith, ints); high = omega (arith, ints) }

pub within_more : (m n : ℕ) (z : ℤ) → m ≤ n → Within m z → Within n z
within_more m n z h w = record { low = omega (arith, ints); high = omega (arith, ints) }

pub within_pos : (n k : ℕ) → k ≤ n → Within n (pos k)
within_pos n k h = record { low = omega (arith, ints); high = omega (arith, ints) }

pub within_product : (m n : ℕ) (c : ℤ) (v : ℕ) → Within m c → v ≤ n → Within (m * n) (c *ℤ pos v)
within_product m n (pos c) v w h = let b : c * v ≤ m * n = mul-le-mul (omega (arith, ints)) h in record { low = omega (arith, ints); high = omega (arith, ints) }
within_product m n (negsuc c) v w h = let b : suc c * v ≤ m * n = mul-le-mul (omega (arith, ints)) h in record { low = omega (arith, ints); high = omega (arith, ints) }

-- a number so small is what its 64 bits hold
pub exact : (z : ℤ) → Within (2 ^ 62) z → to_z w64 (of_z w64 z) ≡ z
exact z w = omega (arith, ints)

-- a form that n amounts can make can be made by more
pub upto_more : (m n : ℕ) (f : Form) → m ≤ n → UpTo m f → UpTo n f
upto_more m n f h u = record {
  base = within_more _ _ _ (mul-le-mul_left 4294967295 h) u.base;
  per = λ k. within_more _ _ _ (mul-le-mul_left 65535 h) (u.per k);
}
