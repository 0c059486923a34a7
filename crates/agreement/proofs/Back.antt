-- Numbers that were written as bytes are read back.
use Rattle.std.proofs.Common.{◌≡◌, ℕ, ◌+◌, ◌*◌, ◌/◌, ◌%◌, ◌<◌, List, ◌∷◌, refl, ap, arith, lt-ltb}
use native.Mathlib.Nat.{div-div-eq-div-mul}
use Rattle.agreement.specs.Bytes.{byte, half, word, two, four}

-- a number's last byte, and what is left
last_byte : (n m k : ℕ) → n / 256 ≡ m → m ≡ k → n % 256 + k * 256 ≡ n
last_byte n m k e f = omega arith

joined : (a b c d x y n : ℕ) → a + x * 256 ≡ n → b + y * 256 ≡ x → c + d * 256 ≡ y → a + b * 256 + c * 65536 + d * 16777216 ≡ n
joined a b c d x y n p q r = omega arith

four_bytes : (n : ℕ) → n < 4294967296 → n % 256 + n / 256 % 256 * 256 + n / 65536 % 256 * 65536 + n / 16777216 % 256 * 16777216 ≡ n
four_bytes n h =
    joined (n % 256) (n / 256 % 256) (n / 65536 % 256) (n / 16777216 % 256) (n / 256) (n / 65536) n
    (last_byte n (n / 256) (n / 256) refl refl)
    (last_byte (n / 256) (n / 65536) (n / 65536) (div-div-eq-div-mul n 256 256) refl)
    (last_byte (n / 65536) (n / 16777216) (n / 16777216 % 256) (div-div-eq-div-mul n 65536 256) (omega arith))

module _ {R : Type 0} (short : R) (k : ℕ → List ℕ → R) where
  pub byte_back : (n : ℕ) (more : List ℕ) → n < 256 → byte (n ∷ more) short k ≡ k n more
  byte_back n more h = rw (lt-ltb n 256 h)

  pub half_back : (n : ℕ) (more : List ℕ) → n < 65536 → half (two n more) short k ≡ k n more
  half_back n more h =
      let low : n % 256 < 256 = omega arith in
      let high : n / 256 % 256 < 256 = omega arith in
      let e : n % 256 + n / 256 % 256 * 256 ≡ n = omega arith in
      rw (lt-ltb (n % 256) 256 low, lt-ltb (n / 256 % 256) 256 high) (ap (λ m. k m more) e)

  pub word_back : (n : ℕ) (more : List ℕ) → n < 4294967296 → word (four n more) short k ≡ k n more
  word_back n more h =
      let a : n % 256 < 256 = omega arith in
      let b : n / 256 % 256 < 256 = omega arith in
      let c : n / 65536 % 256 < 256 = omega arith in
      let d : n / 16777216 % 256 < 256 = omega arith in
      rw (lt-ltb _ 256 a, lt-ltb _ 256 b, lt-ltb _ 256 c, lt-ltb _ 256 d) (ap (λ m. k m more) (four_bytes n h))
