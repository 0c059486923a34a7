-- Numbers at the front of bytes that are long enough.
use Rattle.std.proofs.Common.{◌≡◌, ℕ, ◌+◌, ◌*◌, ◌<◌, ◌≤◌, List, [], ◌∷◌, length, get_or, take, drop, refl, arith, lt-ltb}
use Rattle.agreement.specs.Bytes.{half, word}

abbrev pub AreBytes : List ℕ → Type 0
AreBytes bs = (i : ℕ) → get_or bs i 0 < 256

pub half_there :
    {R : Type 0} (bs : List ℕ) (short : R) (k : ℕ → List ℕ → R) → 2 ≤ length bs → AreBytes bs →
    half bs short k ≡ k (get_or (take 2 bs) 0 0 + get_or (take 2 bs) 1 0 * 256) (drop 2 bs)
half_there [] short k h fits = absurd (omega arith)
half_there (a ∷ []) short k h fits = absurd (omega arith)
half_there (a ∷ b ∷ bs) short k h fits = rw (lt-ltb a 256 (fits 0), lt-ltb b 256 (fits 1)) refl

pub word_there :
    {R : Type 0} (bs : List ℕ) (short : R) (k : ℕ → List ℕ → R) → 4 ≤ length bs → AreBytes bs →
    word bs short k
    ≡ k (get_or (take 4 bs) 0 0 + get_or (take 4 bs) 1 0 * 256 + get_or (take 4 bs) 2 0 * 65536 + get_or (take 4 bs) 3 0 * 16777216) (drop 4 bs)
word_there [] short k h fits = absurd (omega arith)
word_there (a ∷ []) short k h fits = absurd (omega arith)
word_there (a ∷ b ∷ []) short k h fits = absurd (omega arith)
word_there (a ∷ b ∷ c ∷ []) short k h fits = absurd (omega arith)
word_there (a ∷ b ∷ c ∷ d ∷ bs) short k h fits =
    rw (lt-ltb a 256 (fits 0), lt-ltb b 256 (fits 1), lt-ltb c 256 (fits 2), lt-ltb d 256 (fits 3)) refl
