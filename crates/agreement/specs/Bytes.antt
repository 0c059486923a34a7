-- Numbers as bytes, low byte first: how they are read and how they are written. Assumes nothing: these are definitions.
--
-- A reader is handed the bytes, what to answer where they end too soon, and what to do with the number and the bytes
-- behind it.
use Rattle.std.specs.Prelude.{ℕ, ◌+◌, ◌*◌, ◌/◌, ◌%◌, cond, List, [], ◌∷◌, nat_lt}

-- a number that is no byte ends the bytes
abbrev pub byte : {R : Type 0} → List ℕ → R → (ℕ → List ℕ → R) → R
byte [] short k = short
byte (b ∷ bs) short k = cond (nat_lt b 256) (k b bs) short

-- a number of two bytes
abbrev pub half : {R : Type 0} → List ℕ → R → (ℕ → List ℕ → R) → R
half bs short k = byte bs short (λ a r. byte r short (λ b s. k (a + b * 256) s))

-- a number of four bytes
abbrev pub word : {R : Type 0} → List ℕ → R → (ℕ → List ℕ → R) → R
word bs short k =
    byte bs short (λ a r. byte r short (λ b s. byte s short (λ c u. byte u short (λ d v. k (a + b * 256 + c * 65536 + d * 16777216) v))))

-- each number, written before what follows
abbrev pub two : ℕ → List ℕ → List ℕ
two n more = (n % 256) ∷ (n / 256 % 256) ∷ more

abbrev pub four : ℕ → List ℕ → List ℕ
four n more = (n % 256) ∷ (n / 256 % 256) ∷ (n / 65536 % 256) ∷ (n / 16777216 % 256) ∷ more
