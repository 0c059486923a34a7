-- What readers of numbers and amounts answer. Assumes nothing: these are definitions.
use Rattle.std.specs.Prelude.{◌≡◌, ℕ, List, [], ◌∷◌, length, Some, None, Option}
use Rattle.std.specs.Borrow.{Bor}
use Rattle.amount.specs.Amount as value
use Rattle.amount.specs.Form.{meaning}
use Rattle.amount.specs.declared.Amount.{Amount}
use Rattle.agreement.specs.Meaning.{Look, ends, Act, no_more}

-- how it goes on after reading
abbrev pub goes : {X R : Type 0} → Option (X × Bor (List ℕ)) → R → (X → List ℕ → R) → R
goes None bad k = bad
goes (Some x) bad k = k x.0 x.1.now

-- r is what the reader reads of the bytes
pub record Reads {X : Type 0} (r : Option (X × Bor (List ℕ))) (bs : List ℕ) (reader : (R : Type 0) → List ℕ → R → (X → List ℕ → R) → R) : Type 0 where
  pub looks : (k : X → List ℕ → Look) → reader Look bs (ends []) k ≡ goes r (ends []) k
  pub acts : (k : X → List ℕ → Act) → reader Act bs (no_more []) k ≡ goes r (no_more []) k

-- the first byte and those behind it; else there is none
abbrev pub Front : List ℕ → Option (ℕ × Bor (List ℕ)) → Type 0
Front bs None = length bs ≡ 0
Front bs (Some x) = bs ≡ x.0 ∷ x.1.now

-- P of what was read, if anything was
abbrev pub Given : {X : Type 0} → Option X → (X → Type 0) → Type 0
Given None P = Unit {0}
Given (Some x) P = P x

-- that, with the bytes behind it
abbrev pub Found : {X : Type 0} → Option (X × Bor (List ℕ)) → (X → List ℕ → Type 0) → Type 0
Found r P = Given r (λ x. P x.0 x.1.now)

abbrev pub valued : Option (Amount × Bor (List ℕ)) → Option (value.Amount × Bor (List ℕ))
valued None = None
valued (Some x) = Some (meaning x.0, x.1)
