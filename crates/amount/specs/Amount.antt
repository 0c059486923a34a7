-- Amounts and what they are worth. Assumes nothing: these are definitions.
use Rattle.std.specs.Prelude.{ℕ, ◌+◌, ◌*◌, List, [], ◌∷◌}

-- an amount: a base, and so much for each unit chosen in each slot
pub record Amount : Type 0 where
  pub base : ℕ
  pub per : List ℕ

unfoldable pub dot : List ℕ → List ℕ → ℕ
dot [] vs = 0
dot (c ∷ cs) [] = 0
dot (c ∷ cs) (v ∷ vs) = c * v + dot cs vs

abbrev pub worth : Amount → List ℕ → ℕ
worth a slots = a.base + dot a.per slots
