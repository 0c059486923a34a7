-- How many bytes things and acts take. Assumes nothing: these are definitions.
use Rattle.std.specs.Prelude.{ℕ, [], length}
use Rattle.agreement.specs.Agreement.{Agreement, Acts}
use Rattle.agreement.specs.Writing.{writing, writing_acts}

-- over q slots
abbrev pub size : ℕ → Agreement → ℕ
size q a = length (writing q a [])

abbrev pub size_acts : ℕ → Acts → ℕ
size_acts q acts = length (writing_acts q acts [])
