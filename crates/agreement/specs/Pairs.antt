-- What a set of pairs holds. Assumes nothing: these are definitions.
use Rattle.std.specs.Prelude.{ℕ, Bool, false, [], slice_index_or}
use Rattle.agreement.specs.declared.pairs.Pairs.{Pairs}

-- nothing is marked past the eight parties, accounts and slots
abbrev pub marked : Pairs → ℕ → ℕ → Bool
marked pairs who what = slice_index_or (slice_index_or pairs.marks who []) what false
