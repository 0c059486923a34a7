-- How what reading answers is told in numbers. Assumes nothing: these are definitions.
use Rattle.std.specs.Prelude.{ℕ, Ok, Err, Result}
use Rattle.agreement.specs.Fault as refusals
use Rattle.agreement.specs.Meaning.{Spot}
use Rattle.agreement.specs.declared.Refusal.{Refusal}

-- no refusal has the number 0
abbrev pub numbered : Result Spot Refusal → ℕ
numbered (Ok s) = 0
numbered (Err r) = refusals.number r.fault

-- the place of the refusal; without one, what was there before
abbrev pub put : ℕ → Result Spot Refusal → ℕ
put before (Ok s) = before
put before (Err r) = r.place
