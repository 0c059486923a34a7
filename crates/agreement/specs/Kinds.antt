-- The bytes of the kinds. Assumes nothing: these are definitions.
use Rattle.std.specs.Prelude.{◌≡◌, ℕ, ◌<◌, ◌⊎◌, Ok, Err, Result}
use Rattle.agreement.specs.declared.kinds.ActKind.{ActKind}
use Rattle.agreement.specs.declared.kinds.ActKind.TheVariants.{Deposit, Choice}
use Rattle.agreement.specs.declared.kinds.ThingKind.{ThingKind}
use Rattle.agreement.specs.declared.kinds.ThingKind.TheVariants.{Over, Pay, Fork, Wait}
use Rattle.agreement.specs.declared.kinds.UnknownKind.{UnknownKind}

abbrev pub thing_code : ThingKind → ℕ
thing_code Over = 0
thing_code Pay = 1
thing_code Fork = 2
thing_code Wait = 3

abbrev pub act_code : ActKind → ℕ
act_code Deposit = 1
act_code Choice = 2

-- the kind that the byte stands for, or the byte stands for none
abbrev pub ThingDecodes : ℕ → Result ThingKind UnknownKind → Type 0
ThingDecodes byte (Ok kind) = thing_code kind ≡ byte
ThingDecodes byte (Err e) = 3 < byte

abbrev pub ActDecodes : ℕ → Result ActKind UnknownKind → Type 0
ActDecodes byte (Ok kind) = act_code kind ≡ byte
ActDecodes byte (Err e) = (byte ≡ 0) ⊎ (2 < byte)
