-- The numbers of the faults, and how a refusal is told. Assumes nothing: these are definitions.
use Rattle.std.specs.Prelude.{ℕ, List, ◌++◌, codes, decimal}
use Rattle.agreement.specs.declared.Fault.{Fault}
use Rattle.agreement.specs.declared.Fault.TheVariants.{Parties, Slots, Cut, Kind, TooLarge, Party, Slot, Cents, Value, ActCount, SetTwice, Alike, Surplus, Message, Sender, NotClear, Memory}
use Rattle.agreement.specs.declared.Refusal.{Refusal}

abbrev pub number : Fault → ℕ
number Parties = 1
number Slots = 2
number Cut = 3
number Kind = 4
number TooLarge = 5
number Party = 6
number Slot = 7
number Cents = 8
number Value = 9
number ActCount = 10
number SetTwice = 11
number Alike = 12
number Surplus = 13
number Message = 14
number Sender = 15
number NotClear = 16
number Memory = 17

-- as in "refused 3 at 17"
abbrev pub told : Refusal → List ℕ
told r = codes "refused " ++ (decimal (number r.fault) ++ (codes " at " ++ decimal r.place))
