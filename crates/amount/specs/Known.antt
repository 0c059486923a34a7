-- What of an amount counts while only some slots are set. Assumes nothing: these are definitions.
use Rattle.std.specs.Prelude.{◌≡◌, ℕ, Bool, cond, List, [], ◌∷◌}
use Rattle.amount.specs.Amount.{Amount, worth}

-- as many entries as there are slots, 0 where the slot is not set
unfoldable pub mask : List Bool → List ℕ → List ℕ
mask [] cs = []
mask (b ∷ bs) [] = 0 ∷ mask bs []
mask (b ∷ bs) (c ∷ cs) = cond b c 0 ∷ mask bs cs

abbrev pub known : List Bool → Amount → Amount
known set a = record { base = a.base; per = mask set a.per }

-- k is worth what a is with the slots at 0 that are not set, whatever they are set to later
abbrev pub Counts : List Bool → Amount → Amount → Type 0
Counts set a k = (vs : List ℕ) → worth k vs ≡ worth a (mask set vs)
