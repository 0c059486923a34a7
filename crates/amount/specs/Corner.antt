-- Boxes of slot values, and the corner at which one amount less another is least. Assumes nothing: these are definitions.
use Rattle.std.specs.Prelude.{◌≡◌, ℕ, zero, suc, ◌-◌, ◌≤◌, List, [], ◌∷◌, length}
use Rattle.amount.specs.Amount.{Amount, worth}

-- each slot at its high end where the second amount has more per unit, else at its low end
unfoldable pub corner : List ℕ → List ℕ → List ℕ → List ℕ → List ℕ
corner cs es [] hi = []
corner cs es (l ∷ lo) [] = []
corner [] es (l ∷ lo) (h ∷ hi) = h ∷ corner [] [] lo hi
corner (c ∷ cs) [] (l ∷ lo) (h ∷ hi) = l ∷ corner cs [] lo hi
corner (c ∷ cs) (e ∷ es) (l ∷ lo) (h ∷ hi) = low_or_high (e - c) l h ∷ corner cs es lo hi
  where
    low_or_high : ℕ → ℕ → ℕ → ℕ
    low_or_high zero l h = l
    low_or_high (suc n) l h = h

-- slot values from the low ends to the high ends of a box
pub data Inside : List ℕ → List ℕ → List ℕ → Type 0 where
  none : Inside [] [] []
  one : {l v h : ℕ} {lo vs hi : List ℕ} → l ≤ v → v ≤ h → Inside lo vs hi → Inside (l ∷ lo) (v ∷ vs) (h ∷ hi)

-- an amount that is at least another at the corner is so for all slot values of the box
unfoldable pub CornerLaw : Type 0
CornerLaw =
    (x y : Amount) (lo hi : List ℕ) → length x.per ≡ length lo → length y.per ≡ length lo →
    worth y (corner x.per y.per lo hi) ≤ worth x (corner x.per y.per lo hi) →
    (vs : List ℕ) → Inside lo vs hi → worth y vs ≤ worth x vs
