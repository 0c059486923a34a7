-- What is said of a form's least over a box, and of the corner where it lies. Assumes nothing: these are definitions.
use Rattle.std.specs.Prelude.{◌≡◌, ℕ, suc, ◌+◌, ◌-◌, ◌≤◌, List, ℤ, pos, negsuc, ◌-ℤ◌, ◌≤ℤ◌}
use Rattle.amount.specs.Amount.{Amount, worth}
use Rattle.amount.specs.Corner.{corner, Inside}
use Rattle.amount.specs.Form.{lowest}
use Rattle.amount.specs.Less.{Less}
use Rattle.amount.specs.declared.Bounds.{Bounds}
use Rattle.amount.specs.declared.Form.{Form}

-- the slot values where the form is least, by the signs of its coefficients
abbrev pub lowest_in : Form → Bounds → List ℕ
lowest_in f b = lowest f.per b.low b.high

-- the corner of the box at which x less y is least
abbrev pub corner_of : Amount → Amount → Bounds → List ℕ
corner_of x y b = corner x.per y.per b.low b.high

-- the form is least at the corner of the two amounts that it stands for
abbrev pub AtCorner : Form → Bounds → List ℕ → Type 0
AtCorner f b vs = (x y : Amount) → Less x y f → vs ≡ corner_of x y b

-- the corner belongs to the box if the box holds anything
abbrev pub Belongs : Bounds → List ℕ → Type 0
Belongs b vs = (ws : List ℕ) → Inside b.low ws b.high → Inside b.low vs b.high

-- r is the least that x less y comes to over the box: it does so at the corner, and no slot values of the box give less
pub record Least (x y : Amount) (b : Bounds) (r : ℤ) : Type 0 where
  pub reached : r ≡ pos (worth x (corner_of x y b)) -ℤ pos (worth y (corner_of x y b))
  pub none_less : (vs : List ℕ) → Inside b.low vs b.high → r ≤ℤ (pos (worth x vs) -ℤ pos (worth y vs))

-- that, of the two amounts that the form stands for
abbrev pub Exact : Form → Bounds → ℤ → Type 0
Exact f b r = (x y : Amount) → Less x y f → Least x y b r

-- by how much a number is below 0
abbrev pub lack : ℤ → ℕ
lack (pos n) = 0
lack (negsuc n) = suc n

-- x falls short of y by r at the corner, and by no more at any slot values of the box
pub record Shortage (x y : Amount) (b : Bounds) (r : ℕ) : Type 0 where
  pub reached : r ≡ worth y (corner_of x y b) - worth x (corner_of x y b)
  pub none_more : (vs : List ℕ) → Inside b.low vs b.high → worth y vs ≤ worth x vs + r

-- that, of the two amounts that the form stands for
abbrev pub Short : Form → Bounds → ℕ → Type 0
Short f b r = (x y : Amount) → Less x y f → Shortage x y b r
