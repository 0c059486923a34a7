-- How a form stands for one amount less another. Assumes nothing: these are definitions.
use Rattle.std.specs.Prelude.{◌≡◌, ℕ, ◌+◌, List, [], ◌∷◌, length, replicate, pos, ◌-ℤ◌, slice_index, slice_index_or}
use Rattle.amount.specs.Amount.{Amount}
use Rattle.amount.specs.declared.Form.{Form}

-- f is x less y, coefficient by coefficient, and x has one for each slot
pub record Less (x y : Amount) (f : Form) : Type 0 where
  pub base : f.base ≡ pos x.base -ℤ pos y.base
  pub per : (k : ℕ) → slice_index_or f.per k (pos 0) ≡ pos (slice_index x.per k) -ℤ pos (slice_index y.per k)
  pub long : length x.per ≡ length f.per

-- place by place; what a list lacks is 0
unfoldable pub sums : List ℕ → List ℕ → List ℕ
sums [] es = es
sums (c ∷ cs) [] = c ∷ cs
sums (c ∷ cs) (e ∷ es) = (c + e) ∷ sums cs es

-- two amounts as one
abbrev pub together : Amount → Amount → Amount
together x y = record { base = x.base + y.base; per = sums x.per y.per }

abbrev pub no_money : Amount
no_money = record { base = 0; per = replicate 8 0 }

-- r is f with a added to what it stands for
abbrev pub Adds : Form → Amount → Form → Type 0
Adds f a r = (x y : Amount) → Less x y f → Less (together x a) y r

-- r is f with a taken away
abbrev pub Takes : Form → Amount → Form → Type 0
Takes f a r = (x y : Amount) → Less x y f → Less x (together y a) r
