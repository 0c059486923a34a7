-- Forms: an amount less an amount, as signed numbers. Assumes nothing: these are definitions.
use Rattle.std.specs.Prelude.{◌≡◌, ℕ, ◌+◌, ◌*◌, ◌<◌, ◌^◌, List, [], ◌∷◌, map, replicate, ℤ, pos, negsuc, ◌+ℤ◌, ◌-ℤ◌, ◌*ℤ◌, neg_ℤ, ◌≤ℤ◌, slice_index_or}
use Rattle.std.specs.List.{zip}
use Rattle.amount.specs.Amount as amounts
use Rattle.amount.specs.declared.Amount.{Amount}
use Rattle.amount.specs.declared.Form.{Form}

-- the amount that the code's amount stands for
abbrev pub meaning : Amount → amounts.Amount
meaning a = record { base = a.base; per = a.per }

-- each coefficient times its slot's value, summed
unfoldable pub dotℤ : List ℤ → List ℕ → ℤ
dotℤ [] vs = pos 0
dotℤ (c ∷ cs) [] = pos 0
dotℤ (c ∷ cs) (v ∷ vs) = c *ℤ pos v +ℤ dotℤ cs vs

-- what a form comes to at slot values
abbrev pub value : Form → List ℕ → ℤ
value f vs = f.base +ℤ dotℤ f.per vs

-- low where the coefficient is 0 or more, else high
abbrev pub low_or_high : ℤ → ℕ → ℕ → ℕ
low_or_high (pos c) l h = l
low_or_high (negsuc c) l h = h

-- that, for each slot
unfoldable pub lowest : List ℤ → List ℕ → List ℕ → List ℕ
lowest cs lo hi = map (λ p. low_or_high p.0 p.1.0 p.1.1) (zip cs (zip lo hi))

-- what an account is at first
abbrev pub nothing : Form
nothing = record { base = pos 0; per = replicate 8 (pos 0) }

-- op on each coefficient and that of the amount, which is 0 where the list lacks it
unfoldable pub each : (ℤ → ℤ → ℤ) → List ℤ → List ℕ → List ℤ
each op [] es = []
each op (c ∷ cs) [] = op c (pos 0) ∷ each op cs []
each op (c ∷ cs) (e ∷ es) = op c (pos e) ∷ each op cs es

abbrev pub changed : (ℤ → ℤ → ℤ) → Form → amounts.Amount → Form
changed op f a = record { base = op f.base (pos a.base); per = each op f.per a.per }

abbrev pub increased : Form → amounts.Amount → Form
increased f a = changed ◌+ℤ◌ f a

abbrev pub decreased : Form → amounts.Amount → Form
decreased f a = changed ◌-ℤ◌ f a

-- z lies from -n to n
pub record Within (n : ℕ) (z : ℤ) : Type 0 where
  pub low : neg_ℤ (pos n) ≤ℤ z
  pub high : z ≤ℤ pos n

-- at numbers of the sizes that are met, the calls described by post give what op does
abbrev pub Gives : (ℤ → ℤ → ℤ → Type 0) → (ℤ → ℤ → ℤ) → Type 0
Gives post op = (z r : ℤ) (n : ℕ) → Within (2 ^ 62) z → n < 2 ^ 32 → post z (pos n) r → r ≡ op z (pos n)

-- op takes a number no further than its second argument says
abbrev pub Moves : (ℤ → ℤ → ℤ) → Type 0
Moves op = (z : ℤ) (m n : ℕ) → Within m z → Within (m + n) (op z (pos n))

-- no larger than n amounts can make it: a base is below 2 ^ 32, and cents per unit are below 2 ^ 16
pub record UpTo (n : ℕ) (f : Form) : Type 0 where
  pub base : Within (4294967295 * n) f.base
  pub per : (k : ℕ) → Within (65535 * n) (slice_index_or f.per k (pos 0))

-- one amount more can be added or taken away. One way through an agreement has at most 64 amounts
abbrev pub Roomy : Form → Type 0
Roomy f = UpTo 1023 f

-- what the form comes to, at any slot values, fits 64 bits
abbrev pub Bounded : Form → Type 0
Bounded f = UpTo 1024 f
