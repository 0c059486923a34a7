-- What reading answers: the least of all checks that fail, or where the agreement begins. Assumes nothing: these are
-- definitions.
use Rattle.std.specs.Prelude.{◌≡◌, ℕ, ◌-◌, Bool, true, cond, ◌&&◌, ◌||◌, List, [], ◌∷◌, ◌++◌, length, drop, Some, None, Ok, Err, Option, Result, ◌==◌, nat_le, nat_lt, slice_index}
use Rattle.agreement.specs.Agreement as value
use Rattle.agreement.specs.Checks.{walk}
use Rattle.agreement.specs.Fault.{number}
use Rattle.agreement.specs.Limits.{Allowed}
use Rattle.agreement.specs.Meaning.{Spot, meaning}
use Rattle.agreement.specs.Writing.{written}
use Rattle.agreement.specs.declared.Agreement as code
use Rattle.agreement.specs.declared.Fault.TheVariants.{Surplus}
use Rattle.agreement.specs.declared.Refusal.{Refusal}
use Rattle.agreement.specs.declared.Wrong.{Wrong}

-- where fewer bytes are left, the place is further on
abbrev pub placed : ℕ → List Wrong → List Refusal
placed n [] = []
placed n (w ∷ ws) = record { fault = w.fault; place = n - w.left } ∷ placed n ws

-- more than 16,384 bytes
abbrev pub too_long : ℕ → List Refusal
too_long n = cond (nat_le n 16384) [] (record { fault = Surplus; place = 16384 } ∷ [])

-- all checks that fail, each with its place
abbrev pub failing : List ℕ → List Refusal
failing bs = placed (length bs) (walk bs) ++ too_long (length bs)

-- a smaller place counts first, and at one place the smaller number
abbrev pub sooner : Refusal → Refusal → Bool
sooner r s = nat_lt r.place s.place || (r.place == s.place && nat_le (number r.fault) (number s.fault))

abbrev pub lesser : Refusal → Option Refusal → Option Refusal
lesser r None = Some r
lesser r (Some s) = cond (sooner r s) (Some r) (Some s)

abbrev pub least : List Refusal → Option Refusal
least [] = None
least (r ∷ rs) = lesser r (least rs)

abbrev pub verdict : List ℕ → Option Refusal → Result Spot Refusal
verdict bs (Some r) = Err r
verdict bs None = Ok (record { parties = slice_index bs 0; slots = slice_index bs 1; depth = 64; bytes = drop 2 bs })

-- where an agreement that was read begins
abbrev pub begun : code.Agreement → Spot
begun a = record { parties = a.header.parties; slots = a.header.slots; depth = 64; bytes = a.bytes.now }

abbrev pub answered : Result code.Agreement Refusal → Result Spot Refusal
answered (Ok a) = Ok (begun a)
answered (Err r) = Err r

-- what reading answers
abbrev pub reading : List ℕ → Result Spot Refusal
reading bs = verdict bs (least (failing bs))

-- one of them
pub data Among : Refusal → List Refusal → Type 0 where
  here : {r : Refusal} {rs : List Refusal} → Among r (r ∷ rs)
  there : {r s : Refusal} {rs : List Refusal} → Among r rs → Among r (s ∷ rs)

-- one of them, and none comes sooner
pub record Least (r : Refusal) (rs : List Refusal) : Type 0 where
  pub one : Among r rs
  pub first : (s : Refusal) → Among s rs → sooner r s ≡ true

-- what is answered is the least of all checks that fail, and nothing is refused where none fails
abbrev pub First : List ℕ → Result Spot Refusal → Type 0
First bs (Ok s) = failing bs ≡ []
First bs (Err r) = Least r (failing bs)

-- these bytes are the writing of an agreement that the rules allow
pub record Taken (bs : List ℕ) (p q : ℕ) (a : value.Agreement) : Type 0 where
  pub allowed : Allowed p q a
  pub written : bs ≡ written p q a

-- just such bytes are taken, for the agreement that they mean
abbrev pub Taking : List ℕ → Result Spot Refusal → Type 0
Taking bs (Ok s) = Taken bs s.parties s.slots (meaning s)
Taking bs (Err r) = (p q : ℕ) (a : value.Agreement) → Taken bs p q a → ⊥

-- the answer of reading is an agreement for p parties and q slots that means a
abbrev pub Gives : ℕ → ℕ → value.Agreement → Result Spot Refusal → Type 0
Gives p q a (Ok s) = (s.parties ≡ p) × (s.slots ≡ q) × (meaning s ≡ a)
Gives p q a (Err r) = ⊥
