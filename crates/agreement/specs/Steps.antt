-- How a step of reading goes with the walk that records all checks. Assumes nothing: these are definitions.
use Rattle.std.specs.Prelude.{◌≡◌, ℕ, ◌-◌, Bool, false, cond, List, [], ◌∷◌, Some, None, Ok, Err, Option, Result, nat_le}
use Rattle.std.specs.Borrow.{Bor}
use Rattle.agreement.specs.Checks.{Key, among, act, walk}
use Rattle.agreement.specs.Pairs.{marked}
use Rattle.agreement.specs.declared.Agreement.{Agreement}
use Rattle.agreement.specs.declared.Fault.TheVariants.{Surplus}
use Rattle.agreement.specs.declared.Refusal.{Refusal}
use Rattle.agreement.specs.declared.Wrong.{Wrong}
use Rattle.agreement.specs.declared.pairs.Pairs.{Pairs}
use Rattle.agreement.specs.declared.seen.Seen.{Seen}
use Rattle.agreement.specs.declared.way.Way.{Way}

abbrev pub first : List Wrong → Option Wrong
first [] = None
first (w ∷ ws) = Some w

-- of the walk that goes on with k: where the step was good, the walk has nothing but what k has; else what the step
-- found is the first
abbrev pub Goes : {X : Type 0} → Result X Wrong → List Wrong → (X → List Wrong) → Type 0
Goes (Ok x) ws k = ws ≡ k x
Goes (Err w) ws k = first ws ≡ Some w

-- the third byte of an act completes its key
abbrev pub alike : Pairs → List ℕ → Bool
alike pairs [] = false
alike pairs (b ∷ []) = false
alike pairs (b ∷ w ∷ []) = false
alike pairs (b ∷ w ∷ x ∷ bs) = marked pairs w x

-- the marks are those of the keys of one kind
abbrev pub Marks : ℕ → Pairs → List Key → Type 0
Marks kind pairs keys = (who what : ℕ) → marked pairs who what ≡ among kind who what keys

pub record Keeps (seen : Seen) (keys : List Key) : Type 0 where
  pub deposits : Marks 1 seen.deposits keys
  pub settings : Marks 2 seen.settings keys

-- whether an act of this kind, at the front of the bytes, is like one of the keys
abbrev pub like : ℕ → List ℕ → List Key → Bool
like kind [] keys = false
like kind (b ∷ []) keys = false
like kind (b ∷ w ∷ []) keys = false
like kind (b ∷ w ∷ x ∷ bs) keys = among kind w x keys

-- the head of an act was good: the walk goes on behind it with the slots set before its continuation, and its key is marked
pub record Acted (p q : ℕ) (us : List Bool) (bs : List ℕ) (keys : List Key) (after : Seen) (vs : List Bool) (rest : List ℕ) : Type 0 where
  pub key : Key
  pub kept : Keeps after (key ∷ keys)
  pub goes : (k : List Bool → Key → List ℕ → List Wrong) → act p q us keys bs k ≡ k vs key rest

abbrev pub ActsOn : Way → List ℕ → List Key → Seen → Result (List Bool × Bor (List ℕ)) Wrong → Type 0
ActsOn way bs keys after (Ok x) = Acted way.header.parties way.header.slots way.used bs keys after x.0 x.1.now
ActsOn way bs keys after (Err w) =
    (k : List Bool → Key → List ℕ → List Wrong) → first (act way.header.parties way.header.slots way.used keys bs k) ≡ Some w

-- the whole was good, and begins where the answer says; or what is wrong is the first that the walk finds
abbrev pub Whole : List ℕ → Result Agreement Wrong → Type 0
Whole bs (Ok a) = (walk bs ≡ []) × (bs ≡ a.header.parties ∷ a.header.slots ∷ a.bytes.now)
Whole bs (Err w) = first (walk bs) ≡ Some w

-- the refusal of so many bytes that goes with the first fault of the walk
abbrev pub counted : ℕ → Wrong → Refusal
counted n w =
    cond (nat_le (n - w.left) 16384) (record { fault = w.fault; place = n - w.left }) (record { fault = Surplus; place = 16384 })
