-- All checks that fail. Assumes nothing: these are definitions.
--
-- A walk goes through the bytes in their order, records a check that fails and goes on, wherever what is due next is
-- still known: only after a missing byte or an unknown kind it is not. Each step is handed the bytes from its own on,
-- and k, which goes on behind it.
use Rattle.std.specs.Prelude.{ℕ, zero, suc, ◌+◌, Bool, true, false, cond, not, ◌&&◌, ◌||◌, List, [], ◌∷◌, length, replicate, ◌==◌, nat_le, nat_lt, slice_index_or, slice_set}
use Rattle.agreement.specs.Bytes.{byte, half, word}
use Rattle.agreement.specs.declared.Fault.{Fault}
use Rattle.agreement.specs.declared.Fault.TheVariants.{Parties, Slots, Cut, Kind, TooLarge, Party, Slot, Cents, Value, ActCount, SetTwice, Alike, Surplus}
use Rattle.agreement.specs.declared.Wrong.{Wrong}

abbrev pub wrong : Fault → ℕ → Wrong
wrong fault left = record { fault = fault; left = left }

-- recorded if it fails; in both cases it goes on
abbrev pub check : Bool → Fault → ℕ → List Wrong → List Wrong
check true fault left more = more
check false fault left more = wrong fault left ∷ more

-- the bytes end too soon
abbrev pub cut : List Wrong
cut = wrong Cut 0 ∷ []

-- one of the n that there are
abbrev pub index : Fault → ℕ → List ℕ → (ℕ → List ℕ → List Wrong) → List Wrong
index fault n bs k = byte bs cut (λ b r. check (nat_lt b n) fault (length bs) (k b r))

abbrev pub party : ℕ → List ℕ → (ℕ → List ℕ → List Wrong) → List Wrong
party p bs k = index Party p bs k

abbrev pub slot : ℕ → List ℕ → (ℕ → List ℕ → List Wrong) → List Wrong
slot q bs k = index Slot q bs k

-- a slot to be set: it is there, and on this way it was not set before
abbrev pub fresh : ℕ → List Bool → List ℕ → (ℕ → List ℕ → List Wrong) → List Wrong
fresh q us bs k =
    byte bs cut (λ b r. cond (nat_lt b q) (check (not (slice_index_or us b false)) SetTwice (length bs) (k b r)) (wrong Slot (length bs) ∷ k b r))

-- the cents per unit of one slot
abbrev pub rate : List ℕ → (List ℕ → List Wrong) → List Wrong
rate bs k = half bs cut (λ n r. check (nat_le n 1000) Cents (length bs) (k r))

abbrev pub rates : ℕ → List ℕ → (List ℕ → List Wrong) → List Wrong
rates zero bs k = k bs
rates (suc q) bs k = rate bs (λ r. rates q r k)

abbrev pub amount : ℕ → List ℕ → (List ℕ → List Wrong) → List Wrong
amount q bs k = word bs cut (λ n r. check (nat_le n 1000000000) Cents (length bs) (rates q r k))

-- a slot's value, or what it is compared with
abbrev pub value : List ℕ → (ℕ → List ℕ → List Wrong) → List Wrong
value bs k = word bs cut (λ n r. check (nat_le n 1000000) Value (length bs) (k n r))

-- the high end of the values from low on
abbrev pub high : ℕ → List ℕ → (List ℕ → List Wrong) → List Wrong
high low bs k = word bs cut (λ n r. check (nat_le n 1000000 && nat_le low n) Value (length bs) (k r))

-- two parties and an amount
abbrev pub transfer : ℕ → ℕ → List ℕ → (ℕ → ℕ → List ℕ → List Wrong) → List Wrong
transfer p q bs k = party p bs (λ f r. party p r (λ t s. amount q s (k f t)))

abbrev pub payment : ℕ → ℕ → List ℕ → (List ℕ → List Wrong) → List Wrong
payment p q bs k = transfer p q bs (λ f t. k)

abbrev pub branch : ℕ → List ℕ → (List ℕ → List Wrong) → List Wrong
branch q bs k = slot q bs (λ s r. value r (λ n u. k u))

abbrev pub waiting : List ℕ → (ℕ → List ℕ → List Wrong) → List Wrong
waiting bs k = half bs cut (λ d r. byte r cut (λ m s. check (nat_le 1 m && nat_le m 16) ActCount (length r) (k m s)))

abbrev pub deposit : ℕ → ℕ → List ℕ → (ℕ → ℕ → List ℕ → List Wrong) → List Wrong
deposit p q bs k = transfer p q bs k

abbrev pub choice : ℕ → ℕ → List Bool → List ℕ → (ℕ → ℕ → List ℕ → List Wrong) → List Wrong
choice p q us bs k = party p bs (λ w r. fresh q us r (λ s u. value u (λ low v. high low v (k w s))))

-- the acts of one waiting are told apart by their kind, their party, and their account or slot
pub record Key : Type 0 where
  pub kind : ℕ
  pub who : ℕ
  pub what : ℕ

abbrev pub among : ℕ → ℕ → ℕ → List Key → Bool
among kind who what [] = false
among kind who what (x ∷ xs) =
    (kind == x.kind && (who == x.who && what == x.what)) || among kind who what xs

-- the act at the front of the bytes is like none that came before it; that is known once its third byte is there
abbrev pub unlike : List Key → List ℕ → List Wrong → List Wrong
unlike seen [] more = more
unlike seen (b ∷ []) more = more
unlike seen (b ∷ w ∷ []) more = more
unlike seen (b ∷ w ∷ x ∷ bs) more =
    check (not (among b w x seen)) Alike (length (b ∷ w ∷ x ∷ bs)) more

-- how a continuation is walked through: the slots set before it, how many things came before it, its bytes, and what
-- goes on behind it with the things so far
abbrev pub Walk : Type 0
Walk = List Bool → ℕ → List ℕ → (ℕ → List ℕ → List Wrong) → List Wrong

-- what an act has before its continuation: k is told of the slots set before that, and of the act's key
abbrev pub act : ℕ → ℕ → List Bool → List Key → List ℕ → (List Bool → Key → List ℕ → List Wrong) → List Wrong
act p q us seen bs k =
    byte bs cut (λ b r.
    cond (b == 1) (unlike seen bs (deposit p q r (λ w x. k us (record { kind = 1; who = w; what = x }))))
    (cond (b == 2) (unlike seen bs (choice p q us r (λ w x. k (slice_set us x true) (record { kind = 2; who = w; what = x }))))
    (wrong Kind (length bs) ∷ [])))

-- so many acts
abbrev pub acts : ℕ → ℕ → Walk → List Bool → ℕ → List Key → ℕ → List ℕ → (ℕ → List ℕ → List Wrong) → List Wrong
acts p q next us zero seen t bs k = k t bs
acts p q next us (suc m) seen t bs k =
    act p q us seen bs (λ vs x r. next vs t r (λ t₁ s. acts p q next us m (x ∷ seen) t₁ s k))

-- what follows the kind of one of the four things
abbrev pub follow : ℕ → ℕ → Walk → List Bool → ℕ → ℕ → List ℕ → (ℕ → List ℕ → List Wrong) → List Wrong
follow p q next us kind t bs k =
    cond (kind == 0) (k t bs)
    (cond (kind == 1) (payment p q bs (λ r. next us t r k))
    (cond (kind == 2) (branch q bs (λ r. next us t r (λ t₁ s. next us t₁ s k)))
    (waiting bs (λ m r. acts p q next us m [] t r (λ t₁ s. next us t₁ s k)))))

-- one of the four things, d deep and with t things before it. n is at least the number of bytes, and ends the recursion
abbrev pub thing : ℕ → ℕ → List Bool → ℕ → ℕ → List ℕ → ℕ → (ℕ → List ℕ → List Wrong) → List Wrong
thing p q us d t [] n k = cut
thing p q us d t (b ∷ bs) zero k = cut
thing p q us d t (b ∷ bs) (suc n) k =
    cond (nat_lt b 4)
    (check (nat_le d 64 && nat_lt t 512) TooLarge (length (b ∷ bs)) (follow p q (λ vs u r. thing p q vs (d + 1) u r n) us b (t + 1) bs k))
    (wrong Kind (length (b ∷ bs)) ∷ [])

-- how the continuations are walked through that are d deep
abbrev pub walker : ℕ → ℕ → ℕ → ℕ → Walk
walker p q d n us t bs k = thing p q us d t bs n k

-- nothing stands behind the agreement
abbrev pub surplus : ℕ → List ℕ → List Wrong
surplus t [] = []
surplus t (b ∷ bs) = wrong Surplus (length (b ∷ bs)) ∷ []

-- the whole: the number of parties, the number of slots, the agreement
abbrev pub walk : List ℕ → List Wrong
walk bs =
    byte bs cut (λ p r.
    check (nat_le 1 p && nat_le p 8) Parties (length bs)
    (byte r cut (λ q s.
    check (nat_le q 8) Slots (length r)
    (thing p q (replicate 8 false) 1 0 s (length s) surplus))))
