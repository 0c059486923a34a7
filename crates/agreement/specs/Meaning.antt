-- What bytes mean, whatever they are: what can't be read means over, with nothing behind it. Assumes nothing: these are
-- definitions.
use Rattle.std.specs.Prelude.{ℕ, zero, suc, cond, List, [], ◌∷◌, ◌==◌, nat_lt}
use Rattle.amount.specs.Amount.{Amount}
use Rattle.agreement.specs.Agreement.{Agreement, over, pay, fork, await, Acts, none, deposit, choose}
use Rattle.agreement.specs.Bytes.{byte, half, word}

-- the head of one of the four things, and the bytes behind that head; of a waiting, its day and the number of its acts
pub data Look : Type 0 where
  ends : List ℕ → Look
  pays : ℕ → ℕ → Amount → List ℕ → Look
  forks : ℕ → ℕ → List ℕ → Look
  waits : ℕ → ℕ → List ℕ → Look

-- the head of an act, and the bytes behind it; or that there is none, and the bytes behind the acts
pub data Act : Type 0 where
  no_more : List ℕ → Act
  puts : ℕ → ℕ → Amount → List ℕ → Act
  sets : ℕ → ℕ → ℕ → ℕ → List ℕ → Act

-- a byte below m
abbrev pub below : {R : Type 0} → ℕ → List ℕ → R → (ℕ → List ℕ → R) → R
below m bs bad k = byte bs bad (λ b r. cond (nat_lt b m) (k b r) bad)

-- n coefficients: those of q slots are read, the others are 0
abbrev pub rates_at : {R : Type 0} → ℕ → ℕ → List ℕ → R → (List ℕ → List ℕ → R) → R
rates_at zero q bs bad k = k [] bs
rates_at (suc n) zero bs bad k = rates_at n zero bs bad (λ cs r. k (0 ∷ cs) r)
rates_at (suc n) (suc q) bs bad k = half bs bad (λ c r. rates_at n q r bad (λ cs s. k (c ∷ cs) s))

abbrev pub amount_at : {R : Type 0} → ℕ → List ℕ → R → (Amount → List ℕ → R) → R
amount_at q bs bad k = word bs bad (λ n r. rates_at 8 q r bad (λ cs s. k (record { base = n; per = cs }) s))

-- two parties and an amount
abbrev pub transfer_at : {R : Type 0} → ℕ → ℕ → List ℕ → R → (ℕ → ℕ → Amount → List ℕ → R) → R
transfer_at p q bs bad k = below p bs bad (λ f r. below p r bad (λ t s. amount_at q s bad (λ a u. k f t a u)))

abbrev pub look_pay : ℕ → ℕ → List ℕ → Look
look_pay p q bs = transfer_at p q bs (ends []) pays

abbrev pub look_fork : ℕ → List ℕ → Look
look_fork q bs = below q bs (ends []) (λ s r. word r (ends []) (λ n u. forks s n u))

abbrev pub look_wait : List ℕ → Look
look_wait bs = half bs (ends []) (λ d r. byte r (ends []) (λ m s. waits d m s))

abbrev pub look : ℕ → ℕ → List ℕ → Look
look p q bs =
    byte bs (ends []) (λ b r.
    cond (b == 0) (ends r)
    (cond (b == 1) (look_pay p q r)
    (cond (b == 2) (look_fork q r)
    (cond (b == 3) (look_wait r) (ends [])))))

abbrev pub look_deposit : ℕ → ℕ → List ℕ → Act
look_deposit p q bs = transfer_at p q bs (no_more []) puts

abbrev pub look_choice : ℕ → ℕ → List ℕ → Act
look_choice p q bs =
    below p bs (no_more []) (λ w r. below q r (no_more []) (λ s u. word u (no_more []) (λ low v. word v (no_more []) (λ high x. sets w s low high x))))

-- the next of m acts
abbrev pub look_act : ℕ → ℕ → ℕ → List ℕ → Act
look_act p q zero bs = no_more bs
look_act p q (suc m) bs =
    byte bs (no_more []) (λ b r. cond (b == 1) (look_deposit p q r) (cond (b == 2) (look_choice p q r) (no_more [])))

-- what a part of the bytes means, and the bytes behind it
pub record Part : Type 0 where
  pub what : Agreement
  pub rest : List ℕ

pub record Awaited : Type 0 where
  pub what : Acts
  pub rest : List ℕ

-- from the next act, what its continuation means, and what the acts behind that mean
abbrev pub act_then : (List ℕ → Part) → (List ℕ → Awaited) → Act → Awaited
act_then next more (no_more r) = record { what = none; rest = r }
act_then next more (puts w acc a r) =
    record { what = deposit w acc a (next r).what (more (next r).rest).what; rest = (more (next r).rest).rest }
act_then next more (sets w s low high r) =
    record { what = choose w s low high (next r).what (more (next r).rest).what; rest = (more (next r).rest).rest }

abbrev pub acts_meant : ℕ → ℕ → (List ℕ → Part) → ℕ → List ℕ → Awaited
acts_meant p q next zero bs = record { what = none; rest = bs }
acts_meant p q next (suc m) bs = act_then next (acts_meant p q next m) (look_act p q (suc m) bs)

abbrev pub look_then : ℕ → ℕ → (List ℕ → Part) → Look → Part
look_then p q next (ends r) = record { what = over; rest = r }
look_then p q next (pays f t a r) = record { what = pay f t a (next r).what; rest = (next r).rest }
look_then p q next (forks s n r) =
    record { what = fork s n (next r).what (next (next r).rest).what; rest = (next (next r).rest).rest }
look_then p q next (waits d m r) =
    record {
      what = await (acts_meant p q next m r).what d (next (acts_meant p q next m r).rest).what;
      rest = (next (acts_meant p q next m r).rest).rest;
    }

-- for p parties and q slots, at most d deep
abbrev pub meant : ℕ → ℕ → ℕ → List ℕ → Part
meant p q zero bs = record { what = over; rest = [] }
meant p q (suc d) bs = look_then p q (meant p q d) (look p q bs)

-- where somebody stands in an agreement: for how many parties and slots, how deep it may still go, and the bytes
pub record Spot : Type 0 where
  pub parties : ℕ
  pub slots : ℕ
  pub depth : ℕ
  pub bytes : List ℕ

abbrev pub meaning : Spot → Agreement
meaning s = (meant s.parties s.slots s.depth s.bytes).what

abbrev pub behind : Spot → List ℕ
behind s = (meant s.parties s.slots s.depth s.bytes).rest
