-- What it says of each part that an agreement is well made, and that its numbers are within their bounds.
use Rattle.std.proofs.Common.{◌≡◌, ℕ, suc, ◌<◌, ◌≤◌, Bool, true, false, ◌&&◌, leb, List, length, get_or, set, ⊎_elim, ltb-true, leb-true}
use borrow.Author.Tests.{not-true}
use Rattle.std.proofs.lemmas.List.{get_or_past}
use Rattle.std.proofs.lemmas.Bool.{both_ways, and_parts, cases_lt}
use Rattle.amount.specs.Amount.{Amount}
use Rattle.agreement.specs.Agreement.{Agreement, pay, fork, await, Acts, deposit, choose, puts_too, sets_too, made, made_acts}
use Rattle.agreement.specs.Limits.{small_amount, small, small_acts}
use Rattle.agreement.specs.Writing.{count}

-- a bound, and something more
pub bound_and : (a b : ℕ) (t : Bool) → (leb a b && t) ≡ true → (a ≤ b) × (t ≡ true)
bound_and a b t h = let x = and_parts (leb a b) t h in (leb-true a b x.0, x.1)

-- a slot that is free is there
pub free_there : (us : List Bool) (s : ℕ) → get_or us s true ≡ false → s < length us
free_there us s e = ⊎_elim (λ h. h) (λ h. absurd (both_ways _ e (get_or_past us s true h))) (cases_lt s (length us))

module _ (p : ℕ) (us : List Bool) where
  pub record Pay (f t : ℕ) (k : Agreement) : Type 0 where
    pub from : f < p
    pub to : t < p
    pub next : made p us k ≡ true

  pub made_pay : (f t : ℕ) (a : Amount) (k : Agreement) → made p us (pay f t a k) ≡ true → Pay f t k
  made_pay f t a k h =
      let x = and_parts _ _ h in
      let y = and_parts _ _ x.0 in
      record { from = ltb-true f p y.0; to = ltb-true t p y.1; next = x.1 }

  pub record Fork (s : ℕ) (k l : Agreement) : Type 0 where
    pub slot : s < length us
    pub one : made p us k ≡ true
    pub other : made p us l ≡ true

  pub made_fork : (s n : ℕ) (k l : Agreement) → made p us (fork s n k l) ≡ true → Fork s k l
  made_fork s n k l h =
      let x = and_parts _ _ h in
      let y = and_parts _ _ x.1 in
      record { slot = ltb-true s (length us) x.0; one = y.0; other = y.1 }

  pub record Deposit (w acc : ℕ) (k : Agreement) (rest : Acts) : Type 0 where
    pub who : w < p
    pub account : acc < p
    pub unlike : puts_too w acc rest ≡ false
    pub next : made p us k ≡ true
    pub others : made_acts p us rest ≡ true

  pub made_deposit : (w acc : ℕ) (a : Amount) (k : Agreement) (rest : Acts) → made_acts p us (deposit w acc a k rest) ≡ true → Deposit w acc k rest
  made_deposit w acc a k rest h =
      let x = and_parts _ _ h in
      let y = and_parts _ _ x.0 in
      let z = and_parts _ _ y.0 in
      let u = and_parts _ _ x.1 in
      record { who = ltb-true w p z.0; account = ltb-true acc p z.1; unlike = not-true _ y.1; next = u.0; others = u.1 }

  pub record Choose (w s lo hi : ℕ) (k : Agreement) (rest : Acts) : Type 0 where
    pub who : w < p
    pub free : get_or us s true ≡ false
    pub order : lo ≤ hi
    pub unlike : sets_too w s rest ≡ false
    pub next : made p (set us s true) k ≡ true
    pub others : made_acts p us rest ≡ true

  pub made_choose : (w s lo hi : ℕ) (k : Agreement) (rest : Acts) → made_acts p us (choose w s lo hi k rest) ≡ true → Choose w s lo hi k rest
  made_choose w s lo hi k rest h =
      let x = and_parts _ _ h in
      let y = and_parts _ _ x.0 in
      let z = and_parts _ _ y.0 in
      let v = and_parts _ _ y.1 in
      let u = and_parts _ _ x.1 in
      record { who = ltb-true w p z.0; free = not-true _ z.1; order = leb-true lo hi v.0; unlike = not-true _ v.1; next = u.0; others = u.1 }

module _ (q : ℕ) where
  pub record SmallFork (n : ℕ) (k l : Agreement) : Type 0 where
    pub value : n ≤ 1000000
    pub one : small q k ≡ true
    pub other : small q l ≡ true

  pub small_fork : (s n : ℕ) (k l : Agreement) → small q (fork s n k l) ≡ true → SmallFork n k l
  small_fork s n k l h =
      let x = bound_and n 1000000 _ h in
      let y = and_parts _ _ x.1 in
      record { value = x.0; one = y.0; other = y.1 }

  pub record SmallAwait (acts : Acts) (d : ℕ) (k : Agreement) : Type 0 where
    pub day : d < 65536
    pub some : 1 ≤ count acts
    pub few : count acts ≤ 16
    pub one : small_acts q acts ≡ true
    pub other : small q k ≡ true

  pub small_await : (acts : Acts) (d : ℕ) (k : Agreement) → small q (await acts d k) ≡ true → SmallAwait acts d k
  small_await acts d k h =
      let x = and_parts _ _ h in
      let y = bound_and (suc d) 65536 _ x.0 in
      let z = bound_and 1 (count acts) _ y.1 in
      let u = and_parts _ _ x.1 in
      record { day = y.0; some = z.0; few = leb-true (count acts) 16 z.1; one = u.0; other = u.1 }

  pub record SmallDeposit (a : Amount) (k : Agreement) (rest : Acts) : Type 0 where
    pub amount : small_amount q a ≡ true
    pub next : small q k ≡ true
    pub others : small_acts q rest ≡ true

  pub small_deposit : (w acc : ℕ) (a : Amount) (k : Agreement) (rest : Acts) → small_acts q (deposit w acc a k rest) ≡ true → SmallDeposit a k rest
  small_deposit w acc a k rest h =
      let x = and_parts _ _ h in
      let y = and_parts _ _ x.1 in
      record { amount = x.0; next = y.0; others = y.1 }

  pub record SmallChoose (lo hi : ℕ) (k : Agreement) (rest : Acts) : Type 0 where
    pub low : lo ≤ 1000000
    pub high : hi ≤ 1000000
    pub next : small q k ≡ true
    pub others : small_acts q rest ≡ true

  pub small_choose : (w s lo hi : ℕ) (k : Agreement) (rest : Acts) → small_acts q (choose w s lo hi k rest) ≡ true → SmallChoose lo hi k rest
  small_choose w s lo hi k rest h =
      let x = and_parts _ _ h in
      let y = bound_and lo 1000000 _ x.0 in
      let z = and_parts _ _ x.1 in
      record { low = y.0; high = leb-true hi 1000000 y.1; next = z.0; others = z.1 }
