-- What is written of a well-made agreement within the limits means that agreement.
use Rattle.std.proofs.Common.{◌≡◌, ℕ, zero, suc, ◌<◌, ◌≤◌, min, Bool, true, List, [], ◌∷◌, length, set, refl, ap, ◌∙◌, add-one, arith, length-set, lt-ltb, eqb-true}
use Rattle.std.proofs.lemmas.Bool.{false≢true, and_parts}
use Rattle.amount.specs.Amount.{Amount}
use Rattle.agreement.specs.Agreement.{Agreement, over, pay, fork, await, Acts, none, deposit, choose, made, made_acts}
use Rattle.agreement.specs.Bytes.{byte, word, two, four}
use Rattle.agreement.specs.Limits.{small_rates, small_amount, small, small_acts, depth, depth_in}
use Rattle.agreement.specs.Meaning.{ends, pays, forks, waits, Act, no_more, puts, sets, below, rates_at, amount_at, transfer_at, look, look_act, acts_meant, meant}
use Rattle.agreement.specs.Writing.{rates, amount, count, writing, writing_acts}
use Rattle.agreement.proofs.Back.{byte_back, half_back, word_back}
use Rattle.agreement.proofs.Parts.{bound_and, free_there, made_pay, made_fork, made_deposit, made_choose, small_fork, small_await, small_deposit, small_choose}

module _ {R : Type 0} (bad : R) where
  below_back : (k : ℕ → List ℕ → R) (m b : ℕ) (more : List ℕ) → b < m → m ≤ 8 → below m (b ∷ more) bad k ≡ k b more
  below_back k m b more lt le = rw (lt-ltb b 256 (omega arith), lt-ltb b m lt)

  rates_back :
      (k : List ℕ → List ℕ → R) (n q : ℕ) (cs more : List ℕ) → q ≤ n → small_rates n q cs ≡ true →
      rates_at n q (rates q cs more) bad k ≡ k cs more
  rates_back k zero zero [] more h s = refl
  rates_back k zero zero (c ∷ cs) more h s = absurd (false≢true s)
  rates_back k zero (suc q) cs more h s = absurd (omega arith)
  rates_back k (suc n) zero [] more h s = absurd (false≢true s)
  rates_back k (suc n) zero (c ∷ cs) more h s =
      let t = and_parts _ _ s in
      rw (eqb-true c 0 t.0) (rates_back (λ ds r. k (0 ∷ ds) r) n zero cs more (omega arith) t.1)
  rates_back k (suc n) (suc q) [] more h s = absurd (false≢true s)
  rates_back k (suc n) (suc q) (c ∷ cs) more h s =
      let t = bound_and c 1000 (small_rates n q cs) s in
      half_back bad (λ d r. rates_at n q r bad (λ ds u. k (d ∷ ds) u)) c (rates q cs more) (omega arith)
      ∙ rates_back (λ ds u. k (c ∷ ds) u) n q cs more (omega arith) t.1

  amount_back :
      (k : Amount → List ℕ → R) (q : ℕ) (a : Amount) (more : List ℕ) → q ≤ 8 → small_amount q a ≡ true →
      amount_at q (amount q a more) bad k ≡ k a more
  amount_back k q a more h s =
      let t = bound_and a.base 1000000000 (small_rates 8 q a.per) s in
      word_back bad (λ n r. rates_at 8 q r bad (λ cs u. k (record { base = n; per = cs }) u)) a.base (rates q a.per more) (omega arith)
      ∙ rates_back (λ cs u. k (record { base = a.base; per = cs }) u) 8 q a.per more h t.1

module _ (p q : ℕ) (few_parties : p ≤ 8) (few_slots : q ≤ 8) where
  transfer_back :
      {R : Type 0} (bad : R) (k : ℕ → ℕ → Amount → List ℕ → R) (f t : ℕ) (a : Amount) (more : List ℕ) → f < p → t < p → small_amount q a ≡ true →
      transfer_at p q (f ∷ t ∷ amount q a more) bad k ≡ k f t a more
  transfer_back bad k f t a more hf ht s =
      below_back bad (λ g r. below p r bad (λ u v. amount_at q v bad (k g u))) p f (t ∷ amount q a more) hf few_parties
      ∙ below_back bad (λ u v. amount_at q v bad (k f u)) p t (amount q a more) ht few_parties
      ∙ amount_back bad (k f t) q a more few_slots s

  fork_back : (s n : ℕ) (more : List ℕ) → s < q → n ≤ 1000000 → look p q (2 ∷ s ∷ four n more) ≡ forks s n more
  fork_back s n more hs hn =
      below_back (ends []) (λ u r. word r (ends []) (λ m v. forks u m v)) q s (four n more) hs few_slots
      ∙ word_back (ends []) (λ m v. forks s m v) n more (omega arith)

  wait_back : (d m : ℕ) (more : List ℕ) → d < 65536 → m ≤ 16 → look p q (3 ∷ two d (min m 255 ∷ more)) ≡ waits d m more
  wait_back d m more hd hm =
      half_back (ends []) (λ c r. byte r (ends []) (λ n s. waits c n s)) d (min m 255 ∷ more) hd
      ∙ byte_back (ends []) (λ n s. waits d n s) (min m 255) more (omega arith)
      ∙ ap (λ n. waits d n more) (omega arith)

  choose_back :
      (w s lo hi m : ℕ) (more : List ℕ) → w < p → s < q → lo ≤ 1000000 → hi ≤ 1000000 →
      look_act p q (suc m) (2 ∷ w ∷ s ∷ four lo (four hi more)) ≡ sets w s lo hi more
  choose_back w s lo hi m more hw hs hl hh =
      let bounds : ℕ → ℕ → List ℕ → Act = λ g u v. word v (no_more []) (λ low x. word x (no_more []) (λ high y. sets g u low high y)) in
      below_back (no_more []) (λ g r. below q r (no_more []) (bounds g)) p w (s ∷ four lo (four hi more)) hw few_parties
      ∙ below_back (no_more []) (bounds w) q s (four lo (four hi more)) hs few_slots
      ∙ word_back (no_more []) (λ low x. word x (no_more []) (λ high y. sets w s low high y)) lo (four hi more) (omega arith)
      ∙ word_back (no_more []) (λ high y. sets w s lo high y) hi more (omega arith)

  mutual
    pub meant_written :
        (us : List Bool) (a : Agreement) (e : ℕ) (rest : List ℕ) →
        length us ≡ q → made p us a ≡ true → small q a ≡ true → depth a ≤ e →
        meant p q e (writing q a rest) ≡ record { what = a; rest = rest }
    meant_written us over zero rest long m s h = absurd (omega arith)
    meant_written us over (suc e) rest long m s h = refl
    meant_written us (pay f t a k) zero rest long m s h = absurd (omega arith)
    meant_written us (pay f t a k) (suc e) rest long m s h =
        let x = made_pay p us f t a k m in
        let y = and_parts (small_amount q a) (small q k) s in
        rw (transfer_back (ends []) pays f t a (writing q k rest) x.from x.to y.0, meant_written us k e rest long x.next y.1 (omega arith)) refl
    meant_written us (fork s n k l) zero rest long m sm h = absurd (omega arith)
    meant_written us (fork s n k l) (suc e) rest long m sm h =
        let x = made_fork p us s n k l m in
        let y = small_fork q s n k l sm in
        rw (
          fork_back s n (writing q k (writing q l rest)) (omega arith) y.value,
          meant_written us k e (writing q l rest) long x.one y.one (omega arith),
          meant_written us l e rest long x.other y.other (omega arith),
        )
        refl
    meant_written us (await acts d k) zero rest long m s h = absurd (omega arith)
    meant_written us (await acts d k) (suc e) rest long m s h =
        let x = and_parts (made_acts p us acts) (made p us k) m in
        let y = small_await q acts d k s in
        rw (
          wait_back d (count acts) (writing_acts q acts (writing q k rest)) y.day y.few,
          acts_meant_written us acts e (writing q k rest) long x.0 y.one (omega arith),
          meant_written us k e rest long x.1 y.other (omega arith),
        )
        refl

    pub acts_meant_written :
        (us : List Bool) (acts : Acts) (e : ℕ) (rest : List ℕ) →
        length us ≡ q → made_acts p us acts ≡ true → small_acts q acts ≡ true → depth_in acts ≤ e →
        acts_meant p q (meant p q e) (count acts) (writing_acts q acts rest) ≡ record { what = acts; rest = rest }
    acts_meant_written us none e rest long m s h = refl
    acts_meant_written us (deposit w acc a k acts) e rest long m s h =
        let x = made_deposit p us w acc a k acts m in
        let y = small_deposit q w acc a k acts s in
        let more = writing_acts q acts rest in
        rw (
          add-one (count acts),
          transfer_back (no_more []) puts w acc a (writing q k more) x.who x.account y.amount,
          meant_written us k e more long x.next y.next (omega arith),
          acts_meant_written us acts e rest long x.others y.others (omega arith),
        )
        refl
    acts_meant_written us (choose w s lo hi k acts) e rest long m sm h =
        let x = made_choose p us w s lo hi k acts m in
        let y = small_choose q w s lo hi k acts sm in
        let there = free_there us s x.free in
        let more = writing_acts q acts rest in
        rw (
          add-one (count acts),
          choose_back w s lo hi (count acts) (writing q k more) x.who (omega arith) y.low y.high,
          meant_written (set us s true) k e more (length-set us s true ∙ long) x.next y.next (omega arith),
          acts_meant_written us acts e rest long x.others y.others (omega arith),
        )
        refl
