-- What is written of a well-made agreement within the limits passes every check.
use Rattle.std.proofs.Common.{◌≡◌, ℕ, zero, suc, ◌+◌, ◌<◌, ◌≤◌, min, Bool, true, false, ◌&&◌, ◌||◌, eqb, leb, List, [], ◌∷◌, length, get_or, take, set, sym, refl, ap, ◌∙◌, ⊎_elim, add-one, arith, length-set, lt-ltb, le-leb}
use Rattle.std.proofs.lemmas.List.{length-take-le, get_or-take, get_or_default}
use Rattle.std.proofs.lemmas.Bool.{false≢true, both_ways, and_parts, and_from, or_cases, or_parts, eq-eqb, eqb-true}
use Rattle.amount.specs.Amount.{Amount}
use Rattle.agreement.specs.Agreement.{Agreement, over, pay, fork, await, Acts, none, deposit, choose, puts_too, sets_too, made, made_acts}
use Rattle.agreement.specs.Bytes.{byte, two, four}
use Rattle.agreement.specs.Checks as checks
use Rattle.agreement.specs.Checks.{Key, check, cut, party, slot, fresh, value, high, payment, branch, waiting, choice, among, unlike, follow, thing}
use Rattle.agreement.specs.Limits.{small_rates, small_amount, small, small_acts, things, things_in, depth, depth_in}
use Rattle.agreement.specs.Writing.{rates, amount, count, writing, writing_acts}
use Rattle.agreement.specs.declared.Fault.{Fault}
use Rattle.agreement.specs.declared.Fault.TheVariants.{Cents, Value, ActCount}
use Rattle.agreement.specs.declared.Wrong.{Wrong}
use Rattle.agreement.proofs.Back.{byte_back, half_back, word_back}
use Rattle.agreement.proofs.Parts.{bound_and, free_there, made_pay, made_fork, made_deposit, made_choose, small_fork, small_await, small_deposit, small_choose}
use Rattle.agreement.proofs.Sizes.{length_rates, longer, longer_acts}

passes : (t : Bool) (fault : Fault) (left : ℕ) (more : List Wrong) → t ≡ true → check t fault left more ≡ more
passes t fault left more e = rw e

party_passes : (p b : ℕ) (more : List ℕ) (k : ℕ → List ℕ → List Wrong) → p ≤ 8 → b < p → party p (b ∷ more) k ≡ k b more
party_passes p b more k h lt = rw (lt-ltb b 256 (omega arith), lt-ltb b p lt)

slot_passes : (q b : ℕ) (more : List ℕ) (k : ℕ → List ℕ → List Wrong) → q ≤ 8 → b < q → slot q (b ∷ more) k ≡ k b more
slot_passes q b more k h lt = rw (lt-ltb b 256 (omega arith), lt-ltb b q lt)

fresh_passes :
    (q : ℕ) (us : List Bool) (b : ℕ) (more : List ℕ) (k : ℕ → List ℕ → List Wrong) → q ≤ 8 → b < q → get_or us b false ≡ false →
    fresh q us (b ∷ more) k ≡ k b more
fresh_passes q us b more k h lt e = rw (lt-ltb b 256 (omega arith), lt-ltb b q lt, e)

rates_pass :
    (n q : ℕ) (cs more : List ℕ) (k : List ℕ → List Wrong) → q ≤ n → small_rates n q cs ≡ true →
    checks.rates q (rates q cs more) k ≡ k more
rates_pass n zero cs more k h s = refl
rates_pass zero (suc q) cs more k h s = absurd (omega arith)
rates_pass (suc n) (suc q) [] more k h s = absurd (false≢true s)
rates_pass (suc n) (suc q) (c ∷ cs) more k h s =
    let t = bound_and c 1000 (small_rates n q cs) s in
    half_back cut (λ m r. check (leb m 1000) Cents (length (two c (rates q cs more))) (checks.rates q r k)) c (rates q cs more) (omega arith)
    ∙ passes _ Cents _ _ (le-leb c 1000 t.0)
    ∙ rates_pass n q cs more k (omega arith) t.1

amount_passes :
    (q : ℕ) (a : Amount) (more : List ℕ) (k : List ℕ → List Wrong) → q ≤ 8 → small_amount q a ≡ true →
    checks.amount q (amount q a more) k ≡ k more
amount_passes q a more k h s =
    let t = bound_and a.base 1000000000 (small_rates 8 q a.per) s in
    word_back cut (λ m r. check (leb m 1000000000) Cents (length (amount q a more)) (checks.rates q r k)) a.base (rates q a.per more) (omega arith)
    ∙ passes _ Cents _ _ (le-leb a.base 1000000000 t.0)
    ∙ rates_pass 8 q a.per more k h t.1

value_passes : (n : ℕ) (more : List ℕ) (k : ℕ → List ℕ → List Wrong) → n ≤ 1000000 → value (four n more) k ≡ k n more
value_passes n more k h =
    word_back cut (λ m r. check (leb m 1000000) Value (length (four n more)) (k m r)) n more (omega arith)
    ∙ passes _ Value _ _ (le-leb n 1000000 h)

high_passes : (low n : ℕ) (more : List ℕ) (k : List ℕ → List Wrong) → n ≤ 1000000 → low ≤ n → high low (four n more) k ≡ k more
high_passes low n more k h order =
    word_back cut (λ m r. check (leb m 1000000 && leb low m) Value (length (four n more)) (k r)) n more (omega arith)
    ∙ passes _ Value _ _ (and_from _ _ (le-leb n 1000000 h) (le-leb low n order))

branch_passes : (q s n : ℕ) (more : List ℕ) (k : List ℕ → List Wrong) → q ≤ 8 → s < q → n ≤ 1000000 → branch q (s ∷ four n more) k ≡ k more
branch_passes q s n more k h hs hn =
    slot_passes q s (four n more) (λ u r. value r (λ m v. k v)) h hs
    ∙ value_passes n more (λ m v. k v) hn

waiting_passes :
    (d m : ℕ) (more : List ℕ) (k : ℕ → List ℕ → List Wrong) → d < 65536 → 1 ≤ m → m ≤ 16 →
    waiting (two d (min m 255 ∷ more)) k ≡ k m more
waiting_passes d m more k hd some few =
    let e : min m 255 ≡ m = omega arith in
    rw e
    (half_back cut (λ c r. byte r cut (λ n s. check (leb 1 n && leb n 16) ActCount (length r) (k n s))) d (m ∷ more) hd
    ∙ byte_back cut (λ n s. check (leb 1 n && leb n 16) ActCount (length (m ∷ more)) (k n s)) m more (omega arith)
    ∙ passes _ ActCount _ _ (and_from _ _ (le-leb 1 m some) (le-leb m 16 few)))

unlike_passes :
    (seen : List Key) (b w x : ℕ) (bs : List ℕ) (more : List Wrong) → among b w x seen ≡ false →
    unlike seen (b ∷ w ∷ x ∷ bs) more ≡ more
unlike_passes seen b w x bs more e = rw e

module _ (p q : ℕ) (few_parties : p ≤ 8) (few_slots : q ≤ 8) where
  payment_passes :
      (f t : ℕ) (a : Amount) (more : List ℕ) (k : List ℕ → List Wrong) → f < p → t < p → small_amount q a ≡ true →
      payment p q (f ∷ t ∷ amount q a more) k ≡ k more
  payment_passes f t a more k hf ht s =
      party_passes p f (t ∷ amount q a more) (λ g r. party p r (λ u v. checks.amount q v k)) few_parties hf
      ∙ party_passes p t (amount q a more) (λ u v. checks.amount q v k) few_parties ht
      ∙ amount_passes q a more k few_slots s

  deposit_passes :
      (w acc : ℕ) (a : Amount) (more : List ℕ) (k : ℕ → ℕ → List ℕ → List Wrong) → w < p → acc < p → small_amount q a ≡ true →
      checks.deposit p q (w ∷ acc ∷ amount q a more) k ≡ k w acc more
  deposit_passes w acc a more k hw ha s =
      party_passes p w (acc ∷ amount q a more) (λ g r. party p r (λ u v. checks.amount q v (k g u))) few_parties hw
      ∙ party_passes p acc (amount q a more) (λ u v. checks.amount q v (k w u)) few_parties ha
      ∙ amount_passes q a more (k w acc) few_slots s

  choice_passes :
      (us : List Bool) (w s lo hi : ℕ) (more : List ℕ) (k : ℕ → ℕ → List ℕ → List Wrong) →
      w < p → s < q → get_or us s false ≡ false → lo ≤ 1000000 → hi ≤ 1000000 → lo ≤ hi →
      choice p q us (w ∷ s ∷ four lo (four hi more)) k ≡ k w s more
  choice_passes us w s lo hi more k hw hs free hl hh order =
      party_passes p w (s ∷ four lo (four hi more)) (λ g r. fresh q us r (λ u v. value v (λ low x. high low x (k g u)))) few_parties hw
      ∙ fresh_passes q us s (four lo (four hi more)) (λ u v. value v (λ low x. high low x (k w u))) few_slots hs free
      ∙ value_passes lo (four hi more) (λ low x. high low x (k w s)) hl
      ∙ high_passes lo hi more (k w s) hh order

-- no key that was seen is like one of the acts
pub record Unseen (seen : List Key) (acts : Acts) : Type 0 where
  pub puts : (w x : ℕ) → among 1 w x seen ≡ true → puts_too w x acts ≡ false
  pub sets : (w x : ℕ) → among 2 w x seen ≡ true → sets_too w x acts ≡ false

pub none_seen : (acts : Acts) → Unseen [] acts
none_seen acts = record { puts = λ w x e. absurd (false≢true e); sets = λ w x e. absurd (false≢true e) }

same_pair : (w x : ℕ) → (eqb w w && eqb x x) ≡ true
same_pair w x = and_from _ _ (eq-eqb w w refl) (eq-eqb x x refl)

-- a test that holds only where one that holds does not
never : (t u v : Bool) → (t ≡ true → (u || v) ≡ false) → u ≡ true → t ≡ false
never true u v h e = absurd (both_ways u (or_parts u v (h refl)).0 e)
never false u v h e = refl

module _ (seen : List Key) (w x : ℕ) (k : Agreement) (acts : Acts) where
  deposit_unlike : (a : Amount) → Unseen seen (deposit w x a k acts) → among 1 w x seen ≡ false
  unfolding puts_too
  deposit_unlike a h = never (among 1 w x seen) (eqb w w && eqb x x) (puts_too w x acts) (h.puts w x) (same_pair w x)

  choose_unlike : (lo hi : ℕ) → Unseen seen (choose w x lo hi k acts) → among 2 w x seen ≡ false
  unfolding sets_too
  choose_unlike lo hi h = never (among 2 w x seen) (eqb w w && eqb x x) (sets_too w x acts) (h.sets w x) (same_pair w x)

-- the pair that was seen last, or another
last_or_other :
    (f : ℕ → ℕ → Bool) (w x u y : ℕ) (t : Bool) → f w x ≡ false → (t ≡ true → f u y ≡ false) →
    ((eqb u w && eqb y x) || t) ≡ true → f u y ≡ false
last_or_other f w x u y t here other e =
    ⊎_elim
    (λ same. let z = and_parts (eqb u w) (eqb y x) same in rw (eqb-true u w z.0, eqb-true y x z.1) here)
    other (or_cases (eqb u w && eqb y x) t e)

module _ (seen : List Key) (w x : ℕ) (k : Agreement) (acts : Acts) where
  unseen_deposit :
      (a : Amount) → Unseen seen (deposit w x a k acts) → puts_too w x acts ≡ false →
      Unseen (record { kind = 1; who = w; what = x } ∷ seen) acts
  unfolding puts_too sets_too
  unseen_deposit a h here = record {
    puts = λ u y e. last_or_other (λ v z. puts_too v z acts) w x u y (among 1 u y seen) here (λ t. (or_parts (eqb u w && eqb y x) _ (h.puts u y t)).1) e;
    sets = λ u y e. h.sets u y e;
  }

  unseen_choose :
      (lo hi : ℕ) → Unseen seen (choose w x lo hi k acts) → sets_too w x acts ≡ false →
      Unseen (record { kind = 2; who = w; what = x } ∷ seen) acts
  unfolding puts_too sets_too
  unseen_choose lo hi h here = record {
    puts = λ u y e. h.puts u y e;
    sets = λ u y e. last_or_other (λ v z. sets_too v z acts) w x u y (among 2 u y seen) here (λ t. (or_parts (eqb u w && eqb y x) _ (h.sets u y t)).1) e;
  }

take_of_set : (q : ℕ) (us : List Bool) (s : ℕ) (v : Bool) → take q (set us s v) ≡ set (take q us) s v
take_of_set zero us s v = refl
take_of_set (suc q) [] s v = refl
take_of_set (suc q) (u ∷ us) zero v = refl
take_of_set (suc q) (u ∷ us) (suc s) v = ap (λ vs. u ∷ vs) (take_of_set q us s v)

thing_step :
    (p q : ℕ) (us : List Bool) (d t b : ℕ) (bs : List ℕ) (n : ℕ) (go : ℕ → List ℕ → List Wrong) → b < 4 → d ≤ 64 → t < 512 →
    thing p q us d t (b ∷ bs) (suc n) go ≡ follow p q (λ vs u r. thing p q vs (d + 1) u r n) us b (t + 1) bs go
thing_step p q us d t b bs n go hb hd ht = rw (lt-ltb b 4 hb, le-leb d 64 hd, lt-ltb t 512 ht)

-- a slot that is free among the first q
pub record Free (q : ℕ) (us : List Bool) (s : ℕ) : Type 0 where
  pub there : s < q
  pub unset : get_or us s false ≡ false

free_among : (q : ℕ) (us : List Bool) (s : ℕ) → q ≤ length us → get_or (take q us) s true ≡ false → Free q us s
free_among q us s h e =
    let lt : s < q = omega (arith, free_there (take q us) s e, length-take-le q us h) in
    record { there = lt; unset = get_or_default us s false true (omega arith) ∙ sym (get_or-take q us s true lt) ∙ e }

-- the things that came before are t, and those of a part are counted in the end
module _ (p q : ℕ) (few_parties : p ≤ 8) (few_slots : q ≤ 8) where
  mutual
    pub thing_written :
        (us : List Bool) (d t : ℕ) (a : Agreement) (n : ℕ) (rest : List ℕ) (go : ℕ → List ℕ → List Wrong) →
        length us ≡ 8 → made p (take q us) a ≡ true → small q a ≡ true → t + things a ≤ 512 → d + depth a ≤ 65 →
        length (writing q a rest) ≤ n → thing p q us d t (writing q a rest) n go ≡ go (t + things a) rest
    thing_written us d t over zero rest go long m s few shallow h = absurd (omega arith)
    thing_written us d t over (suc n) rest go long m s few shallow h = thing_step p q us d t 0 rest n go (omega arith) (omega arith) (omega arith)
    thing_written us d t (pay f o a k) zero rest go long m s few shallow h = absurd (omega arith)
    thing_written us d t (pay f o a k) (suc n) rest go long m s few shallow h =
        let x = made_pay p (take q us) f o a k m in
        let y = and_parts (small_amount q a) (small q k) s in
        let size = length_rates q a.per (writing q k rest) in
        thing_step p q us d t 1 (f ∷ o ∷ amount q a (writing q k rest)) n go (omega arith) (omega arith) (omega arith)
        ∙ payment_passes p q few_parties few_slots f o a (writing q k rest) (λ r. thing p q us (d + 1) (t + 1) r n go) x.from x.to y.0
        ∙ thing_written us (d + 1) (t + 1) k n rest go long x.next y.1 (omega arith) (omega arith) (omega arith)
        ∙ ap (λ u. go u rest) (omega arith)
    thing_written us d t (fork s v k l) zero rest go long m sm few shallow h = absurd (omega arith)
    thing_written us d t (fork s v k l) (suc n) rest go long m sm few shallow h =
        let x = made_fork p (take q us) s v k l m in
        let y = small_fork q s v k l sm in
        let there : s < q = omega (arith, length-take-le q us (omega arith)) in
        let more = writing q l rest in
        let size = longer q k more in
        let then : ℕ → List ℕ → List Wrong = λ u r. thing p q us (d + 1) u r n go in
        thing_step p q us d t 2 (s ∷ four v (writing q k more)) n go (omega arith) (omega arith) (omega arith)
        ∙ branch_passes q s v (writing q k more) (λ r. thing p q us (d + 1) (t + 1) r n then) few_slots there y.value
        ∙ thing_written us (d + 1) (t + 1) k n more then long x.one y.one (omega arith) (omega arith) (omega arith)
        ∙ thing_written us (d + 1) (t + 1 + things k) l n rest go long x.other y.other (omega arith) (omega arith) (omega arith)
        ∙ ap (λ u. go u rest) (omega arith)
    thing_written us d t (await acts c k) zero rest go long m s few shallow h = absurd (omega arith)
    thing_written us d t (await acts c k) (suc n) rest go long m s few shallow h =
        let x = and_parts (made_acts p (take q us) acts) (made p (take q us) k) m in
        let y = small_await q acts c k s in
        let more = writing q k rest in
        let size = longer_acts q acts more in
        let next : checks.Walk = λ vs u r. thing p q vs (d + 1) u r n in
        let then : ℕ → List ℕ → List Wrong = λ u r. next us u r go in
        thing_step p q us d t 3 (two c (min (count acts) 255 ∷ writing_acts q acts more)) n go (omega arith) (omega arith) (omega arith)
        ∙ waiting_passes c (count acts) (writing_acts q acts more) (λ b r. checks.acts p q next us b [] (t + 1) r then) y.day y.some y.few
        ∙ acts_written us (d + 1) (t + 1) acts n more [] then long x.0 y.one (omega arith) (omega arith) (omega arith) (none_seen acts)
        ∙ thing_written us (d + 1) (t + 1 + things_in acts) k n rest go long x.1 y.other (omega arith) (omega arith) (omega arith)
        ∙ ap (λ u. go u rest) (omega arith)

    pub acts_written :
        (us : List Bool) (d t : ℕ) (acts : Acts) (n : ℕ) (rest : List ℕ) (seen : List Key) (go : ℕ → List ℕ → List Wrong) →
        length us ≡ 8 → made_acts p (take q us) acts ≡ true → small_acts q acts ≡ true → t + things_in acts ≤ 512 → d + depth_in acts ≤ 65 →
        length (writing_acts q acts rest) ≤ n → Unseen seen acts →
        checks.acts p q (λ vs u r. thing p q vs d u r n) us (count acts) seen t (writing_acts q acts rest) go ≡ go (t + things_in acts) rest
    acts_written us d t none n rest seen go long m s few shallow h unseen = ap (λ u. go u rest) (omega arith)
    acts_written us d t (deposit w acc a k acts) n rest seen go long m s few shallow h unseen =
        let x = made_deposit p (take q us) w acc a k acts m in
        let y = small_deposit q w acc a k acts s in
        let more = writing_acts q acts rest in
        let size = length_rates q a.per (writing q k more) in
        let part = longer q k more in
        let next : checks.Walk = λ vs u r. thing p q vs d u r n in
        let key : ℕ → ℕ → Key = λ v z. record { kind = 1; who = v; what = z } in
        let then : List Key → ℕ → List ℕ → List Wrong = λ keys u r. checks.acts p q next us (count acts) keys u r go in
        rw (add-one (count acts))
        (unlike_passes seen 1 w acc (amount q a (writing q k more)) _ (deposit_unlike seen w acc k acts a unseen)
        ∙ deposit_passes p q few_parties few_slots w acc a (writing q k more) (λ v z r. next us t r (then (key v z ∷ seen))) x.who x.account y.amount
        ∙ thing_written us d t k n more (then (key w acc ∷ seen)) long x.next y.next (omega arith) (omega arith) (omega arith)
        ∙ acts_written us d (t + things k) acts n rest (key w acc ∷ seen) go long x.others y.others (omega arith) (omega arith) (omega arith)
        (unseen_deposit seen w acc k acts a unseen x.unlike)
        ∙ ap (λ u. go u rest) (omega arith))
    acts_written us d t (choose w s lo hi k acts) n rest seen go long m sm few shallow h unseen =
        let x = made_choose p (take q us) w s lo hi k acts m in
        let y = small_choose q w s lo hi k acts sm in
        let free = free_among q us s (omega arith) x.free in
        let more = writing_acts q acts rest in
        let part = longer q k more in
        let next : checks.Walk = λ vs u r. thing p q vs d u r n in
        let key : ℕ → ℕ → Key = λ v z. record { kind = 2; who = v; what = z } in
        let then : List Key → ℕ → List ℕ → List Wrong = λ keys u r. checks.acts p q next us (count acts) keys u r go in
        rw (add-one (count acts))
        (unlike_passes seen 2 w s (four lo (four hi (writing q k more))) _ (choose_unlike seen w s k acts lo hi unseen)
        ∙ choice_passes p q few_parties few_slots us w s lo hi (writing q k more) (λ v z r. next (set us z true) t r (then (key v z ∷ seen)))
        x.who free.there free.unset y.low y.high x.order
        ∙ thing_written (set us s true) d t k n more (then (key w s ∷ seen)) (length-set us s true ∙ long) (rw (take_of_set q us s true) x.next) y.next
        (omega arith) (omega arith) (omega arith)
        ∙ acts_written us d (t + things k) acts n rest (key w s ∷ seen) go long x.others y.others (omega arith) (omega arith) (omega arith)
        (unseen_choose seen w s k acts lo hi unseen x.unlike)
        ∙ ap (λ u. go u rest) (omega arith))
