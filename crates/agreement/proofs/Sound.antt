-- Bytes on which no check fails are the writing of a well-made agreement within the limits: of what they mean.
use Rattle.std.proofs.Common.{◌≡◌, ℕ, zero, suc, ◌+◌, ◌<◌, ◌≤◌, min, Bool, true, false, cond, not, ◌&&◌, eqb, ltb, leb, ◌⊎◌, List, [], ◌∷◌, ◌++◌, length, get_or, take, drop, set, replicate, sym, refl, ap, ◌∙◌, subst, ⊎_elim, arith}
use Rattle.std.proofs.lemmas.List.{length-take-le, get_or-take, get_or_default, length-set, take-replicate}
use Rattle.std.proofs.lemmas.Bool.{and_parts, and_from, ltb-true, leb-true, not_from_false, eq-eqb, or_from, or_right, or_left}
use Rattle.std.proofs.lemmas.Bool.Decides.{nat_tests}
use Rattle.agreement.specs.Agreement.{Agreement, over, pay, fork, await, Acts, none, deposit, choose, puts_too, sets_too, made, made_acts}
use Rattle.agreement.specs.Bytes.{two, four}
use Rattle.agreement.specs.Checks.{Walk, Key, among, follow, acts, thing, surplus, walk}
use Rattle.agreement.specs.Limits.{things, things_in, depth, depth_in, small, small_acts}
use Rattle.agreement.specs.Meaning.{Part, Awaited, ends, pays, puts, no_more, meant, acts_meant, look_then, act_then, Spot, meaning, behind}
use Rattle.agreement.specs.Reading.{placed, failing, Taken}
use Rattle.agreement.specs.Writing as writing
use Rattle.agreement.specs.Writing.{count}
use Rattle.agreement.specs.declared.Refusal.{Refusal}
use Rattle.agreement.specs.declared.Wrong.{Wrong}
use Rattle.agreement.proofs.Inversions.{Moved, moved, Forked, forked, Waited, waited, Chosen, chosen, some_wrong, check_none, cond_none, unlike_none, unlike_new}

-- with t things before it and e levels left, one of the four things was read, and the walk that went on with k found
-- nothing
pub record Read (p q : ℕ) (us : List Bool) (e t : ℕ) (bs : List ℕ) (k : ℕ → List ℕ → List Wrong) : Type 0 where
  pub what : Agreement
  pub rest : List ℕ
  pub means : meant p q e bs ≡ record { what = what; rest = rest }
  pub is : bs ≡ writing.writing q what rest
  pub made : made p (take q us) what ≡ true
  pub small : small q what ≡ true
  pub few : t + things what ≤ 512
  pub shallow : depth what ≤ e
  pub on : k (t + things what) rest ≡ []

pub record ReadActs (p q : ℕ) (us : List Bool) (e m : ℕ) (seen : List Key) (t : ℕ) (bs : List ℕ) (k : ℕ → List ℕ → List Wrong) : Type 0 where
  pub what : Acts
  pub rest : List ℕ
  pub means : acts_meant p q (meant p q e) m bs ≡ record { what = what; rest = rest }
  pub is : bs ≡ writing.writing_acts q what rest
  pub number : count what ≡ m
  pub made : made_acts p (take q us) what ≡ true
  pub small : small_acts q what ≡ true
  pub few : t + things_in what ≤ 512
  pub shallow : depth_in what ≤ e
  pub new_puts : (w x : ℕ) → among 1 w x seen ≡ true → puts_too w x what ≡ false
  pub new_sets : (w x : ℕ) → among 2 w x seen ≡ true → sets_too w x what ≡ false
  pub on : k (t + things_in what) rest ≡ []

take-set : (n : ℕ) (us : List Bool) (s : ℕ) (b : Bool) → take n (set us s b) ≡ set (take n us) s b
take-set zero us s b = refl
take-set (suc n) [] s b = refl
take-set (suc n) (u ∷ us) zero b = refl
take-set (suc n) (u ∷ us) (suc s) b = ap (λ vs. u ∷ vs) (take-set n us s b)

unset_taken : (q : ℕ) (us : List Bool) (s : ℕ) → q ≤ length us → s < q → get_or us s false ≡ false → not (get_or (take q us) s true) ≡ true
unset_taken q us s h lt e = not_from_false _ (get_or-take q us s true lt ∙ get_or_default us s true false (omega arith) ∙ e)

-- a key that came before, and one that did not, are not alike
other_key :
    (kind w x u v : ℕ) (seen : List Key) → among kind u v seen ≡ false → among kind w x seen ≡ true → (eqb w u && eqb x v) ≡ false
other_key kind w x u v seen n h = grind (arith, nat_tests)

key_there : (kind w x : ℕ) (seen : List Key) → among kind w x (record { kind = kind; who = w; what = x } ∷ seen) ≡ true
key_there kind w x seen = or_left _ _ (and_from _ _ (eq-eqb kind kind refl) (and_from _ _ (eq-eqb w w refl) (eq-eqb x x refl)))

module _ (p q : ℕ) (us : List Bool) (e t : ℕ) (bs : List ℕ) (k : ℕ → List ℕ → List Wrong) where
  over_read : t < 512 → k (t + 1) bs ≡ [] → Read p q us (suc e) t (0 ∷ bs) k
  over_read h on =
      record { what = over; rest = bs; means = refl; is = refl; made = refl; small = refl; few = omega arith; shallow = omega arith; on = on }

  pay_read :
      {k₁ : ℕ → ℕ → List ℕ → List Wrong} (m : Moved p q bs k₁) (x : Read p q us e (t + 1) m.rest k) → Read p q us (suc e) t (1 ∷ bs) k
  pay_read m x = record {
    what = pay m.one m.other m.amount x.what;
    rest = x.rest;
    means =
        ap (look_then p q (meant p q e)) (m.reads (ends []) (λ f s a r. pays f s a r))
        ∙ ap (λ (n : Part). record { what = pay m.one m.other m.amount n.what; rest = n.rest }) x.means;
    is = ap (λ r. 1 ∷ r) (m.is ∙ ap (λ r. m.one ∷ m.other ∷ writing.amount q m.amount r) x.is);
    made = and_from _ _ m.parties x.made;
    small = and_from _ _ m.small x.small;
    few = omega (arith, x.few);
    shallow = omega (arith, x.shallow);
    on = subst (λ n. k n x.rest ≡ []) (omega arith) x.on;
  }

  fork_read :
      {k₁ : List ℕ → List Wrong} {k₂ : ℕ → List ℕ → List Wrong} → length (take q us) ≡ q → (f : Forked q bs k₁)
      (x : Read p q us e (t + 1) f.rest k₂) (y : Read p q us e (t + 1 + things x.what) x.rest k) →
      Read p q us (suc e) t (2 ∷ bs) k
  fork_read long f x y = record {
    what = fork f.slot f.bound x.what y.what;
    rest = y.rest;
    means =
        ap (look_then p q (meant p q e)) f.looks
        ∙ ap (λ (n : Part). record {
          what = fork f.slot f.bound n.what (meant p q e n.rest).what;
          rest = (meant p q e n.rest).rest;
        }) x.means
        ∙ ap (λ (n : Part). record { what = fork f.slot f.bound x.what n.what; rest = n.rest }) y.means;
    is = ap (λ r. 2 ∷ r) (f.is ∙ ap (λ r. f.slot ∷ four f.bound r) (x.is ∙ ap (writing.writing q x.what) y.is));
    made = and_from _ _ (rw long f.there) (and_from _ _ x.made y.made);
    small = and_from _ _ f.small (and_from _ _ x.small y.small);
    few = omega (arith, y.few);
    shallow = omega (arith, x.shallow, y.shallow);
    on = subst (λ n. k n y.rest ≡ []) (omega arith) y.on;
  }

  await_read :
      {k₁ k₂ : ℕ → List ℕ → List Wrong} (w : Waited bs k₁) (x : ReadActs p q us e w.number [] (t + 1) w.rest k₂)
      (y : Read p q us e (t + 1 + things_in x.what) x.rest k) → Read p q us (suc e) t (3 ∷ bs) k
  await_read w x y =
      let at_most : w.number ≤ 16 = leb-true w.number 16 (and_parts (leb 1 w.number) (leb w.number 16) w.some).1 in
      let number : w.number ≡ min (count x.what) 255 = omega (arith, x.number) in
      record {
        what = await x.what w.day y.what;
        rest = y.rest;
        means =
            ap (look_then p q (meant p q e)) w.looks
            ∙ ap (λ (a : Awaited). record {
              what = await a.what w.day (meant p q e a.rest).what;
              rest = (meant p q e a.rest).rest;
            }) x.means
            ∙ ap (λ (n : Part). record { what = await x.what w.day n.what; rest = n.rest }) y.means;
        is =
            ap (λ r. 3 ∷ r) (w.is ∙ ap (λ n. two w.day (n ∷ w.rest)) number
            ∙ ap (λ r. two w.day (min (count x.what) 255 ∷ r)) (x.is ∙ ap (writing.writing_acts q x.what) y.is));
        made = and_from _ _ x.made y.made;
        small = and_from _ _ (and_from _ _ w.small (rw x.number w.some)) (and_from _ _ x.small y.small);
        few = omega (arith, y.few);
        shallow = omega (arith, x.shallow, y.shallow);
        on = subst (λ n. k n y.rest ≡ []) (omega arith) y.on;
      }

  none_read : (seen : List Key) → t ≤ 512 → k t bs ≡ [] → ReadActs p q us e 0 seen t bs k
  unfolding puts_too sets_too
  none_read seen h on = record {
    what = none;
    rest = bs;
    means = refl;
    is = refl;
    number = refl;
    made = refl;
    small = refl;
    few = omega arith;
    shallow = omega arith;
    new_puts = λ w x a. refl;
    new_sets = λ w x a. refl;
    on = subst (λ n. k n bs ≡ []) (omega arith) on;
  }

  deposit_read :
      {k₁ : ℕ → ℕ → List ℕ → List Wrong} {k₂ : ℕ → List ℕ → List Wrong} (n : ℕ) (seen : List Key) (m : Moved p q bs k₁) →
      among 1 m.one m.other seen ≡ false → (x : Read p q us e t m.rest k₂)
      (y : ReadActs p q us e n (record { kind = 1; who = m.one; what = m.other } ∷ seen) (t + things x.what) x.rest k) →
      ReadActs p q us e (suc n) seen t (1 ∷ bs) k
  unfolding puts_too sets_too
  deposit_read n seen m new x y = record {
    what = deposit m.one m.other m.amount x.what y.what;
    rest = y.rest;
    means =
        ap (act_then (meant p q e) (acts_meant p q (meant p q e) n)) (m.reads (no_more []) (λ w s a r. puts w s a r))
        ∙ ap (λ (a : Part). record {
          what = deposit m.one m.other m.amount a.what (acts_meant p q (meant p q e) n a.rest).what;
          rest = (acts_meant p q (meant p q e) n a.rest).rest;
        }) x.means
        ∙ ap (λ (a : Awaited). record { what = deposit m.one m.other m.amount x.what a.what; rest = a.rest }) y.means;
    is =
        ap (λ r. 1 ∷ r) (m.is ∙ ap (λ r. m.one ∷ m.other ∷ writing.amount q m.amount r) (x.is ∙ ap (writing.writing q x.what) y.is));
    number = omega (arith, y.number);
    made =
        and_from _ _
        (and_from _ _ m.parties (not_from_false _ (y.new_puts m.one m.other (key_there 1 m.one m.other seen))))
        (and_from _ _ x.made y.made);
    small = and_from _ _ m.small (and_from _ _ x.small y.small);
    few = omega (arith, y.few);
    shallow = omega (arith, x.shallow, y.shallow);
    new_puts = λ w s a. or_from _ _ (other_key 1 w s m.one m.other seen new a) (y.new_puts w s (or_right _ _ a));
    new_sets = λ w s a. y.new_sets w s a;
    on = subst (λ i. k i y.rest ≡ []) (omega arith) y.on;
  }

  choose_read :
      {k₁ : ℕ → ℕ → List ℕ → List Wrong} {k₂ : ℕ → List ℕ → List Wrong} (n : ℕ) (seen : List Key) → q ≤ length us →
      (c : Chosen p q us bs k₁) → among 2 c.who c.slot seen ≡ false → (x : Read p q (set us c.slot true) e t c.rest k₂)
      (y : ReadActs p q us e n (record { kind = 2; who = c.who; what = c.slot } ∷ seen) (t + things x.what) x.rest k) →
      ReadActs p q us e (suc n) seen t (2 ∷ bs) k
  unfolding puts_too sets_too
  choose_read n seen long c new x y = record {
    what = choose c.who c.slot c.low c.high x.what y.what;
    rest = y.rest;
    means =
        ap (act_then (meant p q e) (acts_meant p q (meant p q e) n)) c.looks
        ∙ ap (λ (a : Part). record {
          what = choose c.who c.slot c.low c.high a.what (acts_meant p q (meant p q e) n a.rest).what;
          rest = (acts_meant p q (meant p q e) n a.rest).rest;
        }) x.means
        ∙ ap (λ (a : Awaited). record { what = choose c.who c.slot c.low c.high x.what a.what; rest = a.rest }) y.means;
    is =
        ap (λ r. 2 ∷ r) (c.is ∙ ap (λ r. c.who ∷ c.slot ∷ four c.low (four c.high r)) (x.is ∙ ap (writing.writing q x.what) y.is));
    number = omega (arith, y.number);
    made =
        and_from _ _
        (and_from _ _
        (and_from _ _ c.party (unset_taken q us c.slot long (ltb-true _ _ c.there) c.unset))
        (and_from _ _ c.ordered (not_from_false _ (y.new_sets c.who c.slot (key_there 2 c.who c.slot seen)))))
        (and_from _ _ (rw (take-set q us c.slot true) at x.made) y.made);
    small = and_from _ _ (and_from _ _ c.low_small c.high_small) (and_from _ _ x.small y.small);
    few = omega (arith, y.few);
    shallow = omega (arith, x.shallow, y.shallow);
    new_puts = λ w s a. y.new_puts w s a;
    new_sets = λ w s a. or_from _ _ (other_key 2 w s c.who c.slot seen new a) (y.new_sets w s (or_right _ _ a));
    on = subst (λ i. k i y.rest ≡ []) (omega arith) y.on;
  }

act_kind : (b : ℕ) (x y : List Wrong) (w : Wrong) → cond (eqb b 1) x (cond (eqb b 2) y (w ∷ [])) ≡ [] → (b ≡ 1) ⊎ (b ≡ 2)
act_kind b x y w e = grind (arith, nat_tests)

-- where the walk through each continuation, with e levels left, is sound
module _
    (p q e : ℕ) (next : Walk) (few : q ≤ 8)
    (sound : (us : List Bool) (t : ℕ) (bs : List ℕ) (k : ℕ → List ℕ → List Wrong) → length us ≡ 8 → next us t bs k ≡ [] → Read p q us e t bs k)
    (us : List Bool) (long : length us ≡ 8) where
  -- the acts behind one that was read
  abbrev More : ℕ → (ℕ → List ℕ → List Wrong) → Type 0
  More m k =
      (seen : List Key) (t : ℕ) (bs : List ℕ) → t ≤ 512 → acts p q next us m seen t bs k ≡ [] → ReadActs p q us e m seen t bs k

  put_read :
      (m : ℕ) (seen : List Key) (t : ℕ) (bs : List ℕ) (k : ℕ → List ℕ → List Wrong) → More m k →
      acts p q next us (suc m) seen t (1 ∷ bs) k ≡ [] → ReadActs p q us e (suc m) seen t (1 ∷ bs) k
  put_read m seen t bs k more z =
      let on = λ (w x : ℕ) (s : List ℕ). next us t s (λ i u. acts p q next us m (record { kind = 1; who = w; what = x } ∷ seen) i u k) in
      let d = moved p q bs on few (unlike_none seen (1 ∷ bs) _ z) in
      let x = sound us t d.rest _ long d.on in
      deposit_read p q us e t bs k m seen d (unlike_new seen (1 ∷ bs) 1 d.one d.other _ _ (ap (λ r. 1 ∷ r) d.is) z) x
      (more _ _ x.rest x.few x.on)

  set_read :
      (m : ℕ) (seen : List Key) (t : ℕ) (bs : List ℕ) (k : ℕ → List ℕ → List Wrong) → More m k →
      acts p q next us (suc m) seen t (2 ∷ bs) k ≡ [] → ReadActs p q us e (suc m) seen t (2 ∷ bs) k
  set_read m seen t bs k more z =
      let on = λ (w x : ℕ) (s : List ℕ). next (set us x true) t s (λ i u. acts p q next us m (record { kind = 2; who = w; what = x } ∷ seen) i u k) in
      let c = chosen p q us bs on (unlike_none seen (2 ∷ bs) _ z) in
      let x = sound (set us c.slot true) t c.rest _ (length-set us c.slot true ∙ long) c.on in
      choose_read p q us e t bs k m seen (omega arith) c (unlike_new seen (2 ∷ bs) 2 c.who c.slot _ _ (ap (λ r. 2 ∷ r) c.is) z) x
      (more _ _ x.rest x.few x.on)

  acts_read : (m : ℕ) (k : ℕ → List ℕ → List Wrong) → More m k
  acts_read zero k seen t bs h z = none_read p q us e t bs k seen h z
  acts_read (suc m) k seen t [] h z = absurd (some_wrong _ _ z)
  acts_read (suc m) k seen t (b ∷ bs) h z =
      ⊎_elim
      (λ s. subst (λ b. acts p q next us (suc m) seen t (b ∷ bs) k ≡ [] → ReadActs p q us e (suc m) seen t (b ∷ bs) k) (sym s)
      (put_read m seen t bs k (acts_read m k)) z)
      (λ s. subst (λ b. acts p q next us (suc m) seen t (b ∷ bs) k ≡ [] → ReadActs p q us e (suc m) seen t (b ∷ bs) k) (sym s)
      (set_read m seen t bs k (acts_read m k)) z)
      (act_kind b _ _ _ (cond_none (ltb b 256) _ _ _ z).1)

  follow_read :
      (b t : ℕ) (bs : List ℕ) (k : ℕ → List ℕ → List Wrong) → b < 4 → t < 512 → follow p q next us b (t + 1) bs k ≡ [] →
      Read p q us (suc e) t (b ∷ bs) k
  follow_read zero t bs k h l z = over_read p q us e t bs k l z
  follow_read (suc zero) t bs k h l z =
      let m = moved p q bs (λ f s r. next us (t + 1) r k) few z in
      pay_read p q us e t bs k m (sound us _ _ k long m.on)
  follow_read (suc (suc zero)) t bs k h l z =
      let f = forked q bs _ z in
      let x = sound us _ _ _ long f.on in
      fork_read p q us e t bs k (length-take-le q us (omega arith)) f x (sound us _ _ k long x.on)
  follow_read (suc (suc (suc zero))) t bs k h l z =
      let w = waited bs _ z in
      let x = acts_read w.number _ [] _ _ (omega arith) w.on in
      await_read p q us e t bs k w x (sound us _ _ k long x.on)
  follow_read (suc (suc (suc (suc b)))) t bs k h l z = absurd (omega arith)

pub thing_read :
    (p q : ℕ) → q ≤ 8 → (n d e : ℕ) → d + e ≡ 65 → (us : List Bool) (t : ℕ) (bs : List ℕ) (k : ℕ → List ℕ → List Wrong) →
    length us ≡ 8 → thing p q us d t bs n k ≡ [] → Read p q us e t bs k
thing_read p q few n d e h us t [] k long z = absurd (some_wrong _ _ z)
thing_read p q few zero d e h us t (b ∷ bs) k long z = absurd (some_wrong _ _ z)
thing_read p q few (suc n) d zero h us t (b ∷ bs) k long z =
    let c = check_none (leb d 64 && ltb t 512) _ _ _ (cond_none (ltb b 4) _ _ _ z).1 in
    absurd (omega (arith, leb-true d 64 (and_parts (leb d 64) (ltb t 512) c.0).0))
thing_read p q few (suc n) d (suc e) h us t (b ∷ bs) k long z =
    let a = cond_none (ltb b 4) _ _ _ z in
    let c = check_none (leb d 64 && ltb t 512) _ _ _ a.1 in
    follow_read p q e (λ vs u r. thing p q vs (d + 1) u r n) few (thing_read p q few n (d + 1) e (omega arith)) us long b t bs k
    (ltb-true _ _ a.0) (ltb-true t 512 (and_parts (leb d 64) (ltb t 512) c.0).1) c.1

surplus_none : (t : ℕ) (bs : List ℕ) → surplus t bs ≡ [] → bs ≡ []
surplus_none t [] z = refl
surplus_none t (b ∷ bs) z = absurd (some_wrong _ _ z)

-- the bytes are the writing of what they mean, and nothing is behind that
pub record Sound (bs : List ℕ) (spot : Spot) : Type 0 where
  pub taken : Taken bs spot.parties spot.slots (meaning spot)
  pub ends : behind spot ≡ []

whole :
    (p q e : ℕ) (bs : List ℕ) → 1 ≤ p → p ≤ 8 → q ≤ 8 → e ≤ 64 → Read p q (replicate 8 false) e 0 bs surplus →
    Sound (p ∷ q ∷ bs) (record { parties = p; slots = q; depth = e; bytes = bs })
whole p q e bs some few slots deep x =
    let done = surplus_none (0 + things x.what) x.rest x.on in
    record {
      taken =
          subst (λ (n : Part). Taken (p ∷ q ∷ bs) p q n.what) (sym x.means)
          (record {
            allowed =
                record {
                  some_party = some;
                  few_parties = few;
                  few_slots = slots;
                  made = rw (take-replicate q 8 false slots) at x.made;
                  small = x.small;
                  few_things = omega (arith, x.few);
                  shallow = omega (arith, x.shallow);
                };
            written = ap (λ r. p ∷ q ∷ r) (x.is ∙ ap (writing.writing q x.what) done);
          });
      ends = ap (λ (n : Part). n.rest) x.means ∙ done;
    }

-- where reading begins
abbrev pub start : List ℕ → Spot
start bs = record { parties = get_or bs 0 0; slots = get_or bs 1 0; depth = 64; bytes = drop 2 bs }

pub walk_sound : (bs : List ℕ) → walk bs ≡ [] → Sound bs (start bs)
walk_sound [] z = absurd (some_wrong _ _ z)
walk_sound (p ∷ []) z = absurd (some_wrong _ _ (check_none (leb 1 p && leb p 8) _ _ _ (cond_none (ltb p 256) _ _ _ z).1).1)
walk_sound (p ∷ q ∷ bs) z =
    let a = check_none (leb 1 p && leb p 8) _ _ _ (cond_none (ltb p 256) _ _ _ z).1 in
    let b = check_none (leb q 8) _ _ _ (cond_none (ltb q 256) _ _ _ a.1).1 in
    let parties = and_parts (leb 1 p) (leb p 8) a.0 in
    let slots = leb-true q 8 b.0 in
    whole p q 64 bs (leb-true 1 p parties.0) (leb-true p 8 parties.1) slots (omega arith)
    (thing_read p q slots (length bs) 1 64 (omega arith) (replicate 8 false) 0 bs surplus refl b.1)

placed_none : (n : ℕ) (ws : List Wrong) (more : List Refusal) → placed n ws ++ more ≡ [] → ws ≡ []
placed_none n [] more z = refl
placed_none n (w ∷ ws) more z = let c : ◌≡◌ {A = ℕ} 0 1 = cc in absurd (omega arith)

pub failing_sound : (bs : List ℕ) → failing bs ≡ [] → Sound bs (start bs)
failing_sound bs z = walk_sound bs (placed_none _ _ _ z)
