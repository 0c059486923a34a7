-- Where no check of one reading step fails: what it read, that writing it gives back its bytes, and what it means.
use Rattle.std.proofs.Common.{◌≡◌, ℕ, zero, suc, ◌+◌, ◌*◌, ◌/◌, ◌%◌, ◌<◌, ◌≤◌, Bool, true, false, cond, not, ◌&&◌, ltb, leb, List, [], ◌∷◌, length, get_or, refl, ap, ◌∙◌, mod-eq_of_lt, arith}
use native.Mathlib.Nat.{add-mul-mod_self_right}
use Rattle.std.proofs.lemmas.Bool.{ltb-true, lt-ltb, and_parts, and_from, not-true, cond-true}
use Rattle.amount.specs.Amount.{Amount}
use Rattle.agreement.specs.Bytes.{byte, half, word, two, four}
use Rattle.agreement.specs.Checks as checks
use Rattle.agreement.specs.Checks.{check, cut, Key, among, unlike}
use Rattle.agreement.specs.Limits.{small_rates, small_amount}
use Rattle.agreement.specs.Meaning.{below, rates_at, amount_at, ends, forks, waits, look_fork, look_wait, no_more, sets, look_choice}
use Rattle.agreement.specs.Writing as writing
use Rattle.agreement.specs.declared.Fault.{Fault}
use Rattle.agreement.specs.declared.Fault.TheVariants.{ActCount}
use Rattle.agreement.specs.declared.Wrong.{Wrong}

-- a step read a value, of which `good` holds: its bytes are the writing of that value before the rest, the meaning's
-- step reads the same, and the walk that went on with k found nothing
pub record Got {X : Type 0} (read : (R : Type 0) → R → (X → List ℕ → R) → R) (writes : X → List ℕ → List ℕ) (bs : List ℕ) (good : X → Bool) (k : X → List ℕ → List Wrong) : Type 1 where
  pub value : X
  pub rest : List ℕ
  pub is : bs ≡ writes value rest
  pub holds : good value ≡ true
  pub reads : {R : Type 0} (bad : R) (f : X → List ℕ → R) → read R bad f ≡ f value rest
  pub on : k value rest ≡ []

pub some_wrong : (w : Wrong) (ws : List Wrong) → w ∷ ws ≡ [] → ⊥
some_wrong w ws e = let z : ◌≡◌ {A = ℕ} 0 1 = cc in omega arith

pub check_none : (t : Bool) (f : Fault) (n : ℕ) (ws : List Wrong) → check t f n ws ≡ [] → (t ≡ true) × (ws ≡ [])
check_none true f n ws e = (refl, e)
check_none false f n ws e = absurd (some_wrong _ _ e)

pub cond_none : (t : Bool) (x : List Wrong) (w : Wrong) (ws : List Wrong) → cond t x (w ∷ ws) ≡ [] → (t ≡ true) × (x ≡ [])
cond_none true x w ws e = (refl, e)
cond_none false x w ws e = absurd (some_wrong _ _ e)

pub byte_got :
    (bs : List ℕ) (k : ℕ → List ℕ → List Wrong) → byte bs cut k ≡ [] →
    Got (λ R bad f. byte bs bad f) (λ b r. b ∷ r) bs (λ b. ltb b 256) k
byte_got [] k e = absurd (some_wrong _ _ e)
byte_got (b ∷ bs) k e =
    let c = cond_none (ltb b 256) (k b bs) _ _ e in
    record { value = b; rest = bs; is = refl; holds = c.0; reads = λ bad f. rw c.0; on = c.1 }

-- the check behind a step that was read says what holds of its value
checked :
    {X : Type 0} (read : (R : Type 0) → R → (X → List ℕ → R) → R) (writes : X → List ℕ → List ℕ) (bs : List ℕ) (good t : X → Bool)
    (f : Fault) (n : ℕ) (k : X → List ℕ → List Wrong) → Got read writes bs good (λ x r. check (t x) f n (k x r)) → Got read writes bs t k
checked read writes bs good t f n k g =
    let c = check_none (t g.value) f n _ g.on in
    record { value = g.value; rest = g.rest; is = g.is; holds = c.0; reads = g.reads; on = c.1 }

low_byte : (n r q : ℕ) → n ≡ r + q * 256 → r < 256 → n % 256 ≡ r
low_byte n r q e h = rw e (add-mul-mod_self_right r q 256 ∙ mod-eq_of_lt h)

two_back : (a b : ℕ) (more : List ℕ) → a < 256 → b < 256 → a ∷ b ∷ more ≡ two (a + b * 256) more
two_back a b more p q =
    let n : ℕ = a + b * 256 in
    let first = low_byte n a b refl p in
    let second = low_byte (n / 256) b 0 (omega arith) q in
    cc

four_back :
    (a b c d : ℕ) (more : List ℕ) → a < 256 → b < 256 → c < 256 → d < 256 →
    a ∷ b ∷ c ∷ d ∷ more ≡ four (a + b * 256 + c * 65536 + d * 16777216) more
four_back a b c d more p q r s =
    let n : ℕ = a + b * 256 + c * 65536 + d * 16777216 in
    let first = low_byte n a (b + c * 256 + d * 65536) (omega arith) p in
    let second = low_byte (n / 256) b (c + d * 256) (omega arith) q in
    let third = low_byte (n / 65536) c d (omega arith) r in
    let fourth = low_byte (n / 16777216) d 0 (omega arith) s in
    cc

pub half_got :
    (bs : List ℕ) (k : ℕ → List ℕ → List Wrong) → half bs cut k ≡ [] →
    Got (λ R bad f. half bs bad f) two bs (λ n. ltb n 65536) k
half_got bs k e =
    let x = byte_got bs _ e in
    let y = byte_got x.rest _ x.on in
    let low_x = ltb-true _ _ x.holds in
    let low_y = ltb-true _ _ y.holds in
    record {
      value = x.value + y.value * 256;
      rest = y.rest;
      is = x.is ∙ ap (λ r. x.value ∷ r) y.is ∙ two_back x.value y.value y.rest low_x low_y;
      holds = lt-ltb _ _ (omega arith);
      reads = λ bad f. x.reads bad _ ∙ y.reads bad _;
      on = y.on;
    }

pub word_got :
    (bs : List ℕ) (k : ℕ → List ℕ → List Wrong) → word bs cut k ≡ [] →
    Got (λ R bad f. word bs bad f) four bs (λ n. ltb n 4294967296) k
word_got bs k e =
    let x = byte_got bs _ e in
    let y = byte_got x.rest _ x.on in
    let z = byte_got y.rest _ y.on in
    let u = byte_got z.rest _ z.on in
    let low_x = ltb-true _ _ x.holds in
    let low_y = ltb-true _ _ y.holds in
    let low_z = ltb-true _ _ z.holds in
    let low_u = ltb-true _ _ u.holds in
    record {
      value = x.value + y.value * 256 + z.value * 65536 + u.value * 16777216;
      rest = u.rest;
      is =
          x.is ∙ ap (λ r. x.value ∷ r) (y.is ∙ ap (λ r. y.value ∷ r) (z.is ∙ ap (λ r. z.value ∷ r) u.is))
          ∙ four_back x.value y.value z.value u.value u.rest low_x low_y low_z low_u;
      holds = lt-ltb _ _ (omega arith);
      reads = λ bad f. x.reads bad _ ∙ y.reads bad _ ∙ z.reads bad _ ∙ u.reads bad _;
      on = u.on;
    }

-- a byte that was read and is below m is one that the meaning reads too
below_got :
    (m : ℕ) (bs : List ℕ) (t : ℕ → Bool) (k : ℕ → List ℕ → List Wrong) → Got (λ R bad f. byte bs bad f) (λ b r. b ∷ r) bs t k →
    ((b : ℕ) → t b ≡ true → ltb b m ≡ true) → Got (λ R bad f. below m bs bad f) (λ b r. b ∷ r) bs t k
below_got m bs t k g low = record {
  value = g.value;
  rest = g.rest;
  is = g.is;
  holds = g.holds;
  reads = λ bad f. g.reads bad _ ∙ cond-true (ltb g.value m) _ _ (low g.value g.holds);
  on = g.on;
}

pub party_got :
    (p : ℕ) (bs : List ℕ) (k : ℕ → List ℕ → List Wrong) → checks.party p bs k ≡ [] →
    Got (λ R bad f. below p bs bad f) (λ b r. b ∷ r) bs (λ b. ltb b p) k
party_got p bs k e = below_got p bs _ k (checked _ _ bs _ (λ b. ltb b p) _ _ k (byte_got bs _ e)) (λ b h. h)

pub slot_got :
    (q : ℕ) (bs : List ℕ) (k : ℕ → List ℕ → List Wrong) → checks.slot q bs k ≡ [] →
    Got (λ R bad f. below q bs bad f) (λ b r. b ∷ r) bs (λ b. ltb b q) k
slot_got q bs k e = below_got q bs _ k (checked _ _ bs _ (λ b. ltb b q) _ _ k (byte_got bs _ e)) (λ b h. h)

pub fresh_got :
    (q : ℕ) (us : List Bool) (bs : List ℕ) (k : ℕ → List ℕ → List Wrong) → checks.fresh q us bs k ≡ [] →
    Got (λ R bad f. below q bs bad f) (λ b r. b ∷ r) bs (λ b. ltb b q && not (get_or us b false)) k
fresh_got q us bs k e =
    let g = byte_got bs _ e in
    let c = cond_none (ltb g.value q) _ _ _ g.on in
    let d = check_none (not (get_or us g.value false)) _ _ _ c.1 in
    below_got q bs _ k
    (record { value = g.value; rest = g.rest; is = g.is; holds = and_from _ _ c.0 d.0; reads = g.reads; on = d.1 })
    (λ b h. (and_parts _ _ h).0)

pub value_got :
    (bs : List ℕ) (k : ℕ → List ℕ → List Wrong) → checks.value bs k ≡ [] →
    Got (λ R bad f. word bs bad f) four bs (λ n. leb n 1000000) k
value_got bs k e = checked _ _ bs _ _ _ _ k (word_got bs _ e)

pub high_got :
    (low : ℕ) (bs : List ℕ) (k : List ℕ → List Wrong) → checks.high low bs k ≡ [] →
    Got (λ R bad f. word bs bad f) four bs (λ n. leb n 1000000 && leb low n) (λ n r. k r)
high_got low bs k e = checked _ _ bs _ _ _ _ _ (word_got bs _ e)

-- past the slots every coefficient is 0
no_rates :
    (n : ℕ) (bs : List ℕ) (k : List ℕ → List Wrong) → k bs ≡ [] →
    Got (λ R bad f. rates_at n 0 bs bad f) (writing.rates 0) bs (small_rates n 0) (λ cs r. k r)
no_rates zero bs k e = record { value = []; rest = bs; is = refl; holds = refl; reads = λ bad f. refl; on = e }
no_rates (suc n) bs k e =
    let g = no_rates n bs k e in
    record { value = 0 ∷ g.value; rest = g.rest; is = g.is; holds = g.holds; reads = λ bad f. g.reads bad _; on = g.on }

pub rates_got :
    (n q : ℕ) (bs : List ℕ) (k : List ℕ → List Wrong) → q ≤ n → checks.rates q bs k ≡ [] →
    Got (λ R bad f. rates_at n q bs bad f) (writing.rates q) bs (small_rates n q) (λ cs r. k r)
rates_got n zero bs k h e = no_rates n bs k e
rates_got zero (suc q) bs k h e = absurd (omega arith)
rates_got (suc n) (suc q) bs k h e =
    let c = checked _ _ bs _ (λ c. leb c 1000) _ _ (λ c r. checks.rates q r k) (half_got bs _ e) in
    let g = rates_got n q c.rest k (omega arith) c.on in
    record {
      value = c.value ∷ g.value;
      rest = g.rest;
      is = c.is ∙ ap (two c.value) g.is;
      holds = and_from _ _ c.holds g.holds;
      reads = λ bad f. c.reads bad (λ x r. rates_at n q r bad (λ xs s. f (x ∷ xs) s)) ∙ g.reads bad (λ xs s. f (c.value ∷ xs) s);
      on = g.on;
    }

pub amount_got :
    (q : ℕ) (bs : List ℕ) (k : List ℕ → List Wrong) → q ≤ 8 → checks.amount q bs k ≡ [] →
    Got (λ R bad f. amount_at q bs bad f) (writing.amount q) bs (small_amount q) (λ a r. k r)
amount_got q bs k h e =
    let c = checked _ _ bs _ (λ n. leb n 1000000000) _ _ (λ n r. checks.rates q r k) (word_got bs _ e) in
    let g = rates_got 8 q c.rest k h c.on in
    record {
      value = record { base = c.value; per = g.value };
      rest = g.rest;
      is = c.is ∙ ap (four c.value) g.is;
      holds = and_from _ _ c.holds g.holds;
      reads = λ bad f.
          c.reads bad (λ n r. rates_at 8 q r bad (λ xs s. f (record { base = n; per = xs }) s))
          ∙ g.reads bad (λ xs s. f (record { base = c.value; per = xs }) s);
      on = g.on;
    }

-- two parties and an amount: the head of a payment, and of a deposit
pub record Moved (p q : ℕ) (bs : List ℕ) (k : ℕ → ℕ → List ℕ → List Wrong) : Type 1 where
  pub one : ℕ
  pub other : ℕ
  pub amount : Amount
  pub rest : List ℕ
  pub is : bs ≡ one ∷ other ∷ writing.amount q amount rest
  pub parties : (ltb one p && ltb other p) ≡ true
  pub small : small_amount q amount ≡ true
  pub reads :
      {R : Type 0} (bad : R) (f : ℕ → ℕ → Amount → List ℕ → R) →
      below p bs bad (λ w r. below p r bad (λ x s. amount_at q s bad (λ a u. f w x a u))) ≡ f one other amount rest
  pub on : k one other rest ≡ []

moved_by :
    (p q : ℕ) (bs : List ℕ) (k : ℕ → ℕ → List ℕ → List Wrong) {k₁ k₂ : ℕ → List ℕ → List Wrong}
    (x : Got (λ R bad f. below p bs bad f) (λ b r. b ∷ r) bs (λ b. ltb b p) k₁)
    (y : Got (λ R bad f. below p x.rest bad f) (λ b r. b ∷ r) x.rest (λ b. ltb b p) k₂)
    (a : Got (λ R bad f. amount_at q y.rest bad f) (writing.amount q) y.rest (small_amount q) (λ a r. k x.value y.value r)) →
    Moved p q bs k
moved_by p q bs k x y a = record {
  one = x.value;
  other = y.value;
  amount = a.value;
  rest = a.rest;
  is = x.is ∙ ap (λ r. x.value ∷ r) (y.is ∙ ap (λ r. y.value ∷ r) a.is);
  parties = and_from _ _ x.holds y.holds;
  small = a.holds;
  reads = λ bad f.
      x.reads bad (λ w r. below p r bad (λ y s. amount_at q s bad (λ a u. f w y a u)))
      ∙ y.reads bad (λ y s. amount_at q s bad (λ a u. f x.value y a u))
      ∙ a.reads bad (λ a u. f x.value y.value a u);
  on = a.on;
}

pub moved : (p q : ℕ) (bs : List ℕ) (k : ℕ → ℕ → List ℕ → List Wrong) → q ≤ 8 → checks.deposit p q bs k ≡ [] → Moved p q bs k
moved p q bs k h e =
    let x = party_got p bs (λ w r. checks.party p r (λ y s. checks.amount q s (k w y))) e in
    let y = party_got p x.rest (λ y s. checks.amount q s (k x.value y)) x.on in
    moved_by p q bs k x y (amount_got q y.rest (k x.value y.value) h y.on)

-- the head of two ways by a slot's value
pub record Forked (q : ℕ) (bs : List ℕ) (k : List ℕ → List Wrong) : Type 0 where
  pub slot : ℕ
  pub bound : ℕ
  pub rest : List ℕ
  pub is : bs ≡ slot ∷ four bound rest
  pub there : ltb slot q ≡ true
  pub small : leb bound 1000000 ≡ true
  pub looks : look_fork q bs ≡ forks slot bound rest
  pub on : k rest ≡ []

pub forked : (q : ℕ) (bs : List ℕ) (k : List ℕ → List Wrong) → checks.branch q bs k ≡ [] → Forked q bs k
forked q bs k e =
    let x = slot_got q bs (λ s r. checks.value r (λ n u. k u)) e in
    let y = value_got x.rest (λ n u. k u) x.on in
    record {
      slot = x.value;
      bound = y.value;
      rest = y.rest;
      is = x.is ∙ ap (λ r. x.value ∷ r) y.is;
      there = x.holds;
      small = y.holds;
      looks = x.reads _ _ ∙ y.reads _ (λ n u. forks x.value n u);
      on = y.on;
    }

-- the head of a waiting: its day, and the number of its acts
pub record Waited (bs : List ℕ) (k : ℕ → List ℕ → List Wrong) : Type 0 where
  pub day : ℕ
  pub number : ℕ
  pub rest : List ℕ
  pub is : bs ≡ two day (number ∷ rest)
  pub small : ltb day 65536 ≡ true
  pub some : (leb 1 number && leb number 16) ≡ true
  pub looks : look_wait bs ≡ waits day number rest
  pub on : k number rest ≡ []

abbrev counted : List ℕ → (ℕ → List ℕ → List Wrong) → List Wrong
counted r k = byte r cut (λ m s. check (leb 1 m && leb m 16) ActCount (length r) (k m s))

waited_by :
    (bs : List ℕ) (k : ℕ → List ℕ → List Wrong) {k₁ : ℕ → List ℕ → List Wrong}
    (x : Got (λ R bad f. half bs bad f) two bs (λ n. ltb n 65536) k₁) → counted x.rest k ≡ [] → Waited bs k
waited_by bs k x e =
    let y = checked _ _ x.rest _ (λ m. leb 1 m && leb m 16) _ _ k (byte_got x.rest _ e) in
    record {
      day = x.value;
      number = y.value;
      rest = y.rest;
      is = x.is ∙ ap (two x.value) y.is;
      small = x.holds;
      some = y.holds;
      looks = x.reads _ (λ d r. byte r (ends []) (λ m s. waits d m s)) ∙ y.reads _ (λ m s. waits x.value m s);
      on = y.on;
    }

pub waited : (bs : List ℕ) (k : ℕ → List ℕ → List Wrong) → checks.waiting bs k ≡ [] → Waited bs k
waited bs k e = let x = half_got bs (λ d r. counted r k) e in waited_by bs k x x.on

-- the head of a choice
pub record Chosen (p q : ℕ) (us : List Bool) (bs : List ℕ) (k : ℕ → ℕ → List ℕ → List Wrong) : Type 0 where
  pub who : ℕ
  pub slot : ℕ
  pub low : ℕ
  pub high : ℕ
  pub rest : List ℕ
  pub is : bs ≡ who ∷ slot ∷ four low (four high rest)
  pub party : ltb who p ≡ true
  pub there : ltb slot q ≡ true
  pub unset : get_or us slot false ≡ false
  pub low_small : leb low 1000000 ≡ true
  pub high_small : leb high 1000000 ≡ true
  pub ordered : leb low high ≡ true
  pub looks : look_choice p q bs ≡ sets who slot low high rest
  pub on : k who slot rest ≡ []

chosen_by :
    (p q : ℕ) (us : List Bool) (bs : List ℕ) (k : ℕ → ℕ → List ℕ → List Wrong) {k₁ k₂ k₃ : ℕ → List ℕ → List Wrong}
    (w : Got (λ R bad f. below p bs bad f) (λ b r. b ∷ r) bs (λ b. ltb b p) k₁)
    (s : Got (λ R bad f. below q w.rest bad f) (λ b r. b ∷ r) w.rest (λ b. ltb b q && not (get_or us b false)) k₂)
    (l : Got (λ R bad f. word s.rest bad f) four s.rest (λ n. leb n 1000000) k₃)
    (h : Got (λ R bad f. word l.rest bad f) four l.rest (λ n. leb n 1000000 && leb l.value n) (λ n r. k w.value s.value r)) →
    Chosen p q us bs k
chosen_by p q us bs k w s l h =
    let there = and_parts _ _ s.holds in
    let ordered = and_parts _ _ h.holds in
    record {
      who = w.value;
      slot = s.value;
      low = l.value;
      high = h.value;
      rest = h.rest;
      is = w.is ∙ ap (λ r. w.value ∷ r) (s.is ∙ ap (λ r. s.value ∷ r) (l.is ∙ ap (four l.value) h.is));
      party = w.holds;
      there = there.0;
      unset = not-true _ there.1;
      low_small = l.holds;
      high_small = ordered.0;
      ordered = ordered.1;
      looks =
          w.reads _ (λ w r. below q r (no_more []) (λ s u. word u (no_more []) (λ l v. word v (no_more []) (λ h x. sets w s l h x))))
          ∙ s.reads _ (λ s u. word u (no_more []) (λ l v. word v (no_more []) (λ h x. sets w.value s l h x)))
          ∙ l.reads _ (λ l v. word v (no_more []) (λ h x. sets w.value s.value l h x))
          ∙ h.reads _ (λ h x. sets w.value s.value l.value h x);
      on = h.on;
    }

pub chosen :
    (p q : ℕ) (us : List Bool) (bs : List ℕ) (k : ℕ → ℕ → List ℕ → List Wrong) → checks.choice p q us bs k ≡ [] →
    Chosen p q us bs k
chosen p q us bs k e =
    let w = party_got p bs (λ w r. checks.fresh q us r (λ s u. checks.value u (λ low v. checks.high low v (k w s)))) e in
    let s = fresh_got q us w.rest (λ s u. checks.value u (λ low v. checks.high low v (k w.value s))) w.on in
    let l = value_got s.rest (λ low v. checks.high low v (k w.value s.value)) s.on in
    chosen_by p q us bs k w s l (high_got l.value l.rest (k w.value s.value) l.on)

-- an act that is like none before it
pub unlike_none : (seen : List Key) (bs : List ℕ) (more : List Wrong) → unlike seen bs more ≡ [] → more ≡ []
unlike_none seen [] more e = e
unlike_none seen (b ∷ []) more e = e
unlike_none seen (b ∷ w ∷ []) more e = e
unlike_none seen (b ∷ w ∷ x ∷ bs) more e = (check_none (not (among b w x seen)) _ _ _ e).1

pub unlike_new :
    (seen : List Key) (bs : List ℕ) (b w x : ℕ) (rest : List ℕ) (more : List Wrong) → bs ≡ b ∷ w ∷ x ∷ rest →
    unlike seen bs more ≡ [] → among b w x seen ≡ false
unlike_new seen bs b w x rest more is e = not-true _ (check_none (not (among b w x seen)) _ _ _ (rw is at e)).0
