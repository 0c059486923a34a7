-- The loop that reads the coefficients of an amount: its invariant, one step, and its end.
use Rattle.std.proofs.Common.{◌≡◌, ℕ, zero, suc, ◌+◌, ◌-◌, ◌<◌, ◌≤◌, List, [], ◌∷◌, ◌++◌, length, take, drop, set, replicate, Some, None, refl, ◌∙◌, append_assoc, add-one, arith, length-set, take-suc-set, Bor}
use Rattle.std.proofs.lemmas.List.{drop-replicate, length-take-le, take_all}
use Rattle.agreement.specs.Bytes.{half}
use Rattle.agreement.specs.Meaning.{ends, no_more, rates_at}
use Rattle.agreement.specs.Numbers.{Reads}

-- reading goes on at rest, with the first i of q coefficients known
abbrev From : {R : Type 0} → ℕ → List ℕ → R → List ℕ → List ℕ → ℕ → Type 0
From {R} q bs bad per rest i =
    (k : List ℕ → List ℕ → R) → rates_at 8 q bs bad k ≡ rates_at (8 - i) (q - i) rest bad (λ cs s. k (take i per ++ cs) s)

pub record Rated (q : ℕ) (bs per rest : List ℕ) (i : ℕ) : Type 0 where
  pub looks : From q bs (ends []) per rest i
  pub acts : From q bs (no_more []) per rest i
  pub few : q ≤ 8
  pub long : length per ≡ q
  pub shorter : length rest ≤ length bs

pub rated_none : (q : ℕ) (bs : List ℕ) → q ≤ 8 → Rated q bs (take q (replicate 8 0)) bs 0
rated_none q bs few =
    let none : q - 0 ≡ q = omega arith in
    record { looks = λ k. rw none refl; acts = λ k. rw none refl; few = few; long = length-take-le q _ few; shorter = omega arith }

front_more : (per : List ℕ) (i c : ℕ) (cs : List ℕ) → i < length per → take i per ++ (c ∷ cs) ≡ take (i + 1) (set per i c) ++ cs
front_more per i c cs h = rw (add-one, take-suc-set per i c h, append_assoc) refl

-- coefficients that are not read are 0
rates_zero : {R : Type 0} (n : ℕ) (bs : List ℕ) (bad : R) (k : List ℕ → List ℕ → R) → rates_at n 0 bs bad k ≡ k (replicate n 0) bs
rates_zero zero bs bad k = refl
rates_zero (suc n) bs bad k = rates_zero n bs bad (λ cs s. k (0 ∷ cs) s)

module _ {R : Type 0} (q : ℕ) (bs : List ℕ) (bad : R) (per rest : List ℕ) (i : ℕ) (few : q ≤ 8) (from : From q bs bad per rest i) where
  from_half :
      (read : (ℕ → List ℕ → R) → R) → ((k : ℕ → List ℕ → R) → half rest bad k ≡ read k) → i < q → (k : List ℕ → List ℕ → R) →
      rates_at 8 q bs bad k ≡ read (λ c r. rates_at (8 - (i + 1)) (q - (i + 1)) r bad (λ cs s. k (take i per ++ (c ∷ cs)) s))
  from_half read e there k =
      let left : 8 - i ≡ suc (8 - (i + 1)) = omega arith in
      let slots : q - i ≡ suc (q - (i + 1)) = omega arith in
      from k ∙ rw (left, slots) (e _)

  from_more :
      (c : ℕ) (r : List ℕ) → ((k : ℕ → List ℕ → R) → half rest bad k ≡ k c r) → i < q → i < length per →
      From q bs bad (set per i c) r (i + 1)
  from_more c r e there h k =
      from_half (λ next. next c r) e there k
      ∙ (λ j. rates_at (8 - (i + 1)) (q - (i + 1)) r bad (λ cs s. k (front_more per i c cs h j) s))

  from_all : i ≡ q → length per ≡ q → (k : List ℕ → List ℕ → R) → rates_at 8 q bs bad k ≡ k (per ++ drop q (replicate {A = ℕ} 8 0)) rest
  from_all all long k =
      let none : q - i ≡ 0 = omega arith in
      let whole : take i per ≡ per = take_all i per (omega arith) in
      from k ∙ rw (none, rates_zero (8 - i) rest bad, whole, all, drop-replicate {X = ℕ} q 8) refl

module _ {q : ℕ} {bs per rest : List ℕ} {i : ℕ} (rated : Rated q bs per rest i) where
  pub rated_more :
      (c : ℕ) (r : Bor (List ℕ)) → Reads (Some (c, r)) rest (λ R. half {R = R}) → length r.now < length rest → i < length per →
      Rated q bs (set per i c) r.now (i + 1)
  rated_more c r e less there =
      let h : i < q = omega (arith, rated.long) in
      record {
        looks = from_more q bs (ends []) per rest i rated.few rated.looks c r.now e.looks h there;
        acts = from_more q bs (no_more []) per rest i rated.few rated.acts c r.now e.acts h there;
        few = rated.few;
        long = length-set per i c ∙ rated.long;
        shorter = omega (arith, rated.shorter);
      }

  pub rated_cut : Reads None rest (λ R. half {R = R}) → i < length per → Reads {X = List ℕ} None bs (λ R. rates_at {R = R} 8 q)
  rated_cut e there =
      let h : i < q = omega (arith, rated.long) in
      record {
        looks = from_half q bs (ends []) per rest i rated.few rated.looks (λ next. ends []) e.looks h;
        acts = from_half q bs (no_more []) per rest i rated.few rated.acts (λ next. no_more []) e.acts h;
      }

pub rated_all :
    {q : ℕ} {bs per : List ℕ} {rest : Bor (List ℕ)} {i : ℕ} → Rated q bs per rest.now i → i ≡ length per →
    Reads (Some (per ++ drop q (replicate {A = ℕ} 8 0), rest)) bs (λ R. rates_at {R = R} 8 q)
rated_all {q} {bs} {per} {rest} {i} rated all = record {
  looks = from_all q bs (ends []) per rest.now i rated.few rated.looks (all ∙ rated.long) rated.long;
  acts = from_all q bs (no_more []) per rest.now i rated.few rated.acts (all ∙ rated.long) rated.long;
}
