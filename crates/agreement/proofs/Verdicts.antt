-- What reading answers is the least of all checks that fail; where none fails, the agreement that was written.
use Rattle.std.proofs.Common.{◌≡◌, ℕ, ◌<◌, ◌≤◌, Bool, true, false, cond, List, [], ◌∷◌, length, Some, None, Ok, Err, Option, Result, sym, refl, ap, subst, arith}
use Rattle.std.proofs.lemmas.Bool.Decides.{nat_tests}
use Rattle.agreement.specs.Meaning.{Spot, meaning}
use Rattle.agreement.specs.Reading.{Among, here, there, First, Least, Taken, Taking, failing, least, lesser, reading, sooner}
use Rattle.agreement.specs.Checks.{walk}
use Rattle.agreement.specs.Steps.{counted, first}
use Rattle.agreement.specs.declared.Refusal.{Refusal}
use Rattle.agreement.specs.declared.Wrong.{Wrong}
use Rattle.agreement.proofs.Leasts.{failing_long, failing_none, found, sooner_over, too_many}
use Rattle.agreement.proofs.Readable.{failing_taken}
use Rattle.agreement.proofs.Sound.{failing_sound, start}

sooner_same : (r : Refusal) → sooner r r ≡ true
sooner_same r = grind (arith, nat_tests)

sooner_either : (r s : Refusal) → sooner r s ≡ false → sooner s r ≡ true
sooner_either r s e = grind (arith, nat_tests)

-- s comes no later than t, which is the least of the others
least_first : (s t : Refusal) (rs : List Refusal) → Least t rs → sooner s t ≡ true → Least s (s ∷ rs)
least_first s t rs l h = record { one = here; first = by }
  where
    by : (u : Refusal) → Among u (s ∷ rs) → sooner s u ≡ true
    by u here = sooner_same s
    by u (there among) = sooner_over s t u h (l.first u among)

least_later : (s t : Refusal) (rs : List Refusal) → Least t rs → sooner s t ≡ false → Least t (s ∷ rs)
least_later s t rs l h = record { one = there l.one; first = by }
  where
    by : (u : Refusal) → Among u (s ∷ rs) → sooner t u ≡ true
    by u here = sooner_either s t h
    by u (there among) = l.first u among

none_least : (rs : List Refusal) → least rs ≡ None → rs ≡ []
none_least [] e = refl
none_least (r ∷ rs) e = by (least rs) e
  where
    by : (o : Option Refusal) → lesser r o ≡ None → (r ∷ rs) ≡ []
    by None h = let z : ◌≡◌ {A = ℕ} 0 1 = cc in absurd (omega arith)
    by (Some s) h = by_test (sooner r s) h
      where
        by_test : (t : Bool) → cond t (Some r) (Some s) ≡ None → (r ∷ rs) ≡ []
        by_test true i = let z : ◌≡◌ {A = ℕ} 0 1 = cc in absurd (omega arith)
        by_test false i = let z : ◌≡◌ {A = ℕ} 0 1 = cc in absurd (omega arith)

least_alone : (s : Refusal) → Least s (s ∷ [])
least_alone s = record { one = here; first = by }
  where
    by : (u : Refusal) → Among u (s ∷ []) → sooner s u ≡ true
    by u here = sooner_same s
    by u (there among) = elim among [ ]

least_of : (s r : Refusal) (rs : List Refusal) → ((t : Refusal) → least rs ≡ Some t → Least t rs) → (o : Option Refusal) → least rs ≡ o → lesser s o ≡ Some r →
    Least r (s ∷ rs)
least_of s r rs others None n h = let same : s ≡ r = cc in rw (none_least rs n, ← same) (least_alone s)
least_of s r rs others (Some t) n h = by (sooner s t) refl h
  where
    by : (b : Bool) → sooner s t ≡ b → cond b (Some s) (Some t) ≡ Some r → Least r (s ∷ rs)
    by true e i = let same : s ≡ r = cc in rw (← same) (least_first s t rs (others t n) e)
    by false e i = let same : t ≡ r = cc in rw (← same) (least_later s t rs (others t n) e)

some_least : (rs : List Refusal) (r : Refusal) → least rs ≡ Some r → Least r rs
some_least [] r e = let z : ◌≡◌ {A = ℕ} 0 1 = cc in absurd (omega arith)
some_least (s ∷ rs) r e = least_of s r rs (some_least rs) (least rs) refl e

-- what is promised of an answer
pub record Answers (bs : List ℕ) (r : Result Spot Refusal) : Type 0 where
  pub is : r ≡ reading bs
  pub first : First bs r
  pub taken : Taking bs r

pub refuses : (bs : List ℕ) (r : Refusal) → least (failing bs) ≡ Some r → Answers bs (Err r)
refuses bs r e =
    record {
      is = rw e;
      first = some_least (failing bs) r e;
      taken = λ p q a taken.
          let none : failing bs ≡ [] = failing_taken bs p q a taken in
          let z : ◌≡◌ {A = ℕ} 0 1 = cc in absurd (omega arith);
    }

pub takes : (bs rest : List ℕ) (p q : ℕ) → failing bs ≡ [] → bs ≡ p ∷ q ∷ rest → Answers bs (Ok (record { parties = p; slots = q; depth = 64; bytes = rest }))
takes bs rest p q none e =
    let begun : start bs ≡ record { parties = p; slots = q; depth = 64; bytes = rest } = rw e in
    record {
      is = rw none (ap Ok (sym begun));
      first = none;
      taken = subst (λ (s : Spot). Taken bs s.parties s.slots (meaning s)) begun (failing_sound bs none).taken;
    }

-- the first fault of the walk
pub refuses_first : (bs : List ℕ) (w : Wrong) → first (walk bs) ≡ Some w → Answers bs (Err (counted (length bs) w))
refuses_first bs w e = refuses bs (counted (length bs) w) (found bs w e).least

pub refuses_long : (bs : List ℕ) → walk bs ≡ [] → 16384 < length bs → Answers bs (Err too_many)
refuses_long bs e long = refuses bs too_many (failing_long bs e long)

pub takes_whole : (bs rest : List ℕ) (p q : ℕ) → walk bs ≡ [] → bs ≡ p ∷ q ∷ rest → length bs ≤ 16384 → Answers bs (Ok (record { parties = p; slots = q; depth = 64; bytes = rest }))
takes_whole bs rest p q none e few = takes bs rest p q (failing_none bs none few) e
