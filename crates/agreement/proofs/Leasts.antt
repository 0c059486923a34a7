-- Of faults in their order the first is the least, and so reading answers it.
use Rattle.std.proofs.Common.{◌≡◌, ℕ, ◌+◌, ◌-◌, ◌*◌, ◌<◌, ◌≤◌, Bool, true, false, List, [], ◌∷◌, ◌++◌, length, Some, None, Option, refl, ap, ◌∙◌, arith}
use Rattle.std.proofs.lemmas.Bool.Decides.{nat_tests}
use Rattle.agreement.specs.Checks.{walk}
use Rattle.agreement.specs.Fault.{number}
use Rattle.agreement.specs.Reading.{failing, least, lesser, placed, sooner, too_long}
use Rattle.agreement.specs.Steps.{counted, first}
use Rattle.agreement.specs.declared.Fault.TheVariants.{Surplus}
use Rattle.agreement.specs.declared.Refusal.{Refusal}
use Rattle.agreement.specs.declared.Wrong.{Wrong}
use Rattle.agreement.proofs.Ordered.{Down, Within, walk_down, weight}

abbrev pub refusal : ℕ → Wrong → Refusal
refusal n w = record { fault = w.fault; place = n - w.left }

pub sooner_over : (a b c : Refusal) → sooner a b ≡ true → sooner b c ≡ true → sooner a c ≡ true
sooner_over a b c h i = grind (arith, nat_tests)

lesser_over : (a b : Refusal) (o : Option Refusal) → sooner a b ≡ true → lesser a (lesser b o) ≡ lesser a o
lesser_over a b None h = rw h
lesser_over a b (Some c) h = by (sooner b c) refl
  where
    by : (t : Bool) → sooner b c ≡ t → lesser a (lesser b (Some c)) ≡ lesser a (Some c)
    by true e = rw (e, h, sooner_over a b c h e)
    by false e = rw e

weight_sooner : (n : ℕ) (v w : Wrong) → weight w ≤ weight v → number v.fault ≤ 13 → number w.fault ≤ 13 → v.left ≤ n →
    sooner (refusal n v) (refusal n w) ≡ true
weight_sooner n v w h few less inside = grind (arith, nat_tests)

inside : (n m : ℕ) (w : Wrong) (ws : List Wrong) → m ≤ n * 18 + 17 → Down m (w ∷ ws) → w.left ≤ n
inside n m w ws le d = omega (arith, d.0.weighs, d.0.few)

least_ordered : (n m : ℕ) (w : Wrong) (ws : List Wrong) (rest : List Refusal) → m ≤ n * 18 + 17 → Down m (w ∷ ws) →
    least (placed n (w ∷ ws) ++ rest) ≡ lesser (refusal n w) (least rest)
least_ordered n m w [] rest le d = refl
least_ordered n m w (v ∷ ws) rest le d =
    ap (lesser (refusal n w)) (least_ordered n (weight w) v ws rest (omega (arith, d.0.weighs)) d.1) ∙
    lesser_over (refusal n w) (refusal n v) (least rest) (weight_sooner n w v d.1.0.weighs d.0.few d.1.0.few (inside n m w (v ∷ ws) le d))

abbrev pub too_many : Refusal
too_many = record { fault = Surplus; place = 16384 }

least_long : (n : ℕ) (w : Wrong) → w.left ≤ n → number w.fault ≤ 13 →
    lesser (refusal n w) (least (too_long n)) ≡ Some (counted n w)
least_long n w le few = grind (arith, nat_tests)

-- the walk's first fault, with what follows for reading
pub record Found (bs : List ℕ) (w : Wrong) : Type 0 where
  pub inside : w.left ≤ length bs
  pub least : least (failing bs) ≡ Some (counted (length bs) w)

found_in : (bs : List ℕ) (w : Wrong) (ws : List Wrong) → walk bs ≡ ws → Within (length bs) ws → first ws ≡ Some w → Found bs w
found_in bs w [] e d f = let z : ◌≡◌ {A = ℕ} 0 1 = cc in absurd (omega arith)
found_in bs w (v ∷ ws) e d f =
    let same : v ≡ w = cc in
    record {
      inside = rw (← same) (inside (length bs) _ v ws (omega arith) d);
      least = rw (e, ← same) (least_ordered (length bs) _ v ws (too_long (length bs)) (omega arith) d ∙ least_long (length bs) v (inside (length bs) _ v ws (omega arith) d) d.0.few);
    }

pub found : (bs : List ℕ) (w : Wrong) → first (walk bs) ≡ Some w → Found bs w
found bs w f = found_in bs w (walk bs) refl (walk_down bs) f

pub failing_none : (bs : List ℕ) → walk bs ≡ [] → length bs ≤ 16384 → failing bs ≡ []
failing_none bs e le = rw e (grind (arith, nat_tests))

pub failing_long : (bs : List ℕ) → walk bs ≡ [] → 16384 < length bs → least (failing bs) ≡ Some too_many
failing_long bs e lt = rw e (grind (arith, nat_tests))
