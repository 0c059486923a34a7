-- What a place means, from what stands there and what its parts mean.
use Rattle.std.proofs.Common.{◌≡◌, ℕ, zero, suc, ◌-◌, List, sym, refl, ap, ◌∙◌, arith, Option, Some, None}
use Rattle.agreement.specs.Agreement.{Agreement, Acts}
use Rattle.agreement.specs.Meaning.{Spot, Part, Awaited, look_act, act_then, meant, acts_meant, look_then}
use Rattle.agreement.specs.Numbers.{Given}
use Rattle.agreement.specs.Places.{look_at, seen, shown, shown_next, Due, awaited, next_act, leftover, Inside, Beside, Means, Mean, Parts, ActParts, Steps, ActSteps}
use Rattle.agreement.specs.declared.act.Act.{Act}
use Rattle.agreement.specs.declared.act.Act.TheVariants.{Deposit, Choice}
use Rattle.agreement.specs.declared.places.Place.{Place}
use Rattle.agreement.specs.declared.places.Step.{Step}
use Rattle.agreement.specs.declared.places.Step.TheVariants.{Over, Pay, Fork, Wait}

-- one step
meant_seen : (p q d : ℕ) (bs : List ℕ) → meant p q d bs ≡ look_then p q (meant p q (d - 1)) (look_at p q d bs)
meant_seen p q zero bs = refl
meant_seen p q (suc d) bs = let e : suc d - 1 ≡ d = omega arith in rw e refl

module _ (s : Spot) where
  whole : (r : Step) → shown r ≡ seen s → meant s.parties s.slots s.depth s.bytes ≡ look_then s.parties s.slots (meant s.parties s.slots (s.depth - 1)) (shown r)
  whole r e = meant_seen s.parties s.slots s.depth s.bytes ∙ ap (look_then s.parties s.slots _) (sym e)

  means : (a : Agreement) (bs : List ℕ) → meant s.parties s.slots s.depth s.bytes ≡ record { what = a; rest = bs } → Means s a bs
  means a bs e = record { what = ap (λ x. x.what) e; rest = ap (λ x. x.rest) e }

  depth_inside : (t : Spot) → Inside s t → s.depth - 1 ≡ t.depth
  depth_inside t i = omega (arith, i.depth)

  pub steps_mean : (r : Step) → shown r ≡ seen s → Parts Inside s r → Steps s r
  steps_mean (Over after) e i = means _ _ (whole (Over after) e)
  steps_mean (Pay from to amount rest) e i =
      means _ _ (rw (whole (Pay from to amount rest) e, depth_inside _ i, i.parties, i.slots) refl)
  steps_mean (Fork slot bound below) e i =
      means _ _ (rw (whole (Fork slot bound below) e, depth_inside _ i, i.parties, i.slots) refl)
  steps_mean (Wait day acts) e i =
      means _ _ (rw (whole (Wait day acts) e, depth_inside _ i, i.parties, i.slots) refl)

-- one act
acts_seen : (p q : ℕ) (next : List ℕ → Part) (m : ℕ) (bs : List ℕ) → acts_meant p q next m bs ≡ act_then next (acts_meant p q next (m - 1)) (look_act p q m bs)
acts_seen p q next zero bs = refl
acts_seen p q next (suc m) bs = let e : suc m - 1 ≡ m = omega arith in rw e refl

module _ (d : Due) where
  abbrev follow : List ℕ → Part
  follow = meant d.at.parties d.at.slots d.at.depth

  abbrev more : List ℕ → Awaited
  more = acts_meant d.at.parties d.at.slots follow (d.left - 1)

  whole_acts : (r : Option (Act Place)) → shown_next (leftover d) r ≡ next_act d → awaited d ≡ act_then follow more (shown_next (leftover d) r)
  whole_acts r e = acts_seen d.at.parties d.at.slots follow d.left d.at.bytes ∙ ap (act_then follow more) (sym e)

  mean : (a : Acts) (bs : List ℕ) → awaited d ≡ record { what = a; rest = bs } → Mean d a bs
  mean a bs e = record { what = ap (λ x. x.what) e; rest = ap (λ x. x.rest) e }

  pub acts_mean : (r : Option (Act Place)) → shown_next (leftover d) r ≡ next_act d → Given r (ActParts Beside d.at) → ActSteps d r
  acts_mean None e b = mean _ _ (whole_acts None e)
  acts_mean (Some (Deposit party account amount rest)) e b =
      mean _ _ (rw (whole_acts (Some (Deposit party account amount rest)) e, b.parties, b.slots, b.depth) refl)
  acts_mean (Some (Choice party slot low high rest)) e b =
      mean _ _ (rw (whole_acts (Some (Choice party slot low high rest)) e, b.parties, b.slots, b.depth) refl)
