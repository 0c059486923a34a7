-- What a thing stands for, from what its parts do.
use Rattle.std.proofs.Common.{◌≡◌, List, [], ◌∷◌, map, refl, ap, ◌∙◌}
use Rattle.agreement.specs.Agreement.{Agreement, Acts, await}
use Rattle.agreement.specs.declared.act.Act.{Act}
use Rattle.agreement.specs.declared.act.Act.TheVariants.{Deposit, Choice}
use Rattle.drafts.specs.Draft.{act_by, acts_by, thing_by, drawn, drawn_act, drawn_acts}
use Rattle.drafts.specs.declared.draft.Thing.{Thing}
use Rattle.drafts.specs.declared.draft.Thing.TheFolds.{fold_out-Thing, map-Thing}
use Rattle.drafts.specs.declared.draft.Thing.TheOpen.{Thing-F}
use Rattle.drafts.specs.declared.draft.Thing.TheViews.{out-Thing}

-- where h draws the rest of an act
acts_mapped :
    (h : Act Thing → Act Agreement) → ((act : Act Thing) (more : Acts) → act_by (λ a. a) (h act) more ≡ drawn_act act more) →
    (acts : List (Act Thing)) → acts_by (λ a. a) (map h acts) ≡ drawn_acts acts
acts_mapped h same [] = refl
acts_mapped h same (act ∷ acts) = same act (acts_by (λ a. a) (map h acts)) ∙ ap (drawn_act act) (acts_mapped h same acts)

thing_mapped : (x : Thing-F Thing) → thing_by (λ a. a) (map-Thing Thing Agreement drawn x) ≡ thing_by drawn x
thing_mapped Thing-F.Over = refl
thing_mapped (Thing-F.Pay from to amount rest) = refl
thing_mapped (Thing-F.Fork slot bound below otherwise) = refl
thing_mapped (Thing-F.Wait day acts rest) =
    ap (λ a. await a day (drawn rest.value))
    (acts_mapped _ (elim [ Deposit party account amount r ↦ λ more. refl | Choice party slot low high r ↦ λ more. refl ]) acts.items)

pub drawn_out : (thing : Thing) → drawn thing ≡ thing_by drawn (out-Thing thing)
drawn_out thing = fold_out-Thing Agreement (thing_by (λ a. a)) thing ∙ thing_mapped (out-Thing thing)
