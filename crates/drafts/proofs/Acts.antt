-- Acts of a draft, one after another.
use Rattle.std.proofs.Common.{◌≡◌, ℕ, ◌+◌, ◌<◌, ◌≤◌, List, [], ◌∷◌, ◌++◌, length, get_or, take, drop, refl, sym, ap, ◌∙◌, arith}
use Rattle.std.proofs.lemmas.List.{take_more, take-append-drop}
use Rattle.agreement.specs.Agreement.{Acts, none}
use Rattle.agreement.specs.Writing.{count, writing_acts}
use Rattle.agreement.specs.declared.act.Act.{Act}
use Rattle.agreement.specs.declared.act.Act.TheVariants.{Deposit, Choice}
use Rattle.drafts.specs.Draft.{drawn_act, drawn_acts}
use Rattle.drafts.specs.Size.{size_acts}
use Rattle.drafts.specs.declared.draft.Thing.{Thing}
use Rattle.drafts.proofs.Before.{length_acts}

act_then :
    (q : ℕ) (act : Act Thing) (rest : Acts) (more : List ℕ) →
    writing_acts q (drawn_act act rest) more ≡ writing_acts q (drawn_act act none) (writing_acts q rest more)
act_then q (Deposit party account amount k) rest more = refl
act_then q (Choice party slot low high k) rest more = refl

acts_then :
    (q : ℕ) (acts others : List (Act Thing)) (more : List ℕ) →
    writing_acts q (drawn_acts (acts ++ others)) more ≡ writing_acts q (drawn_acts acts) (writing_acts q (drawn_acts others) more)
acts_then q [] others more = refl
acts_then q (act ∷ acts) others more =
    act_then q act (drawn_acts (acts ++ others)) more ∙
    ap (writing_acts q (drawn_act act none)) (acts_then q acts others more) ∙
    sym (act_then q act (drawn_acts acts) (writing_acts q (drawn_acts others) more))

module _ (q : ℕ) (acts : List (Act Thing)) (k : ℕ) (act : Act Thing) (h : k < length acts) (is : act ≡ get_or acts k act) where
  pub writing_next :
      (more : List ℕ) →
      writing_acts q (drawn_acts (take (k + 1) acts)) more ≡ writing_acts q (drawn_acts (take k acts)) (writing_acts q (drawn_act act none) more)
  writing_next more =
      ap (λ xs. writing_acts q (drawn_acts xs) more) (take_more acts k act h ∙ ap (λ a. take k acts ++ a ∷ []) (sym is)) ∙
      acts_then q (take k acts) (act ∷ []) more

  pub size_next : size_acts q (drawn_acts (take (k + 1) acts)) ≡ size_acts q (drawn_acts (take k acts)) + size_acts q (drawn_act act none)
  size_next = ap length (writing_next []) ∙ length_acts q (drawn_acts (take k acts)) (writing_acts q (drawn_act act none) [])

pub size_taken : (q : ℕ) (acts : List (Act Thing)) (k : ℕ) → size_acts q (drawn_acts (take k acts)) ≤ size_acts q (drawn_acts acts)
size_taken q acts k =
    let parts = ap (λ xs. size_acts q (drawn_acts xs)) (sym (take-append-drop k acts)) in
    let all = acts_then q (take k acts) (drop k acts) [] in
    omega (arith, parts, ap length all, length_acts q (drawn_acts (take k acts)) (writing_acts q (drawn_acts (drop k acts)) []))

pub count_drawn : (acts : List (Act Thing)) → count (drawn_acts acts) ≡ length acts
count_drawn [] = refl
count_drawn (Deposit party account amount k ∷ acts) = omega (arith, count_drawn acts)
count_drawn (Choice party slot low high k ∷ acts) = omega (arith, count_drawn acts)
