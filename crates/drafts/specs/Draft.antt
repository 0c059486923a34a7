-- What a draft stands for, and what writing it does to memory. Assumes nothing: these are definitions.
use Rattle.std.specs.Prelude.{ℕ, cond, List, [], ◌∷◌, ◌++◌, length, take, drop, Ok, Err, Result, nat_le}
use Rattle.amount.specs.Form as amounts
use Rattle.agreement.specs.Agreement as value
use Rattle.agreement.specs.Limits.{Allowed}
use Rattle.agreement.specs.Reading.{Gives, reading}
use Rattle.agreement.specs.Writing.{written}
use Rattle.agreement.specs.declared.act.Act.{Act}
use Rattle.agreement.specs.declared.act.Act.TheVariants.{Deposit, Choice}
use Rattle.agreement.specs.declared.Fault.TheVariants.{Memory}
use Rattle.agreement.specs.declared.Refusal.{Refusal}
use Rattle.drafts.specs.declared.draft.Draft.{Draft}
use Rattle.drafts.specs.declared.draft.Thing.{Thing}
use Rattle.drafts.specs.declared.draft.Thing.TheFolds.{fold-Thing}
use Rattle.drafts.specs.declared.draft.Thing.TheOpen.{Thing-F}

-- an act, where f says what its rest stands for, before more acts
abbrev pub act_by : {R : Type 0} → (R → value.Agreement) → Act R → value.Acts → value.Acts
act_by f (Deposit party account amount rest) more = value.deposit party account (amounts.meaning amount) (f rest) more
act_by f (Choice party slot low high rest) more = value.choose party slot low high (f rest) more

-- acts one after another
abbrev pub acts_by : {R : Type 0} → (R → value.Agreement) → List (Act R) → value.Acts
acts_by f [] = value.none
acts_by f (act ∷ more) = act_by f act (acts_by f more)

-- a thing, where f says what its parts stand for
abbrev pub thing_by : {R : Type 0} → (R → value.Agreement) → Thing-F R → value.Agreement
thing_by f Thing-F.Over = value.over
thing_by f (Thing-F.Pay from to amount rest) = value.pay from to (amounts.meaning amount) (f rest.value)
thing_by f (Thing-F.Fork slot bound below otherwise) = value.fork slot bound (f below.value) (f otherwise.value)
thing_by f (Thing-F.Wait day acts rest) = value.await (acts_by f acts.items) day (f rest.value)

-- the agreement that a draft's thing stands for
abbrev pub drawn : Thing → value.Agreement
drawn = fold-Thing value.Agreement (thing_by (λ a. a))

-- a draft's act, before more acts
abbrev pub drawn_act : Act Thing → value.Acts → value.Acts
drawn_act = act_by drawn

abbrev pub drawn_acts : List (Act Thing) → value.Acts
drawn_acts = acts_by drawn

-- the bytes of a draft
abbrev pub draft_bytes : Draft → List ℕ
draft_bytes d = written d.parties d.slots (drawn d.first)

-- memory with the bytes at its front
abbrev pub laid : List ℕ → List ℕ → List ℕ
laid bytes old = bytes ++ drop (length bytes) old

-- memory that is too short for the bytes stays as it is
abbrev pub memory_after : List ℕ → List ℕ → List ℕ
memory_after bytes old = cond (nat_le (length bytes) (length old)) (laid bytes old) old

-- how many bytes were written, or that there are more than the room takes
abbrev pub fitting : ℕ → ℕ → Result ℕ Refusal
fitting n room = cond (nat_le n room) (Ok n) (Err (record { fault = Memory; place = 2 }))

-- what was written of a draft that the rules allow is read, and means what was drafted
abbrev pub ReadBack : Draft → List ℕ → Result ℕ Refusal → Type 0
ReadBack d new (Ok n) =
    Allowed d.parties d.slots (drawn d.first) → Gives d.parties d.slots (drawn d.first) (reading (take n new))
ReadBack d new (Err r) = Unit {0}
