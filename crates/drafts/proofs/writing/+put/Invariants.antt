use Rattle.std.proofs.Common.{◌≡◌, ◌+◌, ◌*◌, ◌≤◌, take, drop}
use Rattle.agreement.specs.Writing.{writing, writing_acts}
use Rattle.drafts.specs.Draft.{drawn, drawn_acts}
use Rattle.drafts.specs.Size.{size_acts}
use Rattle.drafts.specs.declared.draft.Thing.TheViews.{size-Thing}
use Rattle.drafts.proofs.Before.{Halfway}
use Rattle.drafts.proofs.writing.+put.Given as goal

-- an act is as deep as what follows it, and acts as the deepest of them: so the callers rank higher
abbrev pub decreases-put_thing : goal.decreases-put_thing
decreases-put_thing l = 3 * goal.size-put_thing l

abbrev pub decreases-put_acts : goal.decreases-put_acts
decreases-put_acts l = 3 * goal.size-put_acts l + 2

abbrev pub decreases-put_act : goal.decreases-put_act
decreases-put_act l = 3 * goal.size-put_act l + 1

abbrev pub invariant-put_acts-loop-act : goal.invariant-put_acts-loop-act
invariant-put_acts-loop-act l =
    (l.end ≡ size_acts l.slots (drawn_acts (take l.act-index l.acts))) ×
    (l.out ≡ writing_acts l.slots (drawn_acts (take l.act-index l.acts)) (drop l.end l.initial.out))

abbrev pub invariant-put_thing-loop-thing : goal.invariant-put_thing-loop-thing
invariant-put_thing-loop-thing l = record {
  no_deeper : size-Thing l.thing ≤ size-Thing l.fn.thing;
  puts : Halfway (writing l.slots (drawn l.fn.thing)) (writing l.slots (drawn l.thing)) l.initial.out l.end l.out;
}
