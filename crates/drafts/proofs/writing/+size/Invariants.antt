use Rattle.std.proofs.Common.{◌≡◌, ◌+◌, ◌*◌, ◌-◌, ◌^◌, ◌≤◌, min, take}
use Rattle.drafts.specs.Draft.{drawn, drawn_acts}
use Rattle.drafts.specs.Size.{size, size_acts}
use Rattle.drafts.specs.declared.draft.Thing.TheViews.{size-Thing}
use Rattle.drafts.proofs.writing.+size.Given as goal

-- an act is as deep as what follows it, and acts as the deepest of them: so the callers rank higher
abbrev pub decreases-thing_size : goal.decreases-thing_size
decreases-thing_size l = 3 * goal.size-thing_size l

abbrev pub decreases-acts_size : goal.decreases-acts_size
decreases-acts_size l = 3 * goal.size-acts_size l + 2

abbrev pub decreases-act_size : goal.decreases-act_size
decreases-act_size l = 3 * goal.size-act_size l + 1

abbrev pub invariant-acts_size-loop-act : goal.invariant-acts_size-loop-act
invariant-acts_size-loop-act l = l.size ≡ min (size_acts l.slots (drawn_acts (take l.act-index l.acts))) (2 ^ 64 - 1)

abbrev pub invariant-thing_size-loop-thing : goal.invariant-thing_size-loop-thing
invariant-thing_size-loop-thing l = record {
  no_deeper : size-Thing l.thing ≤ size-Thing l.fn.thing;
  sizes : min (l.size + size l.slots (drawn l.thing)) (2 ^ 64 - 1) ≡ min (size l.slots (drawn l.fn.thing)) (2 ^ 64 - 1);
}
