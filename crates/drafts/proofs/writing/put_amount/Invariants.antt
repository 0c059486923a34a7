use Rattle.std.proofs.Common.{◌≡◌, ◌+◌, ◌*◌, drop}
use Rattle.amount.specs.Form.{meaning}
use Rattle.agreement.specs.Writing.{amount}
use Rattle.drafts.proofs.writing.put_amount.Given as goal

abbrev pub invariant-loop-slot : goal.invariant-loop-slot
invariant-loop-slot l = (l.end ≡ 4 + 2 * l.slot) × (l.out ≡ amount l.slot (meaning l.amount) (drop l.end l.fn.out))
