use Rattle.std.proofs.Common.{arith}
use Rattle.agreement.proofs.Walking.{thing_follow}
use Rattle.agreement.proofs.reading.read_kind.Goals as goal

pub returns-clause-goes : goal.returns-clause-goes
returns-clause-goes c p q us n h k =
    thing_follow p q us c.args.depth c.args.things c.in-Ok.kind n k c.in-Some.ensures.front c.in-Ok.ensures (omega arith) (omega arith) h
