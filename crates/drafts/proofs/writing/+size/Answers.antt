use Rattle.std.proofs.Common.{arith}
use Rattle.drafts.proofs.Acts.{size_next}
use Rattle.drafts.proofs.writing.+size.Goals as goal

pub acts_size-loop-act-preserved : goal.acts_size-loop-act-preserved
acts_size-loop-act-preserved t c =
    omega (arith, size_next c.args.slots c.args.acts.now c.loop-act.act-index c.act-item.result (omega arith) c.act-item.is)
