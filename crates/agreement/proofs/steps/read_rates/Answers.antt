use Rattle.std.proofs.Common.{rules}
use Rattle.std.proofs.lemmas.Bool.{le-leb, lt-leb}
use Rattle.agreement.proofs.Rates.{reads_cut, reads_there}
use Rattle.agreement.proofs.steps.read_rates.Goals as goal

pub returns-then-from_le_bytes-gt-MOST_PER_UNIT-clause-goes : goal.returns-then-from_le_bytes-gt-MOST_PER_UNIT-clause-goes
returns-then-from_le_bytes-gt-MOST_PER_UNIT-clause-goes c =
    let pairs = c.as_chunks.ensures in
    let there = reads_there _ _ _ pairs.front pairs.front_len (search rules) c.loop-i.invariant _ c.loop-i-test.true (search rules) c.from_le_bytes.ensures in
    λ k. rw (there k, lt-leb _ 1000 c.if-from_le_bytes-gt-MOST_PER_UNIT.true) (search rules)

pub loop-i-preserved : goal.loop-i-preserved
loop-i-preserved c =
    let pairs = c.as_chunks.ensures in
    let there = reads_there _ _ _ pairs.front pairs.front_len (search rules) c.loop-i.invariant _ c.loop-i-test.true (search rules) c.from_le_bytes.ensures in
    record { on = λ k. rw (there k, le-leb _ 1000 c.if-from_le_bytes-gt-MOST_PER_UNIT.false) }

pub returns-then-there-slots-clause-goes : goal.returns-then-there-slots-clause-goes
returns-then-there-slots-clause-goes c =
    let pairs = c.as_chunks.ensures in
    λ k. rw (reads_cut _ _ _ pairs.front pairs.front_len (search rules) c.loop-i.invariant c.loop-i.auto.i-end c.loop-i-test.false (search rules) k) (search rules)
