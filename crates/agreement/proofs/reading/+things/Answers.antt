-- Acts are read one by one, and things one in the other.
use Rattle.std.proofs.Common.{◌-◌, ◌≤◌, length, ap, ◌∙◌, arith}
use Rattle.agreement.specs.Steps.{first}
use Rattle.agreement.proofs.HandedOn.{handed_on}
use Rattle.agreement.proofs.Walking.{acts_come_more, act_wrong, came_enough, comes_more, thing_wrong}
use Rattle.agreement.proofs.reading.+things.Goals as goal

pub read_acts-returns-in_err-used-clause-goes : goal.read_acts-returns-in_err-used-clause-goes
read_acts-returns-in_err-used-clause-goes t c =
    let same = handed_on _ _ c.from_residual.ensures.1 in
    let came = c.loop.invariant in
    rw same (act_wrong came c.loop-test.true (c.in_err-used.ensures.goes came.keys came.kept))

pub read_acts-returns-in_err-read_thing-clause-goes : goal.read_acts-returns-in_err-read_thing-clause-goes
read_acts-returns-in_err-read_thing-clause-goes t c =
    let same = handed_on _ _ c.from_residual-in_err-read_thing.ensures.1 in
    let came = c.loop.invariant in
    let acted = c.in_ok-used.ensures.goes came.keys came.kept in
    rw same (thing_wrong came c.loop-test.true acted c.in_ok-used.ensures.shorter c.in_err-read_thing.ensures.goes)

pub read_acts-loop-preserved : goal.read_acts-loop-preserved
read_acts-loop-preserved t c =
    let came = c.loop.invariant in
    let acted = c.in_ok-used.ensures.goes came.keys came.kept in
    acts_come_more came c.loop-test.true acted c.in_ok-used.ensures.shorter c.in_ok-read_thing.ensures.shorter c.in_ok-read_thing.ensures.goes

pub read_thing-loop-kind-preserved : goal.read_thing-loop-kind-preserved
read_thing-loop-kind-preserved t c =
    let kind = c.in_ok-kind.ensures in
    let waiting = c.in_ok-count-in-Wait.ensures in
    let inner = c.in_ok-read_acts-in-Wait.ensures in
    comes_more _ _ c.loop-kind.invariant (omega (arith, kind.shorter, waiting.shorter, inner.shorter))
    (λ n k h.
    let enough : length c.in_ok-count-in-Wait.rest.now ≤ n - 1 = omega (arith, kind.shorter, waiting.shorter) in
    rw (kind.goes _ _ _ n h k, c.in-Wait.is) (waiting.goes _ ∙ inner.goes (n - 1) enough _))

pub read_thing-returns-in_err-read_acts-in-Wait-clause-goes : goal.read_thing-returns-in_err-read_acts-in-Wait-clause-goes
read_thing-returns-in_err-read_acts-in-Wait-clause-goes t c =
    let same = handed_on _ _ c.from_residual-in_err-read_acts-in-Wait.ensures.1 in
    let kind = c.in_ok-kind.ensures in
    let waiting = c.in_ok-count-in-Wait.ensures in
    let came = c.loop-kind.invariant in
    rw same (λ n h k.
    let m = n - (c.loop-kind.depth - c.args.depth) in
    let there : length c.loop-kind.ahead.rest.now ≤ m = came_enough came n h in
    let enough : length c.in_ok-count-in-Wait.rest.now ≤ m - 1 = omega (arith, kind.shorter, waiting.shorter) in
    rw (came.walks n k h, kind.goes _ _ _ m there k, c.in-Wait.is) (ap first (waiting.goes _) ∙ c.in_err-read_acts-in-Wait.ensures.goes (m - 1) enough _))
