use Rattle.std.proofs.Common.{arith}
use Rattle.agreement.proofs.RatesAt.{rated_none, rated_more, rated_cut, rated_all}
use Rattle.agreement.proofs.numbers.read_rates.Goals as goal

pub loop-rate-init : goal.loop-rate-init
loop-rate-init c = rw c.from.ensures (rated_none c.args.header.slots c.args.bytes.now c.args.header.few_slots)

pub loop-rate-preserved : goal.loop-rate-preserved
loop-rate-preserved c =
    let e = c.in_ok-cents.ensures in
    rated_more c.loop-rate.invariant _ _ e.is e.shorter (omega arith)

pub returns-in_err-cents-clause-is : goal.returns-in_err-cents-clause-is
returns-in_err-cents-clause-is c =
    let none = rated_cut c.loop-rate.invariant c.in_err-cents.ensures.is (omega arith) in
    rw c.from_residual.ensures (record { looks = λ k. none.looks _; acts = λ k. none.acts _ })

pub returns-clause-is : goal.returns-clause-is
returns-clause-is c =
    let all = rated_all {rest = c.loop-rate.rest} c.loop-rate.invariant (omega arith) in
    rw c.from.ensures (record { looks = λ k. all.looks _; acts = λ k. all.acts _ })
