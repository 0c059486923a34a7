-- An act of either kind is compared with those seen, and is seen then itself.
use Rattle.std.proofs.Common.{rules}
use Rattle.agreement.proofs.HandedOn.{handed_on}
use Rattle.agreement.proofs.Acting.{act_of}
use Rattle.agreement.proofs.reading.read_act.Goals as goal

pub returns-then-has-clause-goes : goal.returns-then-has-clause-goes
returns-then-has-clause-goes c =
    λ keys kept k.
    rw (act_of c.in-Ok.kind _ _ _ keys _ c.in-Some.ensures.front c.in-Ok.ensures (c.has.ensures keys kept) k, c.if-has.true) (search rules)

pub returns-in_err-party-in-Deposit-clause-goes : goal.returns-in_err-party-in-Deposit-clause-goes
returns-in_err-party-in-Deposit-clause-goes c =
    let same = handed_on _ _ c.from_residual.ensures.1 in
    rw same (λ keys kept k.
    rw (act_of c.in-Ok.kind _ _ _ keys _ c.in-Some.ensures.front c.in-Ok.ensures (c.has.ensures keys kept) k, c.if-has.false, c.in-Deposit.is)
    (c.in_err-party-in-Deposit.ensures.goes _))

pub returns-in_err-party-in-Choice-clause-goes : goal.returns-in_err-party-in-Choice-clause-goes
returns-in_err-party-in-Choice-clause-goes c =
    let same = handed_on _ _ c.from_residual-in_err-party-in-Choice.ensures.1 in
    rw same (λ keys kept k.
    rw (act_of c.in-Ok.kind _ _ _ keys _ c.in-Some.ensures.front c.in-Ok.ensures (c.has.ensures keys kept) k, c.if-has.false, c.in-Choice.is)
    (c.in_err-party-in-Choice.ensures.goes _))

pub returns-in_ok-party-in-Deposit-clause-goes : goal.returns-in_ok-party-in-Deposit-clause-goes
returns-in_ok-party-in-Deposit-clause-goes c =
    λ keys kept. record {
      key = _;
      kept = c.add.ensures keys kept;
      goes = λ k.
          rw (act_of c.in-Ok.kind _ _ _ keys _ c.in-Some.ensures.front c.in-Ok.ensures (c.has.ensures keys kept) k, c.if-has.false, c.in-Deposit.is)
          (c.in_ok-party-in-Deposit.ensures.goes _);
    }

pub returns-in_ok-party-in-Choice-clause-goes : goal.returns-in_ok-party-in-Choice-clause-goes
returns-in_ok-party-in-Choice-clause-goes c =
    λ keys kept. record {
      key = _;
      kept = c.add-in-Choice.ensures keys kept;
      goes = λ k.
          rw (act_of c.in-Ok.kind _ _ _ keys _ c.in-Some.ensures.front c.in-Ok.ensures (c.has.ensures keys kept) k, c.if-has.false, c.in-Choice.is, c.used_with.ensures)
          (c.in_ok-party-in-Choice.ensures.goes _);
    }
