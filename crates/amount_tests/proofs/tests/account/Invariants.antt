use Rattle.std.proofs.Common.{◌+◌}
use Rattle.amount.specs.Form.{UpTo}
use Rattle.amount_tests.proofs.tests.account.Given as goal

abbrev pub invariant-loop-deposit : goal.invariant-loop-deposit
invariant-loop-deposit l = UpTo l.deposit-index l.form

abbrev pub invariant-loop-payment : goal.invariant-loop-payment
invariant-loop-payment l = UpTo (64 + l.payment-index) l.form
