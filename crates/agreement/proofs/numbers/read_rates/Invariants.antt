use Rattle.agreement.proofs.RatesAt.{Rated}
use Rattle.agreement.proofs.numbers.read_rates.Given as goal

abbrev pub invariant-loop-rate : goal.invariant-loop-rate
invariant-loop-rate l = Rated l.fn.header.slots l.bytes l.rate-items l.rest l.rate-index
