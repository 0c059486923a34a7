use Rattle.agreement.proofs.Rates.{Reads}
use Rattle.agreement.proofs.steps.read_rates.Given as goal

abbrev pub invariant-loop-i : goal.invariant-loop-i
invariant-loop-i l = Reads l.fn.header.slots l.bytes l.i
