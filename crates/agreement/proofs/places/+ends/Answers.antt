use Rattle.std.proofs.Common.{ap, arith}
use Rattle.agreement.specs.Places.{awaited}
use Rattle.agreement.proofs.places.+ends.Goals as goal

pub Acts::after-returns-in-Some-Deposit-clause-is : goal.Acts::after-returns-in-Some-Deposit-clause-is
Acts::after-returns-in-Some-Deposit-clause-is t c =
    let later = ap (λ x. (awaited x).rest) c.next.ensures in
    grind arith
