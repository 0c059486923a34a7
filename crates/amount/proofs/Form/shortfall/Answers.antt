use Rattle.std.proofs.Common.{◌≡◌, ap, ◌∙◌, rules}
use Rattle.amount.specs.Least.{lack}
use Rattle.amount.proofs.Lack.{below_0, short}
use Rattle.amount.proofs.Form.shortfall.Goals as goal

pub returns : goal.returns
returns c =
    let least = c.least.result in
    let is : c.unsigned_abs.result ≡ lack least = search (rules, below_0 least) in
    record { is = is ∙ ap lack c.least.ensures.is; amounts = λ x y less. short x y c.args.bounds.now least _ is (c.least.ensures.amounts x y less) }
