use Rattle.std.proofs.Common.{rules}
use Rattle.amount.proofs.Corners.{exact_least, corner_law}
use Rattle.amount.proofs.Form.least.Goals as goal

pub returns-clause-amounts : goal.returns-clause-amounts
returns-clause-amounts c = exact_least c.args.self.now c.args.bounds.now _ (search rules) (search rules)

pub returns-clause-law : goal.returns-clause-law
returns-clause-law c = corner_law
