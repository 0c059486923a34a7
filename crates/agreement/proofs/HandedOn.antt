-- A refusal that is handed on by `?`.
use Rattle.std.proofs.Common.{◌≡◌, Err, Result, ap, ◌∙◌}
use Rattle.std.specs.Result.{IsErrAnd}
use Rattle.std.proofs.lemmas.Result.{err_from_is_err_and}
use Rattle.agreement.specs.declared.Wrong.{Wrong}

pub handed_on : {X : Type 0} (r : Result X Wrong) (w : Wrong) → IsErrAnd r (λ e. e ≡ w) → r ≡ Err w
handed_on r w is = let p = err_from_is_err_and r is in p.1 ∙ ap Err p.2
