-- What the judge answers so far, and how it is told. Assumes nothing: these are definitions.
use Rattle.std.specs.Prelude.{ℕ, List, Ok, Err, codes, Result}
use Rattle.agreement.specs.Agreement.{Agreement, over, pay, fork, await}
use Rattle.agreement.specs.Fault as refusals
use Rattle.agreement.specs.Meaning.{Spot, meaning}
use Rattle.agreement.specs.Reading.{reading}
use Rattle.agreement.specs.declared.Refusal.{Refusal}
use Rattle.judge.specs.declared.answers.Finding.{Finding}
use Rattle.judge.specs.declared.answers.Finding.TheVariants.{Clear, NotJudged}

-- only what is over at once is judged
abbrev pub judged : Agreement → Finding
judged over = Clear
judged (pay f t a k) = NotJudged
judged (fork s n k l) = NotJudged
judged (await acts d k) = NotJudged

abbrev pub answer_by : Result Spot Refusal → Result Finding Refusal
answer_by (Err r) = Err r
answer_by (Ok s) = Ok (judged (meaning s))

abbrev pub answer_of : List ℕ → Result Finding Refusal
answer_of bs = answer_by (reading bs)

-- the words of each finding
abbrev pub told : Finding → List ℕ
told Clear = codes "clear"
told NotJudged = codes "not judged yet"

-- the words of each answer
abbrev pub printed : Result Finding Refusal → List ℕ
printed (Ok f) = told f
printed (Err r) = refusals.told r
