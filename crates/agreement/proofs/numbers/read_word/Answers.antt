use Rattle.std.proofs.Common.{◌≡◌, ℕ, List, arith}
use Rattle.agreement.specs.Bytes.{word}
use Rattle.agreement.proofs.Fronts.{word_there}
use Rattle.agreement.proofs.numbers.read_word.Goals as goal

there : (c : goal.After-from_le_bytes) {R : Type 0} (short : R) (k : ℕ → List ℕ → R) →
    word c.args.bytes.now short k ≡ k c.from_le_bytes.result c.in_ok-number.rest.now
there c short k =
    let split = c.in_ok-number.ensures.cases in
    rw (c.from_le_bytes.ensures, split.0, split.1)
    (word_there c.args.bytes.now short k (omega (arith, split.2)) (λ i. let fits = c.type_inv.bytes i in omega arith))

pub returns-clause-is : goal.returns-clause-is
returns-clause-is c = record { looks = λ k. there c _ k; acts = λ k. there c _ k }

pub returns-clause-walks : goal.returns-clause-walks
returns-clause-walks c = λ k. there c _ k
