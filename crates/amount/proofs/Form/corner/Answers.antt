use Rattle.std.proofs.Common.{◌∙◌, rules}
use Rattle.amount.specs.Form.{lowest}
use Rattle.amount.proofs.Corners.{corner_less, corner_inside}
use Rattle.amount.proofs.Filled.{filled}
use Rattle.amount.proofs.Places.{length-lowest, get_or-lowest}
use Rattle.amount.proofs.Form.corner.Goals as goal

pub returns : goal.returns
returns c =
    let form = c.args.self.now in
    let low = c.args.bounds.now.low in
    let high = c.args.bounds.now.high in
    let is = filled 0 c.from_fn.ensures.items (λ i y q call. search rules) (lowest form.per low high) (search (rules, length-lowest))
    (λ k lt call. search (rules, get_or-lowest form.per low high k (search rules) (search rules) (search rules))) in
    record {
      is = is;
      amounts = λ x y less. is ∙ corner_less x y form low high less (search rules);
      belongs = λ vs i. rw is (corner_inside form.per (search rules) i);
    }
