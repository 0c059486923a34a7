use Rattle.std.proofs.Common.{◌+◌, ap, ◌∙◌, rules}
use Rattle.amount.specs.Amount.{dot}
use Rattle.amount.specs.Known.{mask}
use Rattle.amount.proofs.Dots.{dot-mask}
use Rattle.amount.proofs.Filled.{filled}
use Rattle.amount.proofs.Places.{length-mask, get_or-mask}
use Rattle.amount.proofs.Amount.known.Goals as goal

pub returns : goal.returns
returns c =
    let amount = c.args.self.now in
    let set = c.args.set.now in
    let per = filled 0 c.from_fn.ensures.items (λ i y q call. search rules) (mask set amount.per) (length-mask set amount.per ∙ c.told-set)
    (λ k lt call. search (rules, get_or-mask set amount.per k)) in
    record {
      is = ap (λ cs. record { base = amount.base; per = cs }) per;
      counts = λ vs. ap (λ n. amount.base + n) (ap (λ cs. dot cs vs) per ∙ dot-mask set amount.per vs);
    }
