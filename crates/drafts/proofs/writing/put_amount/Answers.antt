use Rattle.std.proofs.Common.{◌≡◌, ◌++◌, get_or, sym, ◌∙◌, arith, rules}
use Rattle.amount.specs.Form.{meaning}
use Rattle.drafts.proofs.Before.{amount_before, amount_next, put_behind, lengths}
use Rattle.drafts.proofs.writing.put_amount.Goals as goal

pub loop-slot-preserved : goal.loop-slot-preserved
loop-slot-preserved c =
    let k = c.loop-slot.slot in
    let a = meaning c.args.amount.now in
    let rate : c.unwrap_or-rate.result ≡ get_or c.args.amount.now.per k 0 = search rules in
    let bytes = c.to_le_bytes-in-loop-slot in
    let put = c.put-end-in-loop-slot in (
      omega arith,
      put_behind (λ more. bytes.result ++ more) _ _ (amount_before k a) (omega (arith, lengths)) c.loop-slot.invariant.1 put.ensures.puts ∙
          rw (bytes.ensures, rate) (sym (amount_next k a _)),
    )
