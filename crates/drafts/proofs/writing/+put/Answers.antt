-- What follows last in a thing is put in turn, and what stands before that by a call.
use Rattle.std.proofs.Common.{◌+◌, take, refl, sym, ◌∙◌, arith, rules}
use Rattle.std.proofs.lemmas.Grind.{common_steps}
use Rattle.amount.specs.Form.{meaning}
use Rattle.agreement.specs.Agreement.{none}
use Rattle.agreement.specs.Writing.{writing, writing_acts}
use Rattle.drafts.specs.Draft.{drawn, drawn_act, drawn_acts}
use Rattle.drafts.specs.declared.draft.Thing.TheFolds.{the_lemmas}
use Rattle.drafts.proofs.Acts.{writing_next, size_next, size_taken}
use Rattle.drafts.proofs.Before.{put_behind, at_front, goes_on, parts, transfer_before, fork_before, wait_before, writing_before, acts_before, lengths, length_acts}
use Rattle.drafts.proofs.Parts.{drawn_out}
use Rattle.drafts.proofs.writing.+put.Goals as goal

pub put_thing-loop-thing-init : goal.put_thing-loop-thing-init
put_thing-loop-thing-init t c = record { no_deeper = omega arith; puts = at_front _ _ }

pub put_thing-loop-thing-preserved-in-Pay : goal.put_thing-loop-thing-preserved-in-Pay
put_thing-loop-thing-preserved-in-Pay t c = record {
  no_deeper = search (rules, the_lemmas);
  puts =
      goes_on _ c.loop-thing.invariant.puts (λ more. search (rules, drawn_out, the_lemmas))
      (transfer_before c.args.slots 1 c.in-Pay.from c.in-Pay.to (meaning c.in-Pay.amount)) (omega (arith, lengths)) c.put_transfer-end.ensures.puts;
}

pub put_thing-put_thing-end-requires : goal.put_thing-put_thing-end-requires
put_thing-put_thing-end-requires t c = (search (rules, the_lemmas), grind (arith, parts))

pub put_thing-loop-thing-preserved-in-Fork : goal.put_thing-loop-thing-preserved-in-Fork
put_thing-loop-thing-preserved-in-Fork t c =
    let q = c.args.slots in
    let below = drawn c.deref.result.now in
    let otherwise = drawn c.deref-thing-in-Fork.result.now in record {
      no_deeper = search (rules, the_lemmas);
      puts =
          goes_on _
          (goes_on (λ more. writing q below (writing q otherwise more)) c.loop-thing.invariant.puts (λ more. search (rules, drawn_out, the_lemmas))
          (fork_before c.in-Fork.slot c.in-Fork.bound) (omega arith) c.put_fork-end.ensures.puts)
          (λ more. refl) (writing_before q below) (omega (arith, lengths)) c.put_thing-end.ensures.puts;
    }

pub put_thing-put_acts-end-requires : goal.put_thing-put_acts-end-requires
put_thing-put_acts-end-requires t c = (search (rules, the_lemmas), grind (arith, parts))

pub put_thing-loop-thing-preserved : goal.put_thing-loop-thing-preserved
put_thing-loop-thing-preserved t c =
    let q = c.args.slots in
    let acts = drawn_acts c.deref-in-Wait-2.result.now in
    let rest = drawn c.deref-thing-in-Wait.result.now in record {
      no_deeper = search (rules, the_lemmas);
      puts =
          goes_on _
          (goes_on (λ more. writing_acts q acts (writing q rest more)) c.loop-thing.invariant.puts (λ more. search (rules, drawn_out, the_lemmas))
          (wait_before c.in-Wait.day c.count.result) (omega arith) c.put_wait-end.ensures.puts)
          (λ more. refl) (acts_before q acts) (omega (arith, lengths)) c.put_acts-end.ensures.puts;
    }

pub put_act-returns-in-Deposit-clause-puts : goal.put_act-returns-in-Deposit-clause-puts
put_act-returns-in-Deposit-clause-puts t c =
    let q = c.args.slots in
    put_behind (writing q (drawn c.in-Deposit.rest)) _ _
    (transfer_before q 1 c.in-Deposit.party c.in-Deposit.account (meaning c.in-Deposit.amount)) (omega (arith, lengths)) c.put_transfer-end.ensures.puts c.put_thing.ensures.puts
    ∙ search rules

pub put_acts-put_act-end-requires : goal.put_acts-put_act-end-requires
put_acts-put_act-end-requires t c =
    let q = c.args.slots in
    let acts = c.args.acts.now in
    let k = c.loop-act.act-index in
    (search (rules, the_lemmas), grind (arith, common_steps, size_next q acts k c.act-item.result (omega arith) c.act-item.is, size_taken q acts (k + 1), length_acts))

pub put_acts-loop-act-preserved : goal.put_acts-loop-act-preserved
put_acts-loop-act-preserved t c =
    let q = c.args.slots in
    let acts = c.args.acts.now in
    let k = c.loop-act.act-index in
    let act = c.act-item.result in (
      omega (arith, size_next q acts k act (omega arith) c.act-item.is),
      put_behind (writing_acts q (drawn_act act none)) _ _
          (acts_before q (drawn_acts (take k acts))) (omega arith) c.loop-act.invariant.1 c.put_act-end.ensures.puts ∙
          sym (writing_next q acts k act (omega arith) c.act-item.is _),
    )
