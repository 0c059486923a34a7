-- What was put fills the front of memory, and is read back.
use Rattle.std.proofs.Common.{◌≡◌, ◌+◌, ◌∷◌, ◌++◌, true, leb, length, drop, Ok, ap, ◌∙◌, arith, le-leb}
use Rattle.agreement.specs.Writing.{writing}
use Rattle.agreement.proofs.Readable.{gives_written}
use Rattle.drafts.specs.Draft.{drawn, draft_bytes}
use Rattle.drafts.proofs.Before.{put_behind, counts_before, writing_before}
use Rattle.drafts.proofs.writing.write.Goals as goal

pub returns : goal.returns
returns c =
    let d = c.args.draft.now in
    let old = c.args.out.now in
    let n = c.put_thing.result in
    let end : c.put-end.result + n ≡ length (draft_bytes d) = omega arith in
    let fits : leb (length (draft_bytes d)) (length old) ≡ true = le-leb (length (draft_bytes d)) (length old) (omega arith) in
    let filled =
    put_behind (writing d.slots (drawn d.first)) _ _ (counts_before d.parties d.slots) (omega arith) c.put-end.ensures.puts c.put_thing.ensures.puts ∙
    ap (λ xs. d.parties ∷ d.slots ∷ xs) ((writing_before d.slots (drawn d.first)).before (drop (c.put-end.result + n) old)) in
    record {
      answer = rw fits (ap Ok (omega arith));
      memory = rw fits (filled ∙ ap (λ k. draft_bytes d ++ drop k old) end);
      back = λ allowed. rw filled (gives_written d.parties d.slots (drawn d.first) _ (c.put-end.result + n) end allowed);
    }
