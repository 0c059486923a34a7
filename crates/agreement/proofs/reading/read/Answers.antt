-- The whole was good, or the first fault is answered; in both cases more bytes than the most are too many.
use Rattle.std.proofs.Common.{arith}
use Rattle.agreement.proofs.Leasts.{found}
use Rattle.agreement.proofs.Verdicts.{refuses_first, refuses_long, takes_whole}
use Rattle.agreement.proofs.reading.read.Goals as goal

pub among-requires : goal.among-requires
among-requires c = (found c.args.bytes.now c.in-Err.wrong c.in-Err.ensures).inside

pub returns-in-Err : goal.returns-in-Err
returns-in-Err c =
    let a = refuses_first c.args.bytes.now c.in-Err.wrong c.in-Err.ensures in
    rw c.among.ensures (record { is = a.is; first = a.first; taken = a.taken })

pub returns-in-Ok : goal.returns-in-Ok
returns-in-Ok c =
    let whole = c.in-Ok.ensures in
    let header = c.in-Ok.agreement.header in
    let a = takes_whole c.args.bytes.now c.in-Ok.agreement.bytes.now header.parties header.slots whole.0 whole.1 (omega arith) in
    record { is = a.is; first = a.first; taken = a.taken }

pub returns-in-Ok-2 : goal.returns-in-Ok-2
returns-in-Ok-2 c =
    let a = refuses_long c.args.bytes.now c.in-Ok-2.ensures.0 (omega arith) in
    record { is = a.is; first = a.first; taken = a.taken }
