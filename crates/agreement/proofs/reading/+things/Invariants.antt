use Rattle.std.proofs.Common.{length}
use Rattle.agreement.proofs.Walking.{ActsCome, Comes}
use Rattle.agreement.proofs.reading.+things.Given as goal

abbrev pub decreases-read_acts : goal.decreases-read_acts
decreases-read_acts l = length l.ahead.now.rest.now

abbrev pub decreases-read_thing : goal.decreases-read_thing
decreases-read_thing l = length l.ahead.now.rest.now

abbrev pub invariant-read_acts-loop : goal.invariant-read_acts-loop
invariant-read_acts-loop l =
    ActsCome l.way.header.parties l.way.header.slots l.way.used l.depth l.count l.fn.ahead.things l.fn.ahead.rest.now l.counter l.seen l.ahead.things l.ahead.rest.now

abbrev pub invariant-read_thing-loop-kind : goal.invariant-read_thing-loop-kind
invariant-read_thing-loop-kind l =
    Comes l.way.header.parties l.way.header.slots l.way.used l.initial.depth l.initial.ahead.things l.initial.ahead.rest.now l.depth l.ahead.things l.ahead.rest.now

abbrev pub decreases-read_thing-loop-kind : goal.decreases-read_thing-loop-kind
decreases-read_thing-loop-kind l = length l.ahead.rest.now
