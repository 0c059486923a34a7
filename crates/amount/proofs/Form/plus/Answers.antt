use Rattle.std.proofs.Common.{◌+ℤ◌, pos, arith, rules}
use Rattle.amount.specs.Form.{meaning}
use Rattle.amount.proofs.Lessened.{less_increased}
use Rattle.amount.proofs.Ranges.{within_pos, within_sum}
use Rattle.amount.proofs.Form.plus.Goals as goal

pub returns-clause-is : goal.returns-clause-is
returns-clause-is c = search (rules, c.changed.ensures.is ◌+ℤ◌ (λ z r n w h p. search rules))

pub returns-clause-less : goal.returns-clause-less
returns-clause-less c = λ x y less. rw (returns-clause-is c) (less_increased x y (meaning c.args.amount.now) c.args.self.now less (search rules))

pub returns-clause-room : goal.returns-clause-room
returns-clause-room c = λ n u.
    rw (returns-clause-is c)
    (rw (c.changed.ensures.is ◌+ℤ◌ (λ z r n w h p. search rules)) at
    c.changed.ensures.room ◌+ℤ◌ (λ z r n w h p. search rules) (λ z m k w. within_sum m k z (pos k) w (within_pos k k (omega arith))) n u)
