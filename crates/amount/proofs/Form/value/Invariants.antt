use Rattle.std.proofs.Common.{◌≡◌, ◌+◌, ◌*◌, length, drop, ◌+ℤ◌}
use Rattle.amount.specs.Form.{dotℤ, value, Within}
use Rattle.amount.proofs.Form.value.Given as goal

-- what is summed and what is left make the whole, and no sum so far is too large
abbrev pub invariant-loop-coefficient : goal.invariant-loop-coefficient
invariant-loop-coefficient l = record {
  whole : l.sum +ℤ dotℤ (drop (length l.yielded) l.self.per) (drop (length l.yielded) l.slots) ≡ value l.self l.slots;
  fits : Within (4294967295 * 1024 + length l.yielded * (65535 * 1024 * 4294967295)) l.sum;
}
