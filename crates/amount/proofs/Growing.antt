-- A form that grows by one amount stays within what one amount more can make.
use Rattle.std.proofs.Common.{ℕ, ◌+◌, ◌*◌, ◌<◌, ◌≤◌, List, length, get_or, ℤ, pos, ⊎_elim, mul-add, arith}
use Rattle.std.proofs.lemmas.List.{get_or_past}
use Rattle.std.proofs.lemmas.Bool.{cases_lt}
use Rattle.amount.specs.Form.{Within, UpTo, Moves, each, changed, meaning}
use Rattle.amount.specs.declared.Amount.{Amount}
use Rattle.amount.specs.declared.Form.{Form}
use Rattle.amount.proofs.Places.{length-each, get_or-each}
use Rattle.amount.proofs.Ranges.{within_more, within_pos}

module _ (op : ℤ → ℤ → ℤ) (moves : Moves op) where
  one_more : (limit n : ℕ) (z : ℤ) (c : ℕ) → Within (limit * n) z → c ≤ limit → Within (limit * (n + 1)) (op z (pos c))
  one_more limit n z c w h = within_more (limit * n + c) (limit * (n + 1)) _ (omega (arith, mul-add limit n 1)) (moves z (limit * n) c w)

  each_one_more :
      (n : ℕ) (cs : List ℤ) (es : List ℕ) → ((k : ℕ) → Within (65535 * n) (get_or cs k (pos 0))) →
      ((k : ℕ) → k < length cs → get_or es k 0 ≤ 65535) → (k : ℕ) → Within (65535 * (n + 1)) (get_or (each op cs es) k (pos 0))
  each_one_more n cs es w few k =
      ⊎_elim
      (λ lt. rw (get_or-each op cs es k lt) (one_more 65535 n (get_or cs k (pos 0)) (get_or es k 0) (w k) (few k lt)))
      (λ le. rw (get_or_past (each op cs es) k (pos 0) (omega (arith, length-each op cs es))) (within_pos _ 0 (omega arith)))
      (cases_lt k (length cs))

  pub grown :
      (f : Form) (a : Amount) → a.base ≤ 4294967295 → ((k : ℕ) → k < length f.per → get_or a.per k 0 ≤ 65535) →
      (n : ℕ) → UpTo n f → UpTo (n + 1) (changed op f (meaning a))
  grown f a base per n u = record {
    base = one_more 4294967295 n f.base a.base u.base base;
    per = each_one_more n f.per a.per u.per per;
  }
