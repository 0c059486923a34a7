-- Agreements, and when one is well made. Assumes nothing: these are definitions.
use Rattle.std.specs.Prelude.{ℕ, max, Bool, true, false, not, ◌&&◌, ◌||◌, List, length, ◌==◌, nat_le, nat_lt, slice_index_or, slice_set}
use Rattle.amount.specs.Amount.{Amount}

-- what is left to do: nothing; a payment out of one party's account to a party; two ways by a slot's value;
-- or to wait until a day for one of some acts, and what follows if none came
mutual
  pub data Agreement : Type 0 where
    over : Agreement
    pay : ℕ → ℕ → Amount → Agreement → Agreement
    fork : ℕ → ℕ → Agreement → Agreement → Agreement
    await : Acts → ℕ → Agreement → Agreement

  -- a party puts an amount into an account; or a party sets a slot to a value from one bound to another
  pub data Acts : Type 0 where
    none : Acts
    deposit : ℕ → ℕ → Amount → Agreement → Acts → Acts
    choose : ℕ → ℕ → ℕ → ℕ → Agreement → Acts → Acts

-- is there another act of the party w that could be taken for this one
unfoldable pub puts_too : ℕ → ℕ → Acts → Bool
puts_too w acc none = false
puts_too w acc (deposit u b a k rest) = (w == u && acc == b) || puts_too w acc rest
puts_too w acc (choose u s lo hi k rest) = puts_too w acc rest

unfoldable pub sets_too : ℕ → ℕ → Acts → Bool
sets_too w s none = false
sets_too w s (deposit u b a k rest) = sets_too w s rest
sets_too w s (choose u r lo hi k rest) = (w == u && s == r) || sets_too w s rest

-- made for p parties, the slots given, true where one was set before: every party and slot is there, no slot is set
-- twice, no act can be taken for another, and bounds are in order
abbrev mutual
  pub made : ℕ → List Bool → Agreement → Bool
  made p us over = true
  made p us (pay f t a k) = (nat_lt f p && nat_lt t p) && made p us k
  made p us (fork s n k l) = nat_lt s (length us) && (made p us k && made p us l)
  made p us (await acts d k) = made_acts p us acts && made p us k

  pub made_acts : ℕ → List Bool → Acts → Bool
  made_acts p us none = true
  made_acts p us (deposit w acc a k rest) =
      ((nat_lt w p && nat_lt acc p) && not (puts_too w acc rest)) && (made p us k && made_acts p us rest)
  made_acts p us (choose w s lo hi k rest) =
      ((nat_lt w p && not (slice_index_or us s true)) && (nat_le lo hi && not (sets_too w s rest))) && (made p (slice_set us s true) k && made_acts p us rest)

-- the last day that it names
abbrev mutual
  pub last : Agreement → ℕ
  last over = 0
  last (pay f t a k) = last k
  last (fork s n k l) = max (last k) (last l)
  last (await acts d k) = max (max d (last k)) (last_acts acts)

  pub last_acts : Acts → ℕ
  last_acts none = 0
  last_acts (deposit w acc a k rest) = max (last k) (last_acts rest)
  last_acts (choose w s lo hi k rest) = max (last k) (last_acts rest)
