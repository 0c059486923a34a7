-- The limits of counts, depth and numbers. Assumes nothing: these are definitions.
use Rattle.std.specs.Prelude.{◌≡◌, ℕ, zero, suc, ◌+◌, ◌≤◌, max, Bool, true, false, ◌&&◌, List, [], ◌∷◌, replicate, ◌==◌, nat_le, nat_lt}
use Rattle.amount.specs.Amount.{Amount}
use Rattle.agreement.specs.Agreement.{Agreement, over, pay, fork, await, Acts, none, deposit, choose, made}
use Rattle.agreement.specs.Writing.{count}

-- how many of the four things it has
abbrev mutual
  pub things : Agreement → ℕ
  things over = 1
  things (pay f t a k) = things k + 1
  things (fork s n k l) = things k + things l + 1
  things (await acts d k) = things_in acts + things k + 1

  pub things_in : Acts → ℕ
  things_in none = 0
  things_in (deposit w acc a k rest) = things k + things_in rest
  things_in (choose w s lo hi k rest) = things k + things_in rest

-- how deep they are nested; acts are no levels
abbrev mutual
  pub depth : Agreement → ℕ
  depth over = 1
  depth (pay f t a k) = depth k + 1
  depth (fork s n k l) = max (depth k) (depth l) + 1
  depth (await acts d k) = max (depth_in acts) (depth k) + 1

  pub depth_in : Acts → ℕ
  depth_in none = 0
  depth_in (deposit w acc a k rest) = max (depth k) (depth_in rest)
  depth_in (choose w s lo hi k rest) = max (depth k) (depth_in rest)

-- so many coefficients, at most 1,000 cents per unit for each of q slots, and 0 past them
abbrev pub small_rates : ℕ → ℕ → List ℕ → Bool
small_rates zero q [] = true
small_rates zero q (c ∷ cs) = false
small_rates (suc n) q [] = false
small_rates (suc n) zero (c ∷ cs) = c == 0 && small_rates n zero cs
small_rates (suc n) (suc q) (c ∷ cs) = nat_le c 1000 && small_rates n q cs

-- an amount over q slots: it has eight coefficients
abbrev pub small_amount : ℕ → Amount → Bool
small_amount q a = nat_le a.base 1000000000 && small_rates 8 q a.per

-- every number is within its bounds
abbrev mutual
  pub small : ℕ → Agreement → Bool
  small q over = true
  small q (pay f t a k) = small_amount q a && small q k
  small q (fork s n k l) = nat_le n 1000000 && (small q k && small q l)
  small q (await acts d k) =
      (nat_lt d 65536 && (nat_le 1 (count acts) && nat_le (count acts) 16)) && (small_acts q acts && small q k)

  pub small_acts : ℕ → Acts → Bool
  small_acts q none = true
  small_acts q (deposit w acc a k rest) = small_amount q a && (small q k && small_acts q rest)
  small_acts q (choose w s lo hi k rest) = (nat_le lo 1000000 && nat_le hi 1000000) && (small q k && small_acts q rest)

-- what the rules allow for p parties and q slots: well made, and within the limits
pub record Allowed (p q : ℕ) (a : Agreement) : Type 0 where
  pub some_party : 1 ≤ p
  pub few_parties : p ≤ 8
  pub few_slots : q ≤ 8
  pub made : made p (replicate q false) a ≡ true
  pub small : small q a ≡ true
  pub few_things : things a ≤ 512
  pub shallow : depth a ≤ 64
