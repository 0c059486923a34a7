-- An agreement as bytes, in prefix order. Assumes nothing: these are definitions.
--
-- Each is written before what follows, so that nothing is said of where it ends.
use Rattle.std.specs.Prelude.{ℕ, zero, suc, ◌+◌, min, List, [], ◌∷◌}
use Rattle.amount.specs.Amount.{Amount}
use Rattle.agreement.specs.Agreement.{Agreement, over, pay, fork, await, Acts, none, deposit, choose}
use Rattle.agreement.specs.Bytes.{two, four}

-- for each of q slots its cents per unit, 0 where none is given
abbrev pub rates : ℕ → List ℕ → List ℕ → List ℕ
rates zero cs more = more
rates (suc q) [] more = two 0 (rates q [] more)
rates (suc q) (c ∷ cs) more = two c (rates q cs more)

abbrev pub amount : ℕ → Amount → List ℕ → List ℕ
amount q a more = four a.base (rates q a.per more)

abbrev pub count : Acts → ℕ
count none = 0
count (deposit w acc a k rest) = count rest + 1
count (choose w s lo hi k rest) = count rest + 1

-- the number of acts is one byte, the largest where there are more than that holds
abbrev mutual
  pub writing : ℕ → Agreement → List ℕ → List ℕ
  writing q over more = 0 ∷ more
  writing q (pay f t a k) more = 1 ∷ f ∷ t ∷ amount q a (writing q k more)
  writing q (fork s n k l) more = 2 ∷ s ∷ four n (writing q k (writing q l more))
  writing q (await acts d k) more = 3 ∷ two d (min (count acts) 255 ∷ writing_acts q acts (writing q k more))

  pub writing_acts : ℕ → Acts → List ℕ → List ℕ
  writing_acts q none more = more
  writing_acts q (deposit w acc a k rest) more = 1 ∷ w ∷ acc ∷ amount q a (writing q k (writing_acts q rest more))
  writing_acts q (choose w s lo hi k rest) more =
      2 ∷ w ∷ s ∷ four lo (four hi (writing q k (writing_acts q rest more)))

-- the whole: the number of parties, the number of slots, the agreement
abbrev pub written : ℕ → ℕ → Agreement → List ℕ
written p q a = p ∷ q ∷ writing q a []
