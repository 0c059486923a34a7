-- How many bytes a writing has at most.
use Rattle.std.proofs.Common.{◌≡◌, ℕ, zero, suc, ◌+◌, ◌*◌, ◌≤◌, List, [], ◌∷◌, length, arith}
use Rattle.agreement.specs.Agreement.{Agreement, over, pay, fork, await, Acts, none, deposit, choose}
use Rattle.agreement.specs.Limits.{things, things_in}
use Rattle.agreement.specs.Writing.{rates, writing, writing_acts}

pub length_rates : (q : ℕ) (cs more : List ℕ) → length (rates q cs more) ≡ 2 * q + length more
length_rates zero cs more = omega arith
length_rates (suc q) [] more = let e = length_rates q [] more in omega arith
length_rates (suc q) (c ∷ cs) more = let e = length_rates q cs more in omega arith

-- a head has at most 23 bytes, and each continuation has 23 to spare
mutual
  pub length_written : (q : ℕ) (a : Agreement) (rest : List ℕ) → q ≤ 8 → length (writing q a rest) + 23 ≤ 24 * things a + length rest
  length_written q over rest h = omega arith
  length_written q (pay f t a k) rest h =
      let e = length_rates q a.per (writing q k rest) in
      let r = length_written q k rest h in
      omega arith
  length_written q (fork s n k l) rest h =
      let r = length_written q k (writing q l rest) h in
      let u = length_written q l rest h in
      omega arith
  length_written q (await acts d k) rest h =
      let r = length_written_acts q acts (writing q k rest) h in
      let u = length_written q k rest h in
      omega arith

  pub length_written_acts : (q : ℕ) (acts : Acts) (rest : List ℕ) → q ≤ 8 → length (writing_acts q acts rest) ≤ 24 * things_in acts + length rest
  length_written_acts q none rest h = omega arith
  length_written_acts q (deposit w acc a k more) rest h =
      let e = length_rates q a.per (writing q k (writing_acts q more rest)) in
      let r = length_written q k (writing_acts q more rest) h in
      let u = length_written_acts q more rest h in
      omega arith
  length_written_acts q (choose w s lo hi k more) rest h =
      let r = length_written q k (writing_acts q more rest) h in
      let u = length_written_acts q more rest h in
      omega arith

-- what follows is a part of it
mutual
  pub longer : (q : ℕ) (a : Agreement) (rest : List ℕ) → length rest ≤ length (writing q a rest)
  longer q over rest = omega arith
  longer q (pay f t a k) rest = let e = length_rates q a.per (writing q k rest) in let r = longer q k rest in omega arith
  longer q (fork s n k l) rest = let r = longer q k (writing q l rest) in let u = longer q l rest in omega arith
  longer q (await acts d k) rest = let r = longer_acts q acts (writing q k rest) in let u = longer q k rest in omega arith

  pub longer_acts : (q : ℕ) (acts : Acts) (rest : List ℕ) → length rest ≤ length (writing_acts q acts rest)
  longer_acts q none rest = omega arith
  longer_acts q (deposit w acc a k more) rest =
      let e = length_rates q a.per (writing q k (writing_acts q more rest)) in
      let r = longer q k (writing_acts q more rest) in
      let u = longer_acts q more rest in
      omega arith
  longer_acts q (choose w s lo hi k more) rest =
      let r = longer q k (writing_acts q more rest) in
      let u = longer_acts q more rest in
      omega arith
