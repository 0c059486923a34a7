-- The writing of a well-made agreement within the limits fails no check, is read, and means that agreement.
use Rattle.std.proofs.Common.{◌≡◌, ℕ, ◌≤◌, false, List, [], ◌++◌, length, take, drop, replicate, Ok, sym, refl, ap, ◌∙◌, arith, lt-ltb, le-leb}
use lib.ListN.{length-replicate}
use Rattle.std.proofs.lemmas.List.{take_at, take-replicate}
use Rattle.agreement.specs.Agreement.{Agreement}
use Rattle.agreement.specs.Checks.{walk, surplus}
use Rattle.agreement.specs.Limits.{Allowed}
use Rattle.agreement.specs.Meaning.{Spot, meant, meaning}
use Rattle.agreement.specs.Reading.{Gives, failing, least, verdict, reading, Taken}
use Rattle.agreement.specs.Writing.{writing, written}
use Rattle.agreement.proofs.Meant.{meant_written}
use Rattle.agreement.proofs.Sizes.{length_written}
use Rattle.agreement.proofs.Written.{thing_written}

-- where reading begins
abbrev pub start : ℕ → ℕ → List ℕ → Spot
start p q bs = record { parties = p; slots = q; depth = 64; bytes = drop 2 bs }

module _ (bs : List ℕ) (p q : ℕ) (a : Agreement) (taken : Taken bs p q a) where
  passes : walk (written p q a) ≡ []
  passes =
      rw (lt-ltb p 256 (omega arith), le-leb 1 p taken.allowed.some_party, le-leb p 8 taken.allowed.few_parties, lt-ltb q 256 (omega arith), le-leb q 8 taken.allowed.few_slots)
      (thing_written p q taken.allowed.few_parties taken.allowed.few_slots (replicate 8 false) 1 0 a (length (writing q a [])) [] surplus refl
      (rw (take-replicate q 8 false taken.allowed.few_slots) taken.allowed.made) taken.allowed.small (omega arith) (omega arith) (omega arith))

  pub walk_taken : walk bs ≡ []
  walk_taken = ap walk taken.written ∙ passes

  pub length_taken : length bs ≤ 12267
  length_taken = omega (arith, ap length taken.written, length_written q a [] taken.allowed.few_slots)

  pub failing_taken : failing bs ≡ []
  failing_taken = rw (walk_taken, le-leb (length bs) 16384 (omega (arith, length_taken)))

  pub reading_taken : reading bs ≡ Ok (start p q bs)
  reading_taken = ap (λ rs. verdict bs (least rs)) failing_taken ∙ rw taken.written

  meant_taken : meant p q 64 (drop 2 bs) ≡ record { what = a; rest = [] }
  meant_taken =
      rw taken.written
      (meant_written p q taken.allowed.few_parties taken.allowed.few_slots (replicate q false) a 64 [] (length-replicate q false) taken.allowed.made taken.allowed.small taken.allowed.shallow)

  pub meaning_taken : meaning (start p q bs) ≡ a
  meaning_taken = ap (λ m. m.what) meant_taken

-- so it is read where it stands at the front of memory
pub gives_written : (p q : ℕ) (a : Agreement) (more : List ℕ) (n : ℕ) → n ≡ length (written p q a) → Allowed p q a →
    Gives p q a (reading (take n (written p q a ++ more)))
gives_written p q a more n e allowed =
    let taken : Taken (written p q a) p q a = record { allowed = allowed; written = refl } in
    rw (take_at (written p q a) more n (sym e), reading_taken (written p q a) p q a taken) (refl, refl, meaning_taken (written p q a) p q a taken)
