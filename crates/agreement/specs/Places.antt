-- Places in an agreement's bytes: what stands there, and what it means. Assumes nothing: these are definitions.
use Rattle.std.specs.Prelude.{◌≡◌, ℕ, zero, suc, cond, ◌==◌, ◌+◌, ◌-◌, ◌<◌, ◌≤◌, List, [], length, Option}
use Rattle.std.specs.declared.option.Option.TheVariants as opt
use Rattle.amount.specs.Amount.{Amount}
use Rattle.amount.specs.Form as amounts
use Rattle.amount.specs.declared.Amount as code
use Rattle.agreement.specs.Agreement as value
use Rattle.agreement.specs.Meaning as bytes
use Rattle.agreement.specs.Meaning.{Look, ends, pays, forks, waits, look, Spot, meaning, behind, meant, acts_meant, look_act, no_more, puts, sets}
use Rattle.agreement.specs.declared.places.Place.{Place}
use Rattle.agreement.specs.declared.places.Acts.{Acts}
use Rattle.agreement.specs.declared.places.Step.{Step}
use Rattle.agreement.specs.declared.places.Step.TheVariants.{Over, Pay, Fork, Wait}
use Rattle.agreement.specs.declared.act.Act.{Act}
use Rattle.agreement.specs.declared.act.Act.TheVariants.{Deposit, Choice}

-- the place as a value
abbrev pub spot : Place → Spot
spot s = record { parties = s.header.parties; slots = s.header.slots; depth = s.depth; bytes = s.bytes.now }

-- at other bytes
abbrev pub moved : Spot → List ℕ → Spot
moved s bs = record { parties = s.parties; slots = s.slots; depth = s.depth; bytes = bs }

-- one deeper, at other bytes
abbrev pub deeper : Spot → List ℕ → Spot
deeper s bs = record { parties = s.parties; slots = s.slots; depth = s.depth - 1; bytes = bs }

-- acts that are still to come: where they stand, with the depth of their continuations, and how many they are
pub record Due : Type 0 where
  pub at : Spot
  pub left : ℕ

abbrev pub due : Acts → Due
due a = record { at = spot a.place; left = a.left }

-- one act less, at other bytes
abbrev pub fewer : Due → List ℕ → Due
fewer d bs = record { at = moved d.at bs; left = d.left - 1 }

-- what they mean
abbrev pub awaited : Due → bytes.Awaited
awaited d = acts_meant d.at.parties d.at.slots (meant d.at.parties d.at.slots d.at.depth) d.left d.at.bytes

-- the next of them
abbrev pub next_act : Due → bytes.Act
next_act d = look_act d.at.parties d.at.slots d.left d.at.bytes

-- what is behind where there is no next one: nothing, if one is left that can't be read
abbrev pub leftover : Due → List ℕ
leftover d = cond (d.left == 0) d.at.bytes []

-- what stands at a place that may go d deep
abbrev pub look_at : ℕ → ℕ → ℕ → List ℕ → Look
look_at p q zero bs = ends []
look_at p q (suc d) bs = look p q bs

abbrev pub seen : Spot → Look
seen s = look_at s.parties s.slots s.depth s.bytes

abbrev pub shown : Step → Look
shown (Over after) = ends after.bytes.now
shown (Pay from to amount rest) = pays from to (amounts.meaning amount) rest.bytes.now
shown (Fork slot bound below) = forks slot bound below.bytes.now
shown (Wait day acts) = waits day acts.left acts.place.bytes.now

-- what can't be read is over, with nothing behind it
abbrev pub shown_if : Option Step → Look
shown_if opt.None = ends []
shown_if (opt.Some r) = shown r

abbrev pub shown_act : Act Place → bytes.Act
shown_act (Deposit party account amount rest) = puts party account (amounts.meaning amount) rest.bytes.now
shown_act (Choice party slot low high rest) = sets party slot low high rest.bytes.now

-- the next act; where there is none, r is behind the acts
abbrev pub shown_next : List ℕ → Option (Act Place) → bytes.Act
shown_next r opt.None = no_more r
shown_next r (opt.Some act) = shown_act act

-- how it goes on after two parties and an amount
abbrev pub transferred : {R : Type 0} → Option (ℕ × ℕ × code.Amount × Place) → R → (ℕ → ℕ → Amount → List ℕ → R) → R
transferred opt.None bad k = bad
transferred (opt.Some x) bad k = k x.0 x.1 (amounts.meaning x.2) x.3.bytes.now

-- the part t of what stands at s: one deeper and shorter
pub record Inside (s t : Spot) : Type 0 where
  pub parties : t.parties ≡ s.parties
  pub slots : t.slots ≡ s.slots
  pub depth : t.depth + 1 ≡ s.depth
  pub shorter : length t.bytes < length s.bytes

-- the same, as deep
pub record Beside (s t : Spot) : Type 0 where
  pub parties : t.parties ≡ s.parties
  pub slots : t.slots ≡ s.slots
  pub depth : t.depth ≡ s.depth
  pub shorter : length t.bytes < length s.bytes

-- how the part of what stands at s is to s; what ends there leaves no more bytes than there were
abbrev pub Parts : (Spot → Spot → Type 0) → Spot → Step → Type 0
Parts R s (Over after) = length after.bytes.now ≤ length s.bytes
Parts R s (Pay from to amount rest) = R s (spot rest)
Parts R s (Fork slot bound below) = R s (spot below)
Parts R s (Wait day acts) = R s (due acts).at

abbrev pub Ranges : Spot → Step → Type 0
Ranges s (Over after) = Unit {0}
Ranges s (Pay from to amount rest) = (from < s.parties) × (to < s.parties)
Ranges s (Fork slot bound below) = slot < s.slots
Ranges s (Wait day acts) = Unit {0}

-- the place means the agreement a, with bs behind it
pub record Means (s : Spot) (a : value.Agreement) (bs : List ℕ) : Type 0 where
  pub what : meaning s ≡ a
  pub rest : behind s ≡ bs

abbrev pub Steps : Spot → Step → Type 0
Steps s (Over after) = Means s value.over after.bytes.now
Steps s (Pay from to amount rest) = Means s (value.pay from to (amounts.meaning amount) (meaning (spot rest))) (behind (spot rest))
Steps s (Fork slot bound below) =
    Means s (value.fork slot bound (meaning (spot below)) (meaning (deeper s (behind (spot below))))) (behind (deeper s (behind (spot below))))
Steps s (Wait day acts) =
    Means s
    (value.await (awaited (due acts)).what day (meaning (deeper s (awaited (due acts)).rest)))
    (behind (deeper s (awaited (due acts)).rest))

-- the same of an act that stands at s
abbrev pub ActParts : (Spot → Spot → Type 0) → Spot → Act Place → Type 0
ActParts R s (Deposit party account amount rest) = R s (spot rest)
ActParts R s (Choice party slot low high rest) = R s (spot rest)

abbrev pub ActRanges : Spot → Act Place → Type 0
ActRanges s (Deposit party account amount rest) = (party < s.parties) × (account < s.parties)
ActRanges s (Choice party slot low high rest) = (party < s.parties) × (slot < s.slots)

-- the acts mean a, with bs behind them
pub record Mean (d : Due) (a : value.Acts) (bs : List ℕ) : Type 0 where
  pub what : (awaited d).what ≡ a
  pub rest : (awaited d).rest ≡ bs

-- they mean what `first` makes of its continuation, at k, and of the acts behind that
abbrev pub Continues : Due → Spot → (value.Agreement → value.Acts → value.Acts) → Type 0
Continues d k first = Mean d (first (meaning k) (awaited (fewer d (behind k))).what) (awaited (fewer d (behind k))).rest

abbrev pub ActSteps : Due → Option (Act Place) → Type 0
ActSteps d opt.None = Mean d value.none (leftover d)
ActSteps d (opt.Some (Deposit party account amount rest)) = Continues d (spot rest) (value.deposit party account (amounts.meaning amount))
ActSteps d (opt.Some (Choice party slot low high rest)) = Continues d (spot rest) (value.choose party slot low high)
