-- Steps of the walk: through the acts of a waiting, and through things.
use Rattle.std.proofs.Common.{◌≡◌, ℕ, zero, suc, ◌+◌, ◌-◌, ◌<◌, ◌≤◌, Bool, List, [], ◌∷◌, length, Some, ap, ◌∙◌, lit<, arith}
use Rattle.std.proofs.lemmas.Bool.{le-leb, lt-ltb}
use Rattle.agreement.specs.Checks.{Key, act, acts, follow, thing, walker, wrong}
use Rattle.agreement.specs.Kinds.{thing_code}
use Rattle.agreement.specs.Steps.{Acted, Keeps, first}
use Rattle.agreement.specs.declared.Wrong.{Wrong}
use Rattle.agreement.specs.declared.kinds.ThingKind.{ThingKind}
use Rattle.agreement.specs.declared.kinds.ThingKind.TheVariants.{Over, Pay, Fork, Wait}
use Rattle.agreement.specs.declared.seen.Seen.{Seen}

-- the walk through m acts is the walk through those behind the first i
pub record ActsCome (p q : ℕ) (us : List Bool) (d m t : ℕ) (bs : List ℕ) (i : ℕ) (seen : Seen) (u : ℕ) (rest : List ℕ) : Type 0 where
  pub keys : List Key
  pub kept : Keeps seen keys
  pub shorter : length rest ≤ length bs
  pub walks :
      (n : ℕ) → length bs ≤ n → (k : ℕ → List ℕ → List Wrong) →
      acts p q (walker p q d n) us m [] t bs k ≡ acts p q (walker p q d n) us (m - i) keys u rest k

module _ {p q : ℕ} {us : List Bool} {d m t : ℕ} {bs : List ℕ} {i : ℕ} {seen : Seen} {u : ℕ} {rest : List ℕ} (came : ActsCome p q us d m t bs i seen u rest)
    (some : i < m) where
  -- behind the head of the next act
  then : ℕ → (ℕ → List ℕ → List Wrong) → List Bool → Key → List ℕ → List Wrong
  then n k vs x r = thing p q vs d u r n (λ t₁ s. acts p q (walker p q d n) us (m - (i + 1)) (x ∷ came.keys) t₁ s k)

  act_next : (n : ℕ) → length bs ≤ n → (k : ℕ → List ℕ → List Wrong) → acts p q (walker p q d n) us m [] t bs k ≡ act p q us came.keys rest (then n k)
  unfolding then
  act_next n h k = let e : m - i ≡ suc (m - (i + 1)) = omega arith in rw (came.walks n h k, e)

  -- the head of the next act is wrong
  pub act_wrong :
      {w : Wrong} → ((g : List Bool → Key → List ℕ → List Wrong) → first (act p q us came.keys rest g) ≡ Some w) →
      (n : ℕ) → length bs ≤ n → (k : ℕ → List ℕ → List Wrong) → first (acts p q (walker p q d n) us m [] t bs k) ≡ Some w
  act_wrong wrong n h k = rw (act_next n h k) (wrong (then n k))

  module _ {after : Seen} {vs : List Bool} {r : List ℕ} (acted : Acted p q us rest came.keys after vs r) (less : length r < length rest) where
    behind : (n : ℕ) → length bs ≤ n → length r ≤ n
    behind n h = omega (arith, came.shorter)

    thing_next :
        (n : ℕ) → length bs ≤ n → (k : ℕ → List ℕ → List Wrong) →
        acts p q (walker p q d n) us m [] t bs k
        ≡ thing p q vs d u r n (λ t₁ s. acts p q (walker p q d n) us (m - (i + 1)) (acted.key ∷ came.keys) t₁ s k)
    unfolding then
    thing_next n h k = act_next n h k ∙ acted.goes (then n k)

    -- what follows it is wrong
    pub thing_wrong :
        {w : Wrong} → ((n : ℕ) → length r ≤ n → (g : ℕ → List ℕ → List Wrong) → first (thing p q vs d u r n g) ≡ Some w) →
        (n : ℕ) → length bs ≤ n → (k : ℕ → List ℕ → List Wrong) → first (acts p q (walker p q d n) us m [] t bs k) ≡ Some w
    thing_wrong wrong n h k = rw (thing_next n h k) (wrong n (behind n h) _)

    pub acts_come_more :
        {v : ℕ} {s : List ℕ} → length s < length r →
        ((n : ℕ) → length r ≤ n → (g : ℕ → List ℕ → List Wrong) → thing p q vs d u r n g ≡ g v s) →
        ActsCome p q us d m t bs (i + 1) after v s
    acts_come_more short walks = record {
      keys = acted.key ∷ came.keys;
      kept = acted.kept;
      shorter = omega (arith, came.shorter);
      walks = λ n h k. thing_next n h k ∙ walks n (behind n h) _;
    }

few_kinds : (kind : ThingKind) → thing_code kind < 4
few_kinds Over = lit< tt
few_kinds Pay = lit< tt
few_kinds Fork = lit< tt
few_kinds Wait = lit< tt

-- behind the kind of a thing that is not too much
pub thing_follow : (p q : ℕ) (us : List Bool) (d t : ℕ) {bs : List ℕ} (kind : ThingKind) {byte : ℕ} {rest : List ℕ} (n : ℕ) (k : ℕ → List ℕ → List Wrong) →
    bs ≡ byte ∷ rest → thing_code kind ≡ byte → d ≤ 64 → t < 512 → length bs ≤ n →
    thing p q us d t bs n k ≡ follow p q (walker p q (d + 1) (n - 1)) us (thing_code kind) (t + 1) rest k
thing_follow p q us d t kind zero k front known shallow few enough = absurd (omega (arith, ap length front))
thing_follow p q us d t kind (suc n) k front known shallow few enough =
    let e : suc n - 1 ≡ n = omega arith in
    rw (e, front, ← known, lt-ltb (thing_code kind) 4 (few_kinds kind), le-leb d 64 shallow, lt-ltb t 512 few)

-- the walk from a thing on is that from a deeper one on
pub record Comes (p q : ℕ) (us : List Bool) (d t : ℕ) (bs : List ℕ) (e u : ℕ) (rest : List ℕ) : Type 0 where
  pub deeper : d ≤ e
  pub shorter : length rest + (e - d) ≤ length bs
  pub walks : (n : ℕ) (k : ℕ → List ℕ → List Wrong) → length bs ≤ n → thing p q us d t bs n k ≡ thing p q us e u rest (n - (e - d)) k

pub came_enough : {p q : ℕ} {us : List Bool} {d t : ℕ} {bs : List ℕ} {e u : ℕ} {rest : List ℕ} → Comes p q us d t bs e u rest →
    (n : ℕ) → length bs ≤ n → length rest ≤ n - (e - d)
came_enough c n h = let short = c.shorter in omega arith

-- one deeper
pub comes_more : {p q : ℕ} {us : List Bool} {d t : ℕ} {bs : List ℕ} {e u : ℕ} {rest : List ℕ} (v : ℕ) (more : List ℕ) →
    Comes p q us d t bs e u rest → length more < length rest →
    ((n : ℕ) (k : ℕ → List ℕ → List Wrong) → length rest ≤ n → thing p q us e u rest n k ≡ thing p q us (e + 1) v more (n - 1) k) →
    Comes p q us d t bs (e + 1) v more
comes_more {d = d} {bs = bs} {e = e} {rest = rest} v more c less step =
    let deep = c.deeper in
    let short = c.shorter in
    record {
      deeper = omega arith;
      shorter = omega arith;
      walks = λ n k h.
          let enough = came_enough c n h in
          let same : n - (e - d) - 1 ≡ n - (e + 1 - d) = omega arith in
          rw (c.walks n k h, step (n - (e - d)) k enough, same);
    }
