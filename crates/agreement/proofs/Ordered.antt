-- The walk finds its faults in the order of their places, and at one place in that of their numbers.
use Rattle.std.proofs.Common.{ℕ, zero, suc, ◌+◌, ◌-◌, ◌*◌, ◌<◌, ◌≤◌, Bool, true, false, cond, not, ◌&&◌, eqb, ltb, leb, List, [], ◌∷◌, length, get_or, set, replicate, arith}
use Rattle.agreement.specs.Bytes.{byte, half, word}
use Rattle.agreement.specs.Checks.{Key, Walk, act, acts, amount, among, branch, check, choice, cut, deposit, follow, fresh, high, party, payment, rate, rates, slot, surplus, thing, unlike, value, waiting, walk, wrong}
use Rattle.agreement.specs.Fault.{number}
use Rattle.agreement.specs.declared.Fault.{Fault}
use Rattle.agreement.specs.declared.Fault.TheVariants.{Parties, Slots, Kind, TooLarge, Party, Slot, Cents, Value, ActCount, SetTwice, Alike, Surplus}
use Rattle.agreement.specs.declared.Wrong.{Wrong}

-- with more bytes left, or as many and a smaller number, a fault comes sooner
abbrev pub weight : Wrong → ℕ
weight w = w.left * 18 + (18 - number w.fault)

-- each no sooner than the one before it, and the first of at most this weight; the walk's numbers are 1 to 13
pub record Sooner (m : ℕ) (w : Wrong) : Type 0 where
  pub weighs : weight w ≤ m
  pub some : 1 ≤ number w.fault
  pub few : number w.fault ≤ 13

abbrev pub Down : ℕ → List Wrong → Type 0
Down m [] = Unit {0}
Down m (w ∷ ws) = Sooner m w × Down (weight w) ws

-- all of them where at most n bytes are left
abbrev pub Within : ℕ → List Wrong → Type 0
Within n ws = Down (n * 18 + 17) ws

pub down_more : (m n : ℕ) (ws : List Wrong) → m ≤ n → Down m ws → Down n ws
down_more m n [] le d = tt
down_more m n (w ∷ ws) le d =
    let e = d.0.weighs in (record { weighs = omega arith; some = d.0.some; few = d.0.few }, d.1)

-- a fault, and what comes behind it
wrong_down : (f : Fault) (n r : ℕ) (ws : List Wrong) → 1 ≤ number f → number f ≤ 13 → r < n → Within r ws → Within n (wrong f n ∷ ws)
wrong_down f n r ws some few le d =
    (record { weighs = omega arith; some = some; few = few }, down_more _ _ ws (omega arith) d)

last_down : (f : Fault) (n : ℕ) → 1 ≤ number f → number f ≤ 13 → Within n (wrong f n ∷ [])
last_down f n some few = (record { weighs = omega arith; some = some; few = few }, tt)

check_down : (t : Bool) (f : Fault) (n r : ℕ) (ws : List Wrong) → 1 ≤ number f → number f ≤ 13 → r < n → Within r ws → Within n (check t f n ws)
check_down true f n r ws some few le d = down_more _ _ ws (omega arith) d
check_down false f n r ws some few le d = wrong_down f n r ws some few le d

cond_down : (t : Bool) (m : ℕ) (xs ys : List Wrong) → Down m xs → Down m ys → Down m (cond t xs ys)
cond_down true m xs ys d e = d
cond_down false m xs ys d e = e

cut_down : (n : ℕ) → Within n cut
cut_down n = (record { weighs = omega arith; some = omega arith; few = omega arith }, tt)

byte_down : (bs : List ℕ) (n : ℕ) (k : ℕ → List ℕ → List Wrong) → ((b : ℕ) (r : List ℕ) → length r < length bs → Within n (k b r)) → Within n (byte bs cut k)
byte_down [] n k d = cut_down n
byte_down (b ∷ bs) n k d = cond_down (ltb b 256) _ (k b bs) cut (d b bs (omega arith)) (cut_down n)

half_down : (bs : List ℕ) (n : ℕ) (k : ℕ → List ℕ → List Wrong) → ((v : ℕ) (r : List ℕ) → length r < length bs → Within n (k v r)) → Within n (half bs cut k)
half_down bs n k d =
    byte_down bs n _ (λ a r lt. byte_down r n _ (λ b s less. d (a + b * 256) s (omega arith)))

word_down : (bs : List ℕ) (n : ℕ) (k : ℕ → List ℕ → List Wrong) → ((v : ℕ) (r : List ℕ) → length r < length bs → Within n (k v r)) → Within n (word bs cut k)
word_down bs n k d =
    byte_down bs n _ (λ a r h. byte_down r n _ (λ b s i. byte_down s n _ (λ c u j. byte_down u n _ (λ e v l. d (a + b * 256 + c * 65536 + e * 16777216) v (omega arith)))))

-- what comes behind a step finds its faults behind it
abbrev Behind : List ℕ → (List ℕ → List Wrong) → Type 0
Behind bs k = (r : List ℕ) → length r < length bs → Within (length r) (k r)

party_down : (p : ℕ) (bs : List ℕ) (k : ℕ → List ℕ → List Wrong) → ((b : ℕ) → Behind bs (k b)) → Within (length bs) (party p bs k)
party_down p bs k d = byte_down bs (length bs) _ (λ b r lt. check_down (ltb b p) Party (length bs) (length r) (k b r) (omega arith) (omega arith) lt (d b r lt))

slot_down : (q : ℕ) (bs : List ℕ) (k : ℕ → List ℕ → List Wrong) → ((b : ℕ) → Behind bs (k b)) → Within (length bs) (slot q bs k)
slot_down q bs k d = byte_down bs (length bs) _ (λ b r lt. check_down (ltb b q) Slot (length bs) (length r) (k b r) (omega arith) (omega arith) lt (d b r lt))

fresh_down : (q : ℕ) (us : List Bool) (bs : List ℕ) (k : ℕ → List ℕ → List Wrong) → ((b : ℕ) → Behind bs (k b)) → Within (length bs) (fresh q us bs k)
fresh_down q us bs k d =
    byte_down bs (length bs) _ (λ b r lt.
    cond_down (ltb b q) _ _ _
    (check_down (not (get_or us b false)) SetTwice (length bs) (length r) (k b r) (omega arith) (omega arith) lt (d b r lt))
    (wrong_down Slot (length bs) (length r) (k b r) (omega arith) (omega arith) lt (d b r lt)))

rate_down : (bs : List ℕ) (k : List ℕ → List Wrong) → Behind bs k → Within (length bs) (rate bs k)
rate_down bs k d = half_down bs (length bs) _ (λ n r lt. check_down (leb n 1000) Cents (length bs) (length r) (k r) (omega arith) (omega arith) lt (d r lt))

rates_down : (q : ℕ) (bs : List ℕ) (k : List ℕ → List Wrong) → ((r : List ℕ) → length r ≤ length bs → Within (length r) (k r)) → Within (length bs) (rates q bs k)
rates_down zero bs k d = d bs (omega arith)
rates_down (suc q) bs k d = rate_down bs _ (λ r lt. rates_down q r k (λ s le. d s (omega arith)))

amount_down : (q : ℕ) (bs : List ℕ) (k : List ℕ → List Wrong) → Behind bs k → Within (length bs) (amount q bs k)
amount_down q bs k d =
    word_down bs (length bs) _ (λ n r lt.
    check_down (leb n 1000000000) Cents (length bs) (length r) (rates q r k) (omega arith) (omega arith) lt (rates_down q r k (λ s le. d s (omega arith))))

value_down : (bs : List ℕ) (k : ℕ → List ℕ → List Wrong) → ((b : ℕ) → Behind bs (k b)) → Within (length bs) (value bs k)
value_down bs k d = word_down bs (length bs) _ (λ n r lt. check_down (leb n 1000000) Value (length bs) (length r) (k n r) (omega arith) (omega arith) lt (d n r lt))

high_down : (low : ℕ) (bs : List ℕ) (k : List ℕ → List Wrong) → Behind bs k → Within (length bs) (high low bs k)
high_down low bs k d =
    word_down bs (length bs) _ (λ n r lt. check_down (leb n 1000000 && leb low n) Value (length bs) (length r) (k r) (omega arith) (omega arith) lt (d r lt))

payment_down : (p q : ℕ) (bs : List ℕ) (k : List ℕ → List Wrong) → Behind bs k → Within (length bs) (payment p q bs k)
payment_down p q bs k d = party_down p bs _ (λ f r lt. party_down p r _ (λ t s less. amount_down q s k (λ u l. d u (omega arith))))

branch_down : (q : ℕ) (bs : List ℕ) (k : List ℕ → List Wrong) → Behind bs k → Within (length bs) (branch q bs k)
branch_down q bs k d = slot_down q bs _ (λ s r lt. value_down r _ (λ n u less. d u (omega arith)))

waiting_down : (bs : List ℕ) (k : ℕ → List ℕ → List Wrong) → ((m : ℕ) → Behind bs (k m)) → Within (length bs) (waiting bs k)
waiting_down bs k d =
    half_down bs (length bs) _ (λ day r lt.
    down_more _ _ _ (omega arith)
    (byte_down r (length r) _ (λ m s less.
    check_down (leb 1 m && leb m 16) ActCount (length r) (length s) (k m s) (omega arith) (omega arith) less (d m s (omega arith)))))

deposit_down : (p q : ℕ) (bs : List ℕ) (k : ℕ → ℕ → List ℕ → List Wrong) → ((w x : ℕ) → Behind bs (k w x)) → Within (length bs) (deposit p q bs k)
deposit_down p q bs k d = party_down p bs _ (λ w r lt. party_down p r _ (λ x s less. amount_down q s (k w x) (λ u l. d w x u (omega arith))))

choice_down : (p q : ℕ) (us : List Bool) (bs : List ℕ) (k : ℕ → ℕ → List ℕ → List Wrong) → ((w x : ℕ) → Behind bs (k w x)) → Within (length bs) (choice p q us bs k)
choice_down p q us bs k d =
    party_down p bs _ (λ w r a. fresh_down q us r _ (λ x s b. value_down s _ (λ low u c. high_down low u (k w x) (λ v e. d w x v (omega arith)))))

unlike_down : (seen : List Key) (bs : List ℕ) (r : ℕ) (ws : List Wrong) → r < length bs → Within r ws → Within (length bs) (unlike seen bs ws)
unlike_down seen [] r ws lt d = absurd (omega arith)
unlike_down seen (b ∷ []) r ws lt d = down_more _ _ ws (omega arith) d
unlike_down seen (b ∷ w ∷ []) r ws lt d = down_more _ _ ws (omega arith) d
unlike_down seen (b ∷ w ∷ x ∷ bs) r ws lt d =
    check_down (not (among b w x seen)) Alike (length (b ∷ w ∷ x ∷ bs)) r ws (omega arith) (omega arith) lt d

act_down : (p q : ℕ) (us : List Bool) (seen : List Key) (bs : List ℕ) (k : List Bool → Key → List ℕ → List Wrong) → ((vs : List Bool) (x : Key) → Behind bs (k vs x)) →
    Within (length bs) (act p q us seen bs k)
act_down p q us seen bs k d =
    byte_down bs (length bs) _ (λ b r lt.
    cond_down (eqb b 1) _ _ _
    (unlike_down seen bs (length r) _ lt (deposit_down p q r _ (λ w x s less. d us (record { kind = 1; who = w; what = x }) s (omega arith))))
    (cond_down (eqb b 2) _ _ _
    (unlike_down seen bs (length r) _ lt (choice_down p q us r _ (λ w x s less. d (set us x true) (record { kind = 2; who = w; what = x }) s (omega arith))))
    (last_down Kind (length bs) (omega arith) (omega arith))))

-- how a continuation is walked through
abbrev Walks : Walk → Type 0
Walks next = (us : List Bool) (t : ℕ) (bs : List ℕ) (k : ℕ → List ℕ → List Wrong) → ((u : ℕ) → Behind bs (k u)) → Within (length bs) (next us t bs k)

acts_down : (p q : ℕ) (next : Walk) (us : List Bool) (m : ℕ) (seen : List Key) (t : ℕ) (bs : List ℕ) (k : ℕ → List ℕ → List Wrong) → Walks next →
    ((u : ℕ) (r : List ℕ) → length r ≤ length bs → Within (length r) (k u r)) → Within (length bs) (acts p q next us m seen t bs k)
acts_down p q next us zero seen t bs k walks d = d t bs (omega arith)
acts_down p q next us (suc m) seen t bs k walks d =
    act_down p q us seen bs _ (λ vs x r lt.
    walks vs t r _ (λ u s less. acts_down p q next us m (x ∷ seen) u s k walks (λ v w le. d v w (omega arith))))

follow_down : (p q : ℕ) (next : Walk) (us : List Bool) (kind t : ℕ) (bs : List ℕ) (k : ℕ → List ℕ → List Wrong) → Walks next →
    ((u : ℕ) (r : List ℕ) → length r ≤ length bs → Within (length r) (k u r)) → Within (length bs) (follow p q next us kind t bs k)
follow_down p q next us kind t bs k walks d =
    cond_down (eqb kind 0) _ _ _ (d t bs (omega arith))
    (cond_down (eqb kind 1) _ _ _ (payment_down p q bs _ (λ r lt. walks us t r k (λ u s less. d u s (omega arith))))
    (cond_down (eqb kind 2) _ _ _
    (branch_down q bs _ (λ r lt. walks us t r _ (λ u s less. walks us u s k (λ v w l. d v w (omega arith)))))
    (waiting_down bs _ (λ m r lt. acts_down p q next us m [] t r _ walks (λ u s le. walks us u s k (λ v w l. d v w (omega arith)))))))

thing_down : (p q : ℕ) (us : List Bool) (d t : ℕ) (bs : List ℕ) (n : ℕ) (k : ℕ → List ℕ → List Wrong) → ((u : ℕ) → Behind bs (k u)) →
    Within (length bs) (thing p q us d t bs n k)
thing_down p q us d t [] n k down = cut_down 0
thing_down p q us d t (b ∷ bs) zero k down = cut_down (length (b ∷ bs))
thing_down p q us d t (b ∷ bs) (suc n) k down =
    cond_down (ltb b 4) _ _ _
    (check_down (leb d 64 && ltb t 512) TooLarge (length (b ∷ bs)) (length bs) _ (omega arith) (omega arith) (omega arith)
    (follow_down p q _ us b (t + 1) bs k (λ vs u r g behind. thing_down p q vs (d + 1) u r n g behind) (λ u r le. down u r (omega arith))))
    (last_down Kind (length (b ∷ bs)) (omega arith) (omega arith))

surplus_down : (t : ℕ) (bs : List ℕ) → Within (length bs) (surplus t bs)
surplus_down t [] = tt
surplus_down t (b ∷ bs) = last_down Surplus (length (b ∷ bs)) (omega arith) (omega arith)

pub walk_down : (bs : List ℕ) → Within (length bs) (walk bs)
walk_down bs =
    byte_down bs (length bs) _ (λ p r lt.
    check_down (leb 1 p && leb p 8) Parties (length bs) (length r) _ (omega arith) (omega arith) lt
    (byte_down r (length r) _ (λ q s less.
    check_down (leb q 8) Slots (length r) (length s) _ (omega arith) (omega arith) less
    (thing_down p q (replicate 8 false) 1 0 s (length s) surplus (λ u v l. surplus_down u v)))))
