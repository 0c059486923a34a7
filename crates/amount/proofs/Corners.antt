-- The corner of a box at which a form is least.
use Rattle.std.proofs.Common.{◌≡◌, ℕ, zero, suc, ◌-◌, ◌≤◌, List, [], ◌∷◌, length, ℤ, pos, negsuc, ◌-ℤ◌, ◌*ℤ◌, ◌≤ℤ◌, sym, refl, ap, ◌∙◌, mul-le-mul_left, arith}
use Rattle.std.proofs.lemmas.Int.{ints}
use Rattle.amount.specs.Amount.{Amount, worth}
use Rattle.amount.specs.Corner.{corner, Inside, none, one, CornerLaw}
use Rattle.amount.specs.Form.{dotℤ, value, lowest, low_or_high}
use Rattle.amount.specs.Least.{lowest_in, Exact}
use Rattle.amount.specs.Less.{Less}
use Rattle.amount.specs.declared.Bounds.{Bounds}
use Rattle.amount.specs.declared.Form.{Form}
use Rattle.amount.proofs.Lessened.{Apart, value_less}

one_least : (c : ℤ) (l v h : ℕ) → l ≤ v → v ≤ h → (c *ℤ pos (low_or_high c l h)) ≤ℤ (c *ℤ pos v)
one_least (pos c) l v h p q = omega (arith, ints, mul-le-mul_left c p)
one_least (negsuc c) l v h p q = omega (arith, ints, mul-le-mul_left (suc c) q)

dot_least : (cs : List ℤ) {lo vs hi : List ℕ} → Inside lo vs hi → dotℤ cs (lowest cs lo hi) ≤ℤ dotℤ cs vs
unfolding dotℤ lowest
dot_least [] i = omega (arith, ints)
dot_least (c ∷ cs) none = omega (arith, ints)
dot_least (c ∷ cs) (one {l} {v} {h} p q i) = let first = one_least c l v h p q in let rest = dot_least cs i in omega (arith, ints)

none_less : (f : Form) (lo vs hi : List ℕ) → Inside lo vs hi → value f (lowest f.per lo hi) ≤ℤ value f vs
none_less f lo vs hi i = let d = dot_least f.per i in omega (arith, ints)

pub corner_inside : (cs : List ℤ) {lo vs hi : List ℕ} → length cs ≡ length lo → Inside lo vs hi → Inside lo (lowest cs lo hi) hi
unfolding lowest
corner_inside [] e none = none
corner_inside [] e (one p q i) = absurd (omega arith)
corner_inside (c ∷ cs) e none = absurd (omega arith)
corner_inside (pos c ∷ cs) e (one p q i) = one (omega arith) (omega arith) (corner_inside cs (omega arith) i)
corner_inside (negsuc c ∷ cs) e (one p q i) = one (omega arith) (omega arith) (corner_inside cs (omega arith) i)

corner_first :
    (z : ℤ) (c e l h : ℕ) (cs es lo hi : List ℕ) → z ≡ pos c -ℤ pos e →
    low_or_high z l h ∷ corner cs es lo hi ≡ corner (c ∷ cs) (e ∷ es) (l ∷ lo) (h ∷ hi)
unfolding corner
corner_first (pos n) c e l h cs es lo hi p = let q : e - c ≡ 0 = omega (arith, ints) in rw q
corner_first (negsuc n) c e l h cs es lo hi p = let q : e - c ≡ suc n = omega (arith, ints) in rw q

lowest-corner :
    (cs : List ℤ) (xs ys lo hi : List ℕ) → Apart cs xs ys → length xs ≡ length cs → length lo ≤ length cs →
    lowest cs lo hi ≡ corner xs ys lo hi
unfolding lowest corner
lowest-corner [] [] ys [] hi a e h = refl
lowest-corner [] [] ys (l ∷ lo) hi a e h = absurd (omega arith)
lowest-corner [] (x ∷ xs) ys lo hi a e h = absurd (omega arith)
lowest-corner (c ∷ cs) [] ys lo hi a e h = absurd (omega arith)
lowest-corner (c ∷ cs) (x ∷ xs) ys [] hi a e h = refl
lowest-corner (c ∷ cs) (x ∷ xs) ys (l ∷ lo) [] a e h = refl
lowest-corner (pos c ∷ cs) (x ∷ xs) [] (l ∷ lo) (t ∷ hi) a e h = ap (λ vs. l ∷ vs) (lowest-corner cs xs [] lo hi (λ k. a (suc k)) (omega arith) (omega arith))
lowest-corner (negsuc c ∷ cs) (x ∷ xs) [] (l ∷ lo) (t ∷ hi) a e h = absurd (omega (arith, ints, a 0))
lowest-corner (c ∷ cs) (x ∷ xs) (y ∷ ys) (l ∷ lo) (t ∷ hi) a e h =
    ap (λ vs. low_or_high c l t ∷ vs) (lowest-corner cs xs ys lo hi (λ k. a (suc k)) (omega arith) (omega arith))
    ∙ corner_first c x y l t xs ys lo hi (a 0)

module _ (x y : Amount) (f : Form) (lo hi : List ℕ) (less : Less x y f) (long : length lo ≤ length f.per) where
  pub corner_less : lowest f.per lo hi ≡ corner x.per y.per lo hi
  corner_less = lowest-corner f.per x.per y.per lo hi less.per less.long long

  least_less :
      value f (lowest f.per lo hi) ≡
      pos (worth x (corner x.per y.per lo hi)) -ℤ pos (worth y (corner x.per y.per lo hi))
  least_less = value_less x y f (lowest f.per lo hi) less ∙ ap (λ vs. pos (worth x vs) -ℤ pos (worth y vs)) corner_less

-- what comes to the value at the lowest corner is the least of what the form stands for
pub exact_least : (f : Form) (b : Bounds) (r : ℤ) → length b.low ≤ length f.per → r ≡ value f (lowest_in f b) → Exact f b r
exact_least f b r long e x y less = record {
  reached = e ∙ least_less x y f b.low b.high less long;
  none_less = λ vs i. rw (e, ← value_less x y f vs less) (none_less f b.low vs b.high i);
}

difference : List ℕ → List ℕ → List ℤ
difference [] ys = []
difference (x ∷ xs) [] = (pos x -ℤ pos 0) ∷ difference xs []
difference (x ∷ xs) (y ∷ ys) = (pos x -ℤ pos y) ∷ difference xs ys

difference_apart : (xs ys : List ℕ) → length ys ≡ length xs → Apart (difference xs ys) xs ys
unfolding difference
difference_apart [] [] e k = refl
difference_apart [] (y ∷ ys) e k = absurd (omega arith)
difference_apart (x ∷ xs) [] e k = absurd (omega arith)
difference_apart (x ∷ xs) (y ∷ ys) e zero = refl
difference_apart (x ∷ xs) (y ∷ ys) e (suc k) = difference_apart xs ys (omega arith) k

length_difference : (xs ys : List ℕ) → length xs ≡ length (difference xs ys)
unfolding difference
length_difference [] ys = refl
length_difference (x ∷ xs) [] = ap suc (length_difference xs [])
length_difference (x ∷ xs) (y ∷ ys) = ap suc (length_difference xs ys)

form_of : Amount → Amount → Form
form_of x y = record { base = pos x.base -ℤ pos y.base; per = difference x.per y.per }

form_of_less : (x y : Amount) → length y.per ≡ length x.per → Less x y (form_of x y)
unfolding form_of
form_of_less x y e = record { base = refl; per = difference_apart x.per y.per e; long = length_difference x.per y.per }

pub corner_law : CornerLaw
unfolding CornerLaw
corner_law x y lo hi ex ey h vs i =
    let f = form_of x y in
    let less = form_of_less x y (ey ∙ sym ex) in
    let here = value_less x y f vs less in
    let there = least_less x y f lo hi less (omega (arith, less.long)) in
    let least = none_less f lo vs hi i in
    omega (arith, ints)
