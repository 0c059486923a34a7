-- A form that stands for one amount less another: what it comes to, and how it grows.
use Rattle.std.proofs.Common.{◌≡◌, ℕ, zero, suc, ◌+◌, ◌*◌, ◌≤◌, List, [], ◌∷◌, length, get_or, drop, ℤ, pos, ◌+ℤ◌, ◌-ℤ◌, ◌*ℤ◌, sym, refl, ap, ◌∙◌, ⊎_elim, arith}
use borrow.Author.Differences.{up, down}
use Rattle.std.proofs.lemmas.List.{get_or-drop, get_or_past}
use Rattle.std.proofs.lemmas.Int.{ints}
use Rattle.std.proofs.lemmas.Bool.{cases_lt}
use Rattle.amount.specs.Amount.{Amount, dot, worth}
use Rattle.amount.specs.Form.{dotℤ, value, each, increased, decreased}
use Rattle.amount.specs.Less.{Less, sums, together}
use Rattle.amount.specs.declared.Form.{Form}
use Rattle.amount.proofs.Dots.{dot_nil}
use Rattle.amount.proofs.Places.{length-each, get_or-each}

-- coefficient by coefficient
abbrev pub Apart : List ℤ → List ℕ → List ℕ → Type 0
Apart cs xs ys = (k : ℕ) → get_or cs k (pos 0) ≡ pos (get_or xs k 0) -ℤ pos (get_or ys k 0)

dot_first : (xs : List ℕ) (v : ℕ) (vs : List ℕ) → dot xs (v ∷ vs) ≡ get_or xs 0 0 * v + dot (drop 1 xs) vs
unfolding dot
dot_first [] v vs = omega arith
dot_first (x ∷ xs) v vs = refl

dotℤ_nil : (cs : List ℤ) → dotℤ cs [] ≡ pos 0
unfolding dotℤ
dotℤ_nil [] = refl
dotℤ_nil (c ∷ cs) = refl

dotℤ_first : (cs : List ℤ) (v : ℕ) (vs : List ℕ) → dotℤ cs (v ∷ vs) ≡ get_or cs 0 (pos 0) *ℤ pos v +ℤ dotℤ (drop 1 cs) vs
unfolding dotℤ
dotℤ_first [] v vs = omega (arith, ints)
dotℤ_first (c ∷ cs) v vs = refl

apart_drop : (cs : List ℤ) (xs ys : List ℕ) → Apart cs xs ys → Apart (drop 1 cs) (drop 1 xs) (drop 1 ys)
apart_drop cs xs ys h k = rw (get_or-drop 1 cs k (pos 0), get_or-drop 1 xs k 0, get_or-drop 1 ys k 0) (h (1 + k))

one_apart : (a b v m n : ℕ) → (pos a -ℤ pos b) *ℤ pos v +ℤ (pos m -ℤ pos n) ≡ pos (a * v + m) -ℤ pos (b * v + n)
one_apart a b v m n = let z = pos a -ℤ pos b in let e : up z + b ≡ down z + a = omega (arith, ints) in omega (arith, ints, ap (λ (k : ℕ). k * v) e)

dot_apart : (cs : List ℤ) (xs ys vs : List ℕ) → Apart cs xs ys → dotℤ cs vs ≡ pos (dot xs vs) -ℤ pos (dot ys vs)
dot_apart cs xs ys [] h = rw (dotℤ_nil, dot_nil xs, dot_nil ys) refl
dot_apart cs xs ys (v ∷ vs) h =
    rw (dotℤ_first, dot_first xs, dot_first ys, h 0, dot_apart (drop 1 cs) (drop 1 xs) (drop 1 ys) vs (apart_drop cs xs ys h))
    (one_apart (get_or xs 0 0) (get_or ys 0 0) v (dot (drop 1 xs) vs) (dot (drop 1 ys) vs))

pub value_less : (x y : Amount) (f : Form) (vs : List ℕ) → Less x y f → value f vs ≡ pos (worth x vs) -ℤ pos (worth y vs)
value_less x y f vs l = let e = dot_apart f.per x.per y.per vs l.per in let b = l.base in omega (arith, ints)

get_or-sums : (cs es : List ℕ) (k : ℕ) → get_or (sums cs es) k 0 ≡ get_or cs k 0 + get_or es k 0
unfolding sums
get_or-sums [] es k = omega arith
get_or-sums (c ∷ cs) [] k = omega arith
get_or-sums (c ∷ cs) (e ∷ es) zero = refl
get_or-sums (c ∷ cs) (e ∷ es) (suc k) = get_or-sums cs es k

length-sums : (cs es : List ℕ) → length es ≡ length cs → length (sums cs es) ≡ length cs
unfolding sums
length-sums [] es h = h
length-sums (c ∷ cs) [] h = refl
length-sums (c ∷ cs) (e ∷ es) h = ap suc (length-sums cs es (omega arith))

module _ (x y a : Amount) (f : Form) (l : Less x y f) (fits : length a.per ≡ length f.per) where
  past : (op : ℤ → ℤ → ℤ) (k : ℕ) → length f.per ≤ k → get_or (each op f.per a.per) k (pos 0) ≡ get_or f.per k (pos 0)
  past op k le = get_or_past (each op f.per a.per) k (pos 0) (omega (arith, length-each op f.per a.per)) ∙ sym (get_or_past f.per k (pos 0) le)

  grown : (op : ℤ → ℤ → ℤ) (k : ℕ) → op (get_or f.per k (pos 0)) (pos 0) ≡ get_or f.per k (pos 0) → get_or (each op f.per a.per) k (pos 0) ≡ op (get_or f.per k (pos 0)) (pos (get_or a.per k 0))
  grown op k same =
      ⊎_elim (get_or-each op f.per a.per k)
      (λ le. past op k le ∙ sym same ∙ ap (λ n. op (get_or f.per k (pos 0)) (pos n)) (sym (get_or_past a.per k 0 (omega arith))))
      (cases_lt k (length f.per))

  pub less_increased : Less (together x a) y (increased f a)
  less_increased = record {
    base = let b = l.base in omega (arith, ints);
    per = λ k. let e = l.per k in rw (grown ◌+ℤ◌ k (omega (arith, ints)), get_or-sums x.per a.per k) (omega (arith, ints));
    long = length-sums x.per a.per (fits ∙ sym l.long) ∙ l.long ∙ sym (length-each ◌+ℤ◌ f.per a.per);
  }

  pub less_decreased : Less x (together y a) (decreased f a)
  less_decreased = record {
    base = let b = l.base in omega (arith, ints);
    per = λ k. let e = l.per k in rw (grown ◌-ℤ◌ k (omega (arith, ints)), get_or-sums y.per a.per k) (omega (arith, ints));
    long = l.long ∙ sym (length-each ◌-ℤ◌ f.per a.per);
  }
