-- The length and the entries of the lists that are defined place by place.
use Rattle.std.proofs.Common.{◌≡◌, ℕ, zero, suc, ◌<◌, Bool, true, false, cond, List, [], ◌∷◌, length, get_or, ℤ, pos, refl, ap, arith}
use Rattle.std.specs.List.{zip}
use Rattle.std.proofs.lemmas.List.{get_or-map}
use Rattle.std.proofs.lemmas.Slice.Zip.{length-zip, get_or-zip}
use Rattle.std.proofs.Math.ListN.{length-map}
use Rattle.amount.specs.Known.{mask}
use Rattle.amount.specs.Form.{each, lowest, low_or_high}

pub length-mask : (bs : List Bool) (cs : List ℕ) → length (mask bs cs) ≡ length bs
unfolding mask
length-mask [] cs = refl
length-mask (b ∷ bs) [] = ap suc (length-mask bs [])
length-mask (b ∷ bs) (c ∷ cs) = ap suc (length-mask bs cs)

pub get_or-mask : (bs : List Bool) (cs : List ℕ) (k : ℕ) → get_or (mask bs cs) k 0 ≡ cond (get_or bs k false) (get_or cs k 0) 0
unfolding mask
get_or-mask [] cs k = refl
get_or-mask (true ∷ bs) [] zero = refl
get_or-mask (false ∷ bs) [] zero = refl
get_or-mask (b ∷ bs) [] (suc k) = get_or-mask bs [] k
get_or-mask (b ∷ bs) (c ∷ cs) zero = refl
get_or-mask (b ∷ bs) (c ∷ cs) (suc k) = get_or-mask bs cs k

module _ (op : ℤ → ℤ → ℤ) where
  pub length-each : (cs : List ℤ) (es : List ℕ) → length (each op cs es) ≡ length cs
  unfolding each
  length-each [] es = refl
  length-each (c ∷ cs) [] = ap suc (length-each cs [])
  length-each (c ∷ cs) (e ∷ es) = ap suc (length-each cs es)

  pub get_or-each : (cs : List ℤ) (es : List ℕ) (k : ℕ) → k < length cs → get_or (each op cs es) k (pos 0) ≡ op (get_or cs k (pos 0)) (pos (get_or es k 0))
  unfolding each
  get_or-each [] es k h = absurd (omega arith)
  get_or-each (c ∷ cs) [] zero h = refl
  get_or-each (c ∷ cs) [] (suc k) h = get_or-each cs [] k (omega arith)
  get_or-each (c ∷ cs) (e ∷ es) zero h = refl
  get_or-each (c ∷ cs) (e ∷ es) (suc k) h = get_or-each cs es k (omega arith)

pub length-lowest : (cs : List ℤ) (lo hi : List ℕ) → length lo ≡ length cs → length hi ≡ length cs → length (lowest cs lo hi) ≡ length cs
unfolding lowest
length-lowest cs lo hi p q = simp (length-map, length-zip) (omega arith)

pub get_or-lowest :
    (cs : List ℤ) (lo hi : List ℕ) (k : ℕ) → length lo ≡ length cs → length hi ≡ length cs → k < length cs →
    get_or (lowest cs lo hi) k 0 ≡ low_or_high (get_or cs k (pos 0)) (get_or lo k 0) (get_or hi k 0)
unfolding lowest
get_or-lowest cs lo hi k p q lt =
    let pairs = length-zip lo hi in
    let places = length-zip cs (zip lo hi) in
    rw (get_or-map {Y = ℕ} _ (zip cs (zip lo hi)) k (pos 0, (0, 0)) 0 (omega arith), get_or-zip cs (zip lo hi) k (pos 0, (0, 0)) lt (omega arith), get_or-zip lo hi k (0, 0) (omega arith) (omega arith))
