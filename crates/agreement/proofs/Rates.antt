-- Reading the cents per unit of one slot after the other.
use Rattle.std.proofs.Common.{◌≡◌, ℕ, zero, suc, ◌+◌, ◌-◌, ◌*◌, ◌/◌, ◌<◌, ◌≤◌, min, ltb, leb, List, [], ◌∷◌, length, get_or, take, drop, refl, ap, ◌∙◌, arith, length-drop, length-take}
use Rattle.std.proofs.lemmas.Bool.{cond_both}
use Rattle.std.proofs.lemmas.List.{drop-drop, get_or-drop, get_or-take}
use Rattle.std.specs.Simd.{first_chunks}
use Rattle.agreement.specs.Checks.{check, cut, rate, rates}
use Rattle.agreement.specs.declared.Fault.TheVariants.{Cents}
use Rattle.agreement.specs.declared.Wrong.{Wrong}
use Rattle.agreement.proofs.Fronts.{AreBytes, half_there}

drop_pair : (i : ℕ) (bs : List ℕ) → drop 2 (drop (2 * i) bs) ≡ drop (2 * (i + 1)) bs
drop_pair i bs = let e : 2 * i + 2 ≡ 2 * (i + 1) = omega arith in drop-drop 2 (2 * i) bs ∙ ap (λ n. drop n bs) e

-- the pair of bytes of one rate
pair_at : (m i : ℕ) (bs : List ℕ) → i < m → get_or (first_chunks 2 m bs) i [] ≡ take 2 (drop (2 * i) bs)
pair_at zero i bs h = absurd (omega arith)
pair_at (suc m) zero bs h = refl
pair_at (suc m) (suc i) bs h =
    let e : 2 + 2 * i ≡ 2 * suc i = omega arith in pair_at m i (drop 2 bs) (omega arith) ∙ ap (take 2) (drop-drop (2 * i) 2 bs ∙ ap (λ n. drop n bs) e)

rate_cut : (bs : List ℕ) (k : List ℕ → List Wrong) → length bs ≤ 1 → rate bs k ≡ cut
rate_cut [] k h = refl
rate_cut (a ∷ []) k h = cond_both (ltb a 256) cut cut (λ ws. ws ≡ cut) (λ e. refl) (λ e. refl)
rate_cut (a ∷ b ∷ bs) k h = absurd (omega arith)

-- after i of q slots
pub record Reads (q : ℕ) (bs : List ℕ) (i : ℕ) : Type 0 where
  pub on : (k : List ℕ → List Wrong) → rates q bs k ≡ rates (q - i) (drop (2 * i) bs) k

reads_next :
    (q i : ℕ) (bs : List ℕ) → Reads q bs i → i < q → (k : List ℕ → List Wrong) →
    rates q bs k ≡ rate (drop (2 * i) bs) (λ r. rates (q - (i + 1)) r k)
reads_next q i bs reads lt k = let e : q - i ≡ suc (q - (i + 1)) = omega arith in rw (reads.on k, e)

-- the pairs of bytes, those of them that are read, and the i-th of these
module _ (q i : ℕ) (bs : List ℕ) {j : ℕ} {pairs : List (List ℕ)} (is : pairs ≡ first_chunks 2 (length bs / 2) bs) (long : length pairs ≡ length bs / 2)
    (few : j ≡ min (length pairs) q) (reads : Reads q bs i) where
  pub reads_there :
      (n : ℕ) → i < length (take j pairs) → AreBytes bs → n ≡ get_or (get_or (take j pairs) i []) 0 0 + get_or (get_or (take j pairs) i []) 1 0 * 256 →
      (k : List ℕ → List Wrong) → rates q bs k ≡ check (leb n 1000) Cents (length bs - 2 * i) (rates (q - (i + 1)) (drop (2 * (i + 1)) bs) k)
  reads_there n lt fits number k =
      let long_j = length-take j pairs in
      let there : i < j = omega arith in
      let pair : get_or (take j pairs) i [] ≡ take 2 (drop (2 * i) bs) = get_or-take j pairs i [] there ∙ rw is (pair_at (length bs / 2) i bs (omega arith)) in
      let enough : 2 ≤ length (drop (2 * i) bs) = omega (arith, length-drop (2 * i) bs) in
      let behind_fits : AreBytes (drop (2 * i) bs) = λ m. rw (get_or-drop (2 * i) bs m 0) (fits (2 * i + m)) in
      reads_next q i bs reads (omega arith) k ∙
      rw (half_there (drop (2 * i) bs) _ _ enough behind_fits, drop_pair i bs, length-drop (2 * i) bs, number, pair)

  pub reads_cut : i ≤ length (take j pairs) → length (take j pairs) ≤ i → j < q → (k : List ℕ → List Wrong) → rates q bs k ≡ cut
  reads_cut most all less k =
      let long_j = length-take j pairs in
      reads_next q i bs reads (omega arith) k ∙ rate_cut (drop (2 * i) bs) _ (omega (arith, length-drop (2 * i) bs))
