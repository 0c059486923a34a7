-- What is written stands before what follows it, whatever that is.
use Rattle.std.proofs.Common.{◌≡◌, ℕ, zero, suc, ◌+◌, ◌-◌, ◌≤◌, min, List, [], ◌∷◌, ◌++◌, length, get_or, take, drop, refl, sym, ap, ◌∙◌, append_assoc, add-one, append-nil, length-append, length-drop, drop-drop, arith}
use Rattle.std.proofs.lemmas.Grind.{common_steps}
use Rattle.std.proofs.lemmas.List.{take_all, take_at, drop_all, drop_at}
use borrow.Rule.Slice.PartMut.{post_of}
use Rattle.amount.specs.Amount.{Amount}
use Rattle.agreement.specs.Agreement.{Agreement, over, pay, fork, await, Acts, none, deposit, choose}
use Rattle.agreement.specs.Bytes.{two, four}
use Rattle.agreement.specs.Writing.{rates, amount, count, writing, writing_acts}
use Rattle.agreement.proofs.Sizes.{length_rates}
use Rattle.drafts.specs.Size.{size, size_acts}
use Rattle.drafts.proofs.Parts.{drawn_out}
use Rattle.drafts.specs.declared.draft.Thing.TheFolds.{the_lemmas}

pub record Before (f : List ℕ → List ℕ) : Type 0 where
  pub before : (more : List ℕ) → f more ≡ f [] ++ more

-- one writing and then another
pub then : {f g : List ℕ → List ℕ} → Before f → Before g → Before (λ more. f (g more))
then {f} {g} p q = record {
  before = λ more.
      p.before (g more) ∙ ap (λ xs. f [] ++ xs) (q.before more) ∙ sym (append_assoc (f []) (g []) more) ∙ ap (λ xs. xs ++ more) (sym (p.before (g [])));
}

pub counts_before : (parties slots : ℕ) → Before (λ more. parties ∷ slots ∷ more)
counts_before parties slots = record { before = λ more. refl }

pub fork_before : (slot bound : ℕ) → Before (λ more. 2 ∷ slot ∷ four bound more)
fork_before slot bound = record { before = λ more. refl }

pub wait_before : (day n : ℕ) → Before (λ more. 3 ∷ two day (n ∷ more))
wait_before day n = record { before = λ more. refl }

choice_before : (party slot low high : ℕ) → Before (λ more. 2 ∷ party ∷ slot ∷ four low (four high more))
choice_before party slot low high = record { before = λ more. refl }

rates_before : (q : ℕ) (cs more : List ℕ) → rates q cs more ≡ rates q cs [] ++ more
rates_before zero cs more = refl
rates_before (suc q) [] more = ap (two 0) (rates_before q [] more)
rates_before (suc q) (c ∷ cs) more = ap (two c) (rates_before q cs more)

pub amount_before : (q : ℕ) (a : Amount) → Before (amount q a)
amount_before q a = record { before = λ more. ap (four a.base) (rates_before q a.per more) }

pub transfer_before : (q kind from to : ℕ) (a : Amount) → Before (λ more. kind ∷ from ∷ to ∷ amount q a more)
transfer_before q kind from to a = record { before = λ more. ap (λ xs. kind ∷ from ∷ to ∷ four a.base xs) (rates_before q a.per more) }

mutual
  pub writing_before : (q : ℕ) (a : Agreement) → Before (writing q a)
  writing_before q over = record { before = λ more. refl }
  writing_before q (pay f t a k) = then (transfer_before q 1 f t a) (writing_before q k)
  writing_before q (fork s n k l) = then (fork_before s n) (then (writing_before q k) (writing_before q l))
  writing_before q (await acts d k) = then (wait_before d (min (count acts) 255)) (then (acts_before q acts) (writing_before q k))

  pub acts_before : (q : ℕ) (acts : Acts) → Before (writing_acts q acts)
  acts_before q none = record { before = λ more. refl }
  acts_before q (deposit w acc a k rest) = then (transfer_before q 1 w acc a) (then (writing_before q k) (acts_before q rest))
  acts_before q (choose w s lo hi k rest) = then (choice_before w s lo hi) (then (writing_before q k) (acts_before q rest))

length_before : {f : List ℕ → List ℕ} → Before f → (more : List ℕ) → length (f more) ≡ length (f []) + length more
length_before {f} p more = ap length (p.before more) ∙ length-append (f []) more

pub length_writing : (q : ℕ) (a : Agreement) (more : List ℕ) → length (writing q a more) ≡ size q a + length more
length_writing q a = length_before (writing_before q a)

pub length_acts : (q : ℕ) (acts : Acts) (more : List ℕ) → length (writing_acts q acts more) ≡ size_acts q acts + length more
length_acts q acts = length_before (acts_before q acts)

pub ruleset lengths = (length_rates, length_writing, length_acts)

-- for goals on the parts of a thing
pub ruleset parts = (lengths, drawn_out, the_lemmas, common_steps)

rates_suc : (q : ℕ) (cs more : List ℕ) → rates (suc q) cs more ≡ rates q cs (two (get_or cs q 0) more)
rates_suc zero [] more = refl
rates_suc zero (c ∷ cs) more = refl
rates_suc (suc q) [] more = ap (two 0) (rates_suc q [] more)
rates_suc (suc q) (c ∷ cs) more = ap (two c) (rates_suc q cs more)

-- over one slot more
pub amount_next : (q : ℕ) (a : Amount) (more : List ℕ) → amount (q + 1) a more ≡ amount q a (two (get_or a.per q 0) more)
amount_next q a more = ap (λ n. amount n a more) (add-one q) ∙ ap (four a.base) (rates_suc q a.per more)

-- what is put behind what stands there already
pub put_behind :
    {f : List ℕ → List ℕ} (g : List ℕ → List ℕ) (m : ℕ) (old : List ℕ) {n : ℕ} {mid new : List ℕ} →
    Before f → n ≡ length (f []) → mid ≡ f (drop n old) → new ≡ g (drop m (take (length mid - n) (drop n mid))) →
    take n mid ++ (new ++ post_of n (length mid - n) mid) ≡ f (g (drop (n + m) old))
put_behind {f} g m old {n} {mid} {new} first end is behind =
    let stands : mid ≡ f [] ++ drop n old = is ∙ first.before (drop n old) in
    let front : take n mid ≡ f [] = ap (take n) stands ∙ take_at (f []) (drop n old) n (sym end) in
    let rest : drop n mid ≡ drop n old = ap (drop n) stands ∙ drop_at (f []) (drop n old) n (sym end) in
    let fits : n ≤ length mid = omega (arith, ap length stands, length-append (f []) (drop n old)) in
    let whole : take (length mid - n) (drop n mid) ≡ drop n mid = take_all _ (drop n mid) (omega (arith, length-drop n mid)) in
    let past : post_of n (length mid - n) mid ≡ [] = drop_all _ (drop n mid) (omega (arith, length-drop n mid)) in
    rw (front, past, append-nil new, behind, whole, rest, drop-drop m n old, first.before (g (drop (n + m) old))) refl

-- a part of the whole is put, and the rest is left
pub record Halfway (whole left : List ℕ → List ℕ) (old : List ℕ) (end : ℕ) (now : List ℕ) : Type 0 where
  pub done : List ℕ → List ℕ
  pub before : Before done
  pub is : (more : List ℕ) → whole more ≡ done (left more)
  pub sizes : end + length (left []) ≡ length (whole [])
  pub puts : now ≡ done (drop end old)

pub at_front : (whole : List ℕ → List ℕ) (old : List ℕ) → Halfway whole whole old 0 old
at_front whole old = record {
  done = λ more. more;
  before = record { before = λ more. refl };
  is = λ more. refl;
  sizes = omega arith;
  puts = refl;
}

-- one part more
pub goes_on :
    {whole here next : List ℕ → List ℕ} (left : List ℕ → List ℕ) {m n : ℕ} {old mid new : List ℕ} →
    Halfway whole here old n mid → ((more : List ℕ) → here more ≡ next (left more)) → Before next → m ≡ length (next []) →
    new ≡ next (drop m (take (length mid - n) (drop n mid))) →
    Halfway whole left old (n + m) (take n mid ++ (new ++ post_of n (length mid - n) mid))
goes_on {here} {next} left {m} {n} {old} half same first size behind =
    let ends : n ≡ length (half.done []) = omega (arith, ap length (half.is []), length_before half.before (here [])) in record {
      done = λ more. half.done (next more);
      before = then half.before first;
      is = λ more. half.is more ∙ ap half.done (same more);
      sizes = omega (arith, ap length (same []), length_before first (left []));
      puts = put_behind next m old half.before ends half.puts behind;
    }
