-- The head of an act whose kind is known.
use Rattle.std.proofs.Common.{◌≡◌, ℕ, Bool, true, not, List, [], ◌∷◌, length, set, sym, refl, ap, ◌∙◌}
use Rattle.agreement.specs.Checks.{Key, act, check, choice, deposit, unlike}
use Rattle.agreement.specs.Kinds.{act_code}
use Rattle.agreement.specs.Steps.{like}
use Rattle.agreement.specs.declared.Fault.TheVariants.{Alike}
use Rattle.agreement.specs.declared.Wrong.{Wrong}
use Rattle.agreement.specs.declared.kinds.ActKind.{ActKind}
use Rattle.agreement.specs.declared.kinds.ActKind.TheVariants.{Deposit, Choice}

unlike_like : (kind : ℕ) (keys : List Key) (rest : List ℕ) (more : List Wrong) →
    unlike keys (kind ∷ rest) more ≡ check (not (like kind (kind ∷ rest) keys)) Alike (length (kind ∷ rest)) more
unlike_like kind keys [] more = refl
unlike_like kind keys (w ∷ []) more = refl
unlike_like kind keys (w ∷ x ∷ rest) more = refl

-- the walk through the head of an act behind its kind
abbrev pub act_behind : ActKind → ℕ → ℕ → List Bool → List ℕ → (List Bool → Key → List ℕ → List Wrong) → List Wrong
act_behind Deposit p q us rest k = deposit p q rest (λ w x. k us (record { kind = 1; who = w; what = x }))
act_behind Choice p q us rest k = choice p q us rest (λ w x. k (set us x true) (record { kind = 2; who = w; what = x }))

pub act_of : (kind : ActKind) (p q : ℕ) (us : List Bool) (keys : List Key) (bs : List ℕ) {byte : ℕ} {rest : List ℕ} → bs ≡ byte ∷ rest → act_code kind ≡ byte →
    {t : Bool} → t ≡ like (act_code kind) bs keys → (k : List Bool → Key → List ℕ → List Wrong) →
    act p q us keys bs k ≡ check (not t) Alike (length bs) (act_behind kind p q us rest k)
act_of Deposit p q us keys bs {rest = rest} front one is k =
    let e : bs ≡ 1 ∷ rest = front ∙ ap (λ (b : ℕ). b ∷ rest) (sym one) in rw (is, e) (unlike_like 1 keys rest _)
act_of Choice p q us keys bs {rest = rest} front two is k =
    let e : bs ≡ 2 ∷ rest = front ∙ ap (λ (b : ℕ). b ∷ rest) (sym two) in rw (is, e) (unlike_like 2 keys rest _)
