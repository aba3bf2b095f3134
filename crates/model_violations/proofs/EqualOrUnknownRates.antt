-- For `add_adaptor_findings`: two equal rates without an adaptor, or a missing rate, give no violation.
use Rattle.std.proofs.Common.{◌≡◌, ◌∙◌, ℕ, nat_eq, Bool, true, false, not, cond, ◌&&◌, List, [], ◌++◌, Option, Some}
use Rattle.std.proofs.Common.{None, refl, sym, ap}
use Rattle.std.specs.Option.{is_some}
use Rattle.std.proofs.lemmas.List.{append-nil}
use Rattle.pals_base.specs.declared.behaviour.Kind.{Kind}
use Rattle.pals_base.specs.declared.allowed_adaptors.Adaptor.{Adaptor}
use Rattle.annex_resolve.specs.declared.violation.Violation.{Violation}
use Rattle.model_violations.specs.ChainFindings.{is_plain, rated}

-- the result if one test decides, and another on the remaining path
where_both : {A : Type 0} (same given : Bool) (found others : List A) → (same && not given) ≡ true
    → cond same (cond given found []) others ≡ []
where_both true true found others h = absurd (cc h)
where_both true false found others h = refl
where_both false given found others h = absurd (cc h)

plain_rated : (at : ℕ) (name : List ℕ) (given : Option (Option Adaptor)) (kind : Option Kind) (p q : Option ℕ)
    → is_plain given p q ≡ true → rated at name given kind p q ≡ []
plain_rated at name given kind None q h = refl
plain_rated at name given kind (Some p) None h = refl
plain_rated at name given kind (Some p) (Some q) h = where_both (nat_eq p q) (is_some given) _ _ h

pub nothing_added : (at : ℕ) (name : List ℕ) (said given : Option (Option Adaptor)) (kind : Option Kind)
    (from p to q : Option ℕ) (found : List Violation) → said ≡ given → from ≡ p → to ≡ q
    → is_plain said from to ≡ true → found ≡ found ++ rated at name given kind p q
nothing_added at name said given kind from p to q found same first second test =
    let plain : is_plain given p q ≡ true = ap (λ g. is_plain g p q) (sym same)
    ∙ ap (λ r. is_plain said r q) (sym first) ∙ ap (is_plain said from) (sym second) ∙ test in
    sym (ap (λ l. found ++ l) (plain_rated at name given kind p q plain) ∙ append-nil found)
