-- Adaptors without findings are allowed.
use Rattle.std.proofs.Common.{◌≡◌, ℕ, nat_eq, Bool, true, false, cond, ◌||◌, List, [], ◌∷◌, Option, Some, None, refl}
use Rattle.std.proofs.Common.{ap, subst}
use Rattle.std.specs.Prelude.{option_map}
use Rattle.std.specs.Option.{option_and_then, is_some}
use Rattle.std.proofs.Math.Nat.{mod_self}
use Rattle.std.proofs.lemmas.Bool.{false≢true, eqb-true, and_parts}
use Rattle.pals_base.specs.declared.behaviour.Kind.{Kind}
use Rattle.pals_base.specs.declared.allowed_adaptors.Adaptor.{Adaptor}
use Rattle.pals_base.specs.AllowedAdaptors.{divides_or_divided, is_allowed}
use Rattle.annex_resolve.specs.FindingRecords.{finding, found_if}
use Rattle.annex_resolve.specs.declared.violation.TheConstants.{RATES_DONT_DIVIDE, STRAY_ADAPTOR, ADAPTOR_OUT_OF_RANGE}
use Rattle.component_checks.specs.PeriodAndAdaptorFindings.{name_and_number, kind_suits, is_right, adaptor_findings}
use Rattle.component_checks.specs.PeriodAndAdaptorFindings.{pair_findings}
use Rattle.component_checks.specs.AdaptorTexts.{adaptor_named}
use Rattle.design_laws.proofs.EmptyFindingLists as tests

-- the adaptor in a text fits two rates and a type
pub record Fits (text : Option (List ℕ)) (kind : Option Kind) (p q : ℕ) : Type 0 where
  pub divides : divides_or_divided p q ≡ true
  pub allowed : is_allowed (option_and_then adaptor_named text) p q ≡ true
  pub suits : kind_suits (option_and_then adaptor_named text) kind ≡ true

-- ---- equal rates without an adaptor

self_divides : (p : ℕ) → divides_or_divided p p ≡ true
self_divides p = ap (λ n. nat_eq n 0 || nat_eq n 0) (mod_self p)

same_divides : (p q : ℕ) → nat_eq p q ≡ true → divides_or_divided p q ≡ true
same_divides p q h = subst (λ r. divides_or_divided p r ≡ true) (eqb-true p q h) (self_divides p)

none_suits : (kind : Option Kind) → kind_suits None kind ≡ true
none_suits None = refl
none_suits (Some k) = refl

-- ---- a valid adaptor
right_fits : (a : Option Adaptor) (kind : Option Kind) (p q : ℕ) → is_right a kind p q ≡ true
    → (is_allowed a p q ≡ true) × (kind_suits a kind ≡ true)
right_fits None kind p q h = absurd (false≢true h)
right_fits (Some a) kind p q h = and_parts (is_allowed (Some a) p q) (kind_suits (Some a) kind) h

-- ---- all cases
fits_by : (at : ℕ) (name : List ℕ) (text : Option (List ℕ)) (kind : Option Kind) (p q : ℕ) (same one : Bool)
    → nat_eq p q ≡ same
    → divides_or_divided p q ≡ one
    → cond same (found_if (is_some (option_map adaptor_named text)) at STRAY_ADAPTOR name)
    (cond one (adaptor_findings at name (option_map adaptor_named text) kind p q)
    (finding at RATES_DONT_DIVIDE (name_and_number (name_and_number name p) q) ∷ [])) ≡ []
    → Fits text kind p q
fits_by at name None kind p q true one h d none =
    record { divides = same_divides p q h; allowed = h; suits = none_suits kind }
fits_by at name None kind p q false true h d none = absurd (cc none)
fits_by at name None kind p q false false h d none = absurd (cc none)
fits_by at name (Some bytes) kind p q true one h d none = absurd (cc none)
fits_by at name (Some bytes) kind p q false true h d none =
    let f =
    right_fits (adaptor_named bytes) kind p q
    (tests.is_right (is_right (adaptor_named bytes) kind p q) at ADAPTOR_OUT_OF_RANGE name none) in
    record { divides = d; allowed = f.0; suits = f.1 }
fits_by at name (Some bytes) kind p q false false h d none = absurd (cc none)

pub fits : (at : ℕ) (name : List ℕ) (text : Option (List ℕ)) (kind : Option Kind) (p q : ℕ)
    → pair_findings at name (option_map adaptor_named text) kind p q ≡ [] → Fits text kind p q
fits at name text kind p q none = fits_by at name text kind p q (nat_eq p q) (divides_or_divided p q) refl refl none
