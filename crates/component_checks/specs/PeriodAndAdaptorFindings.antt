-- The violations of periods, rates and adaptors, and of the root's period against the bound.
use Rattle.std.specs.Prelude.{ℕ, ◌+◌, ◌/◌, Bool, true, false, not, ◌&&◌, nat_eq, nat_lt, List, [], ◌∷◌, ◌++◌, codes}
use Rattle.std.specs.Prelude.{Option, Some, None, if◌then◌else◌}
use Rattle.std.specs.Option.{is_some}
use Rattle.std.specs.Fmt.{decimal}
use Rattle.pals_base.specs.declared.behaviour.Kind.{Kind}
use Rattle.pals_base.specs.declared.period_bound_and_releases.Gamma.{Gamma}
use Rattle.pals_base.specs.declared.allowed_adaptors.Adaptor.{Adaptor}
use Rattle.pals_base.specs.declared.limits.TheConstants.{RATE}
use Rattle.pals_base.specs.PeriodBoundAndReleases.{least_period}
use Rattle.pals_base.specs.AllowedAdaptors.{divides_or_divided, is_allowed, suits_kind}
use Rattle.annex_resolve.specs.declared.violation.Violation.{Violation}
use Rattle.annex_resolve.specs.FindingRecords.{finding, found_if}
use Rattle.annex_resolve.specs.declared.violation.TheConstants.{NOT_DIVISOR, RATE_TOO_HIGH, RATES_DONT_DIVIDE}
use Rattle.annex_resolve.specs.declared.violation.TheConstants.{NO_ADAPTOR, STRAY_ADAPTOR, ADAPTOR_OUT_OF_RANGE}
use Rattle.annex_resolve.specs.declared.violation.TheConstants.{PERIOD_TOO_SHORT}
use Rattle.component_checks.specs.BoundsAndRates.{divides}

abbrev pub name_and_number : List ℕ → ℕ → List ℕ
name_and_number front n = front ++ codes " " ++ decimal n

-- ---- the period of a component at a path, against the root's
abbrev pub period_findings : ℕ → List ℕ → Option ℕ → Option ℕ → List Violation
period_findings at path None p = []
period_findings at path (Some t) None = []
period_findings at path (Some t) (Some p) =
    if divides p t then found_if (nat_lt RATE (t / p)) at RATE_TOO_HIGH (name_and_number path (t / p))
    else finding at NOT_DIVISOR (name_and_number (name_and_number path p) t) ∷ []

-- a missing type allows every adaptor
abbrev pub kind_suits : Option Adaptor → Option Kind → Bool
kind_suits a None = true
kind_suits a (Some k) = suits_kind a k

abbrev pub is_right : Option Adaptor → Option Kind → ℕ → ℕ → Bool
is_right None kind p q = false
is_right (Some a) kind p q = is_allowed (Some a) p q && kind_suits (Some a) kind

-- ---- the rates at both ends of a link or a feed, its name and its adaptor text
abbrev pub adaptor_findings : ℕ → List ℕ → Option (Option Adaptor) → Option Kind → ℕ → ℕ → List Violation
adaptor_findings at name None kind p q = finding at NO_ADAPTOR name ∷ []
adaptor_findings at name (Some adaptor) kind p q =
    found_if (not (is_right adaptor kind p q)) at ADAPTOR_OUT_OF_RANGE name

abbrev pub pair_findings : ℕ → List ℕ → Option (Option Adaptor) → Option Kind → ℕ → ℕ → List Violation
pair_findings at name given kind p q =
    if nat_eq p q then found_if (is_some given) at STRAY_ADAPTOR name
    else if divides_or_divided p q then adaptor_findings at name given kind p q
    else finding at RATES_DONT_DIVIDE (name_and_number (name_and_number name p) q) ∷ []

-- ---- the root's period against the bound, for the maximum rate
abbrev pub bound_findings : ℕ → Option ℕ → Option Gamma → ℕ → List Violation
bound_findings at None g rate = []
bound_findings at (Some t) None rate = []
bound_findings at (Some t) (Some g) rate =
    found_if (nat_lt t (least_period g rate)) at PERIOD_TOO_SHORT (name_and_number (decimal t) (least_period g rate))
