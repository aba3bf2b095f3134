-- The violations of the root: its period or a timing bound is missing, a range is reversed, the skew is 0, or the
-- period is below the bound.
use Rattle.std.specs.Prelude.{ℕ, Bool, false, not, nat_eq, nat_lt, List, [], ◌++◌, Option, Some, None}
use Rattle.std.specs.Option.{option_and_then, is_some}
use Rattle.pals_base.specs.declared.period_bound_and_releases.Gamma.{Gamma}
use Rattle.aadl_tree.specs.Values.{Association}
use Rattle.aadl_tree.specs.Declarations.{Implementation, PackageTree}
use Rattle.aadl_names.specs.declared.recognised_properties.PropertyName.{PropertyName}
use Rattle.aadl_names.specs.declared.recognised_properties.PropertyName.TheVariants.{Period, Skew, Execution, Network}
use Rattle.aadl_names.specs.NameResolution.{implementation_at}
use Rattle.aadl_names.specs.RecognisedProperties.{association_at}
use Rattle.annex_resolve.specs.declared.violation.Violation.{Violation}
use Rattle.annex_resolve.specs.FindingRecords.{found_if}
use Rattle.component_checks.specs.BoundsAndRates.{within_hour, range_within, skew_of, range_of, gamma_by}
use Rattle.component_checks.specs.PeriodAndAdaptorFindings.{bound_findings}
use Rattle.annex_resolve.specs.declared.violation.TheConstants.{NO_PERIOD, GAMMA_MISSING, GAMMA_ORDER}
use Rattle.component_checks.specs.PropertyLookup.{root_lists, first_in}
use Rattle.component_checks.specs.Times.{time_at, range_at, shown}
use Rattle.component_checks.specs.ThreadRatesAndFindings.{root_period}

-- at the root's implementation, then at its type
abbrev pub at_root : PackageTree ℕ → ℕ → PropertyName → Option (Association ℕ)
at_root tree root p = first_in p (root_lists tree root)

abbrev pub root_skew : PackageTree ℕ → ℕ → Option ℕ
root_skew tree root = skew_of (time_at (at_root tree root Skew))

abbrev pub root_range : PackageTree ℕ → ℕ → PropertyName → Option (ℕ × ℕ)
root_range tree root p = range_of (range_at (at_root tree root p))

-- the timing bounds, if none is missing or rejected
abbrev pub root_gamma : PackageTree ℕ → ℕ → Option Gamma
root_gamma tree root = gamma_by (root_skew tree root) (root_range tree root Execution) (root_range tree root Network)

-- ---- missing
abbrev pub name_place : Option (Implementation ℕ) → ℕ
name_place None = 0
name_place (Some x) = x.name.component_type.at

abbrev pub root_place : PackageTree ℕ → ℕ → ℕ
root_place tree root = name_place (implementation_at tree root)

abbrev pub missing : PackageTree ℕ → ℕ → ℕ → List ℕ → PropertyName → List Violation
missing tree root number details p =
    found_if (not (is_some (at_root tree root p))) (root_place tree root) number details

abbrev pub missing_bound : PackageTree ℕ → ℕ → PropertyName → List Violation
missing_bound tree root p = missing tree root GAMMA_MISSING (shown p) p

-- ---- a skew of 0, and a range whose lower end is above the upper end
abbrev pub is_zero : Option ℕ → Bool
is_zero None = false
is_zero (Some n) = nat_eq n 0

abbrev pub is_reversed : Option (ℕ × ℕ) → Bool
is_reversed None = false
is_reversed (Some r) = nat_lt r.1 r.0

abbrev pub place_of : Option (Association ℕ) → ℕ
place_of None = 0
place_of (Some x) = association_at x

abbrev pub zero_skew : Option (Association ℕ) → List Violation
zero_skew x = found_if (is_zero (option_and_then within_hour (time_at x))) (place_of x) GAMMA_ORDER (shown Skew)

abbrev pub reversed_range : PropertyName → Option (Association ℕ) → List Violation
reversed_range p x =
    found_if (is_reversed (option_and_then range_within (range_at x))) (place_of x) GAMMA_ORDER (shown p)

-- ---- all violations, for the maximum rate of the components
abbrev pub missing_findings : PackageTree ℕ → ℕ → List Violation
missing_findings tree root =
    missing tree root NO_PERIOD [] Period ++ missing_bound tree root Skew ++ missing_bound tree root Execution
    ++ missing_bound tree root Network

abbrev pub order_findings : PackageTree ℕ → ℕ → List Violation
order_findings tree root =
    zero_skew (at_root tree root Skew) ++ reversed_range Execution (at_root tree root Execution)
    ++ reversed_range Network (at_root tree root Network)

abbrev pub root_findings : PackageTree ℕ → ℕ → ℕ → List Violation
root_findings tree root rate =
    missing_findings tree root ++ order_findings tree root
    ++ bound_findings (place_of (at_root tree root Period)) (root_period tree root) (root_gamma tree root) rate
