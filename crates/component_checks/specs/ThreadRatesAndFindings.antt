-- The period and the rate of a component, the maximum rate, and the violations of a component's dispatch and period.
use Rattle.std.specs.Prelude.{ℕ, max, Bool, false, not, List, ◌++◌, codes, fold, Option, Some, None}
use Rattle.std.specs.Option.{option_and_then}
use Rattle.aadl_tree.specs.Names.{Reference, same_name}
use Rattle.aadl_tree.specs.Values.{Association}
use Rattle.aadl_tree.specs.Declarations.{Subcomponent, PackageTree}
use Rattle.aadl_names.specs.declared.recognised_properties.PropertyName.TheVariants.{Period, Dispatch}
use Rattle.aadl_names.specs.QualifiedNameSpellings.{spelled_reference}
use Rattle.aadl_names.specs.RecognisedProperties.{association_value}
use Rattle.aadl_names.specs.PropertyValueShapes.{reference_of}
use Rattle.aadl_uses.specs.declared.thread_locations.SubAt.{SubAt}
use Rattle.aadl_uses.specs.declared.thread_locations.ThreadAt.{ThreadAt}
use Rattle.annex_resolve.specs.declared.violation.Violation.{Violation}
use Rattle.annex_resolve.specs.FindingRecords.{found_if}
use Rattle.component_checks.specs.BoundsAndRates.{within_hour, rate_of}
use Rattle.component_checks.specs.PeriodAndAdaptorFindings.{period_findings}
use Rattle.annex_resolve.specs.declared.violation.TheConstants.{NOT_PERIODIC}
use Rattle.component_checks.specs.PropertyLookup.{lists_along, root_lists, sub_lists, innermost, first_in}
use Rattle.component_checks.specs.Times.{time_at}

-- ---- periods, given nearest to the component; `None` above one hour
abbrev pub root_period : PackageTree ℕ → ℕ → Option ℕ
root_period tree root = option_and_then within_hour (time_at (first_in Period (root_lists tree root)))

abbrev pub own_period : PackageTree ℕ → ℕ → List SubAt → Option ℕ
own_period tree root subs = option_and_then within_hour (time_at (first_in Period (lists_along tree root subs)))

abbrev pub thread_rate : PackageTree ℕ → ℕ → ThreadAt → Option ℕ
thread_rate tree root thread = rate_of (root_period tree root) (own_period tree root thread.subs)

-- the maximum of the valid rates, or 1
abbrev pub greater_rate : ℕ → Option ℕ → ℕ
greater_rate k None = k
greater_rate k (Some rate) = max k rate

abbrev pub greatest_rate : List (Option ℕ) → ℕ
greatest_rate rates = fold greater_rate 1 rates

-- ---- the dispatch is periodic: at the subcomponent, its implementation or its type
abbrev pub is_word : List ℕ → Option (Reference ℕ) → Bool
is_word word None = false
is_word word (Some r) = same_name (spelled_reference r) word

abbrev pub says : List ℕ → Option (Association ℕ) → Bool
says word x = is_word word (option_and_then (λ a. reference_of (association_value a)) x)

abbrev pub is_periodic : PackageTree ℕ → List SubAt → Bool
is_periodic tree subs = says (codes "Periodic") (first_in Dispatch (sub_lists tree (innermost tree subs)))

abbrev pub sub_place : Option (Subcomponent ℕ) → ℕ
sub_place None = 0
sub_place (Some x) = x.name.at

abbrev pub thread_place : PackageTree ℕ → ThreadAt → ℕ
thread_place tree thread = sub_place (innermost tree thread.subs)

abbrev pub thread_findings : PackageTree ℕ → ℕ → ThreadAt → List Violation
thread_findings tree root thread =
    found_if (not (is_periodic tree thread.subs)) (thread_place tree thread) NOT_PERIODIC thread.path
    ++ period_findings (thread_place tree thread) thread.path (root_period tree root) (own_period tree root thread.subs)
