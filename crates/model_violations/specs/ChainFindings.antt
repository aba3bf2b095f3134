-- The violations of links, feeds and taps. Their properties are the properties of their carriers.
use Rattle.std.specs.Prelude.{ℕ, nat_eq, Bool, true, not, ◌&&◌, List, [], ◌++◌, Option, Some, None, option_map}
use Rattle.std.specs.Option.{is_some}
use Rattle.pals_base.specs.declared.behaviour.Kind.{Kind}
use Rattle.pals_base.specs.declared.allowed_adaptors.Adaptor.{Adaptor}
use Rattle.aadl_tree.specs.Declarations.{Connection, PackageTree}
use Rattle.aadl_uses.specs.declared.thread_locations.ThreadAt.{ThreadAt}
use Rattle.aadl_instance.specs.declared.chain.Chain.{Chain}
use Rattle.annex_resolve.specs.declared.violation.Violation.{Violation}
use Rattle.annex_resolve.specs.FindingRecords.{found_if}
use Rattle.annex_resolve.specs.declared.violation.TheConstants.{NOT_DELAYED, STRAY_ADAPTOR}
use Rattle.component_checks.specs.PeriodAndAdaptorFindings.{pair_findings}
use Rattle.component_checks.specs.AdaptorTexts.{adaptor_named}
use Rattle.model_violations.specs.ChainEnds.{end_name, end_kind, end_rate}
use Rattle.model_violations.specs.ConnectionsAndCarriers.{connection_of, is_delayed, adaptor_text}

-- for the rates at both ends; if one rate is missing, there are no violations
abbrev pub rated : ℕ → List ℕ → Option (Option Adaptor) → Option Kind → Option ℕ → Option ℕ → List Violation
rated at name given kind None q = []
rated at name given kind (Some p) None = []
rated at name given kind (Some p) (Some q) = pair_findings at name given kind p q

-- one of the rates is missing, or they are equal and there is no adaptor: no violations, for any name and type
abbrev pub is_plain : Option (Option Adaptor) → Option ℕ → Option ℕ → Bool
is_plain given None q = true
is_plain given (Some p) None = true
is_plain given (Some p) (Some q) = nat_eq p q && not (is_some given)

abbrev pub adaptor_findings : PackageTree ℕ → List ThreadAt → List (Option ℕ) → Chain → Connection ℕ → List Violation
adaptor_findings tree threads rates x c =
    rated c.name.at (end_name tree threads x.to) (option_map adaptor_named (adaptor_text c))
    (end_kind tree threads x.to) (end_rate rates x.from) (end_rate rates x.to)

abbrev pub timing_findings : PackageTree ℕ → List ThreadAt → Chain → Connection ℕ → List Violation
timing_findings tree threads x c = found_if (not (is_delayed c)) c.name.at NOT_DELAYED (end_name tree threads x.to)

abbrev pub stray_findings : PackageTree ℕ → List ThreadAt → Chain → Connection ℕ → List Violation
stray_findings tree threads x c =
    found_if (is_some (adaptor_text c)) c.name.at STRAY_ADAPTOR (end_name tree threads x.to)

-- ---- with the carrier's properties
abbrev pub on_carrier : (Connection ℕ → List Violation) → Option (Connection ℕ) → List Violation
on_carrier rules None = []
on_carrier rules (Some c) = rules c

abbrev pub link_findings : PackageTree ℕ → List ThreadAt → List (Option ℕ) → Chain → List Violation
link_findings tree threads rates x =
    on_carrier (λ c. timing_findings tree threads x c ++ adaptor_findings tree threads rates x c)
    (connection_of tree x.carrier)

abbrev pub feed_findings : PackageTree ℕ → List ThreadAt → List (Option ℕ) → Chain → List Violation
feed_findings tree threads rates x = on_carrier (adaptor_findings tree threads rates x) (connection_of tree x.carrier)

abbrev pub tap_findings : PackageTree ℕ → List ThreadAt → Chain → List Violation
tap_findings tree threads x = on_carrier (stray_findings tree threads x) (connection_of tree x.carrier)
