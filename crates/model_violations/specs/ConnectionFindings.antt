-- The violations of the connections of an implementation, independent of the chains that they carry.
use Rattle.std.specs.Prelude.{ℕ, Bool, true, false, not, ◌&&◌, ◌||◌, List, ◌++◌, flat_map, Option, Some, None}
use Rattle.std.specs.Prelude.{slice_get}
use Rattle.std.specs.List.{enumerate_from}
use Rattle.std.specs.Option.{option_and_then, is_some}
use Rattle.pals_base.specs.declared.behaviour.Kind.{Kind}
use Rattle.aadl_tree.specs.Names.{Identifier}
use Rattle.aadl_tree.specs.Declarations.{Feature, Connection, ConnectionEnd, Implementation, PackageTree}
use Rattle.aadl_names.specs.declared.numbered_port.NumberedPort.{NumberedPort}
use Rattle.aadl_names.specs.declared.numbered_port.NumberedPort.TheVariants.{Own, Inner}
use Rattle.aadl_names.specs.NameResolution.{port_named, ports_of, inner_ports, end_port}
use Rattle.annex_resolve.specs.declared.violation.Violation.{Violation}
use Rattle.annex_resolve.specs.declared.violation.TheConstants.{DELAYED_ROOT, STRAY_ADAPTOR}
use Rattle.annex_resolve.specs.FindingRecords.{found_if}
use Rattle.annex_resolve.specs.ExpressionTypesAndFindings.{kind_in, misfit}
use Rattle.model_violations.specs.ConnectionsAndCarriers.{is_delayed, adaptor_text}

-- ---- the type of a port, by its number and by its name
abbrev pub kind_numbered : List (Feature ℕ) → ℕ → Option Kind
kind_numbered ports p = option_and_then (λ f. kind_in f.data_type) (slice_get ports p)

abbrev pub kind_named : List (Feature ℕ) → List ℕ → Option Kind
kind_named ports name = option_and_then (kind_numbered ports) (port_named ports name)

-- ---- the types of both ends, if each is Integer or Boolean
abbrev pub site_port : PackageTree ℕ → Implementation ℕ → NumberedPort → Option (Feature ℕ)
site_port tree x (Own p) = slice_get (ports_of tree x) p
site_port tree x (Inner s p) = slice_get (inner_ports tree x s) p

abbrev pub site_kind : PackageTree ℕ → Implementation ℕ → NumberedPort → Option Kind
site_kind tree x s = option_and_then (λ f. kind_in f.data_type) (site_port tree x s)

abbrev pub kind_at : PackageTree ℕ → Implementation ℕ → ConnectionEnd ℕ → Option Kind
kind_at tree x end = option_and_then (site_kind tree x) (end_port tree x end)

-- ---- an end at an own port
abbrev pub is_own : Option (Identifier ℕ) → Bool
is_own None = true
is_own (Some port) = false

abbrev pub joins_own : Connection ℕ → Bool
joins_own c = is_own c.source.second || is_own c.target.second

-- ---- ends of different types, a delay at an own port, an adaptor on a connection that is not a carrier
abbrev pub ends_findings : PackageTree ℕ → Implementation ℕ → Connection ℕ → List Violation
ends_findings tree x c = misfit c.name.at (kind_at tree x c.source) (kind_at tree x c.target)

abbrev pub delay_findings : Connection ℕ → List Violation
delay_findings c = found_if (joins_own c && is_delayed c) c.name.at DELAYED_ROOT c.name.spelling

abbrev pub adaptor_findings : Bool → Connection ℕ → List Violation
adaptor_findings carried c = found_if (not carried && is_some (adaptor_text c)) c.name.at STRAY_ADAPTOR c.name.spelling

abbrev pub connection_findings : PackageTree ℕ → (ℕ → ℕ → Bool) → ℕ → Implementation ℕ → ℕ × Connection ℕ
    → List Violation
connection_findings tree carried n x (i, c) =
    ends_findings tree x c ++ delay_findings c ++ adaptor_findings (carried n i) c

abbrev pub connections_findings : PackageTree ℕ → (ℕ → ℕ → Bool) → ℕ → Implementation ℕ → List Violation
connections_findings tree carried n x = flat_map (connection_findings tree carried n x) (enumerate_from 0 x.connections)
