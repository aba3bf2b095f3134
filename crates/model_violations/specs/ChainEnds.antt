-- The name and the type of the in port at the end of a connection chain, and the rate of the component at either end,
-- by the numbers of the instance model.
use Rattle.std.specs.Prelude.{ℕ, List, [], ◌++◌, codes, filter, Option, Some, None, slice_get}
use Rattle.std.specs.Option.{option_and_then}
use Rattle.pals_base.specs.declared.behaviour.Kind.{Kind}
use Rattle.aadl_tree.specs.Declarations.{Feature, Implementation, PackageTree}
use Rattle.aadl_names.specs.NameResolution.{ports_at, target_of}
use Rattle.aadl_uses.specs.declared.thread_locations.ThreadAt.{ThreadAt}
use Rattle.aadl_instance.specs.declared.chain.ChainEnd.{ChainEnd}
use Rattle.aadl_instance.specs.declared.chain.ChainEnd.TheVariants.{Thread, Root}
use Rattle.aadl_instance.specs.InstancesByNumbers.{port_name}
use Rattle.annex_resolve.specs.ExpressionTypesAndFindings.{kind_in}
use Rattle.component_checks.specs.PropertyLookup.{innermost}
use Rattle.component_checks.specs.TypeFindings.{is_in}

-- ---- the ports of a thread: in ports and out ports
abbrev pub component_of : PackageTree ℕ → ThreadAt → Option (Implementation ℕ)
component_of tree thread = option_and_then (target_of tree) (innermost tree thread.subs)

abbrev pub ins_of : PackageTree ℕ → ThreadAt → List (Feature ℕ)
ins_of tree thread = filter is_in (ports_at tree (component_of tree thread))

-- ---- an in port by its thread's number and its own
abbrev pub thread_in : PackageTree ℕ → Option ThreadAt → ℕ → Option (Feature ℕ)
thread_in tree None port = None
thread_in tree (Some thread) port = slice_get (ins_of tree thread) port

abbrev pub thread_port_name : PackageTree ℕ → Option ThreadAt → ℕ → List ℕ
thread_port_name tree None port = []
thread_port_name tree (Some thread) port = thread.path ++ codes "." ++ port_name (slice_get (ins_of tree thread) port)

-- ---- the end of a connection chain: its name in violations, and its type
abbrev pub end_name : PackageTree ℕ → List ThreadAt → ChainEnd → List ℕ
end_name tree threads (Thread node port) = thread_port_name tree (slice_get threads node.0) port
end_name tree threads (Root name) = name

abbrev pub end_kind : PackageTree ℕ → List ThreadAt → ChainEnd → Option Kind
end_kind tree threads (Thread node port) =
    option_and_then (λ f. kind_in f.data_type) (thread_in tree (slice_get threads node.0) port)
end_kind tree threads (Root name) = None

-- the rate of the component at an end; the rate of the root is 1
abbrev pub flat : Option (Option ℕ) → Option ℕ
flat None = None
flat (Some rate) = rate

abbrev pub end_rate : List (Option ℕ) → ChainEnd → Option ℕ
end_rate rates (Thread node port) = flat (slice_get rates node.0)
end_rate rates (Root name) = Some 1
