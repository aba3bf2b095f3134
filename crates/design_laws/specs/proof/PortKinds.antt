-- The types of the ports of a flattened design.
use Rattle.std.specs.Prelude.{ℕ, Option}
use Rattle.std.specs.Option.{option_and_then}
use Rattle.pals_base.specs.declared.behaviour.Kind.{Kind}
use Rattle.aadl_tree.specs.Declarations.{Feature, PackageTree}
use Rattle.aadl_chains.specs.Chains.{Port, port_of}
use Rattle.annex_resolve.specs.ExpressionTypesAndFindings.{kind_in}

-- `None` if there is no such port, or its type is neither Integer nor Boolean
abbrev pub port_kind : PackageTree ℕ → ℕ → Port → Option Kind
port_kind tree root p = option_and_then (λ (f : Feature ℕ). kind_in f.data_type) (port_of tree root p)
