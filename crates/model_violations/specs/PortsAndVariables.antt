-- The ports and variables of a behaviour, with their initial values, and the meanings of their names.
use Rattle.std.specs.Prelude.{ℕ, ℤ, pos, ◌-ℤ◌, nat_le, nat_eq, drop, not, List, ◌++◌, length, map, filter, flat_map}
use Rattle.std.specs.Prelude.{codes, Option, Some, None, if◌then◌else◌}
use Rattle.std.specs.List.{starts_with, enumerate_from}
use Rattle.std.specs.Option.{option_and_then}
use Rattle.std.specs.Str.{bytes_eq}
use Rattle.pals_base.specs.declared.behaviour.Kind.{Kind}
use Rattle.pals_base.specs.declared.behaviour.Kind.TheVariants.{Integer}
use Rattle.pals_base.specs.declared.behaviour.PortDecl.{PortDecl}
use Rattle.pals_base.specs.declared.behaviour.VarDecl.{VarDecl}
use Rattle.aadl_lex.specs.Rules.{decimal, most}
use Rattle.aadl_tree.specs.Names.{Identifier, identifiers, listed_in}
use Rattle.aadl_tree.specs.Declarations.{Feature, Implementation, PackageTree}
use Rattle.aadl_tree.specs.Annexes.{VariableDeclaration, AnnexTree}
use Rattle.aadl_names.specs.declared.recognised_properties.PropertyName.TheVariants.{Initial}
use Rattle.aadl_names.specs.RecognisedProperties.{association_named, association_value, name_of}
use Rattle.aadl_names.specs.PropertyValueShapes.{only_text}
use Rattle.aadl_names.specs.NameResolution.{ports_of}
use Rattle.component_checks.specs.TypeFindings.{is_in}
use Rattle.annex_resolve.specs.declared.ports_and_variables.DeclaredValues.{DeclaredValues}
use Rattle.annex_resolve.specs.declared.scope.Scope.{Scope}
use Rattle.annex_resolve.specs.declared.scope.DeclaredName.{DeclaredName}
use Rattle.annex_resolve.specs.declared.scope.Meaning.TheVariants.{InPort, OutPort, Variable as VariableNumber}
use Rattle.annex_resolve.specs.ExpressionTypesAndFindings.{kind_named, kind_in}
use Rattle.model_violations.specs.declared.port_or_variable.Declared.{Declared}

-- ---- ports and variables with their types, if these are Integer or Boolean, and their initial values
abbrev pub port_of : Feature ℕ → Declared
port_of f = record { name = f.name.spelling; kind = kind_in f.data_type; first = pos 0 }

-- in ports and out ports, in their order
abbrev pub ins_in : List (Feature ℕ) → List Declared
ins_in ports = map port_of (filter is_in ports)

abbrev pub outs_in : List (Feature ℕ) → List Declared
outs_in ports = map port_of (filter (λ f. not (is_in f)) ports)

-- ---- the initial value in a text: `true` or a number; anything else counts as 0
abbrev pub whole_of : List ℕ → ℤ
whole_of digits = if nat_le (decimal digits) most then pos (decimal digits) else pos 0

abbrev pub value_of : List ℕ → ℤ
value_of text =
    if bytes_eq text (codes "true") then pos 1
    else if starts_with nat_eq text (codes "-") then pos 0 -ℤ whole_of (drop 1 text)
    else whole_of text

abbrev pub value_in : Option (List ℕ) → ℤ
value_in None = pos 0
value_in (Some text) = value_of text

abbrev pub first_of : VariableDeclaration ℕ → ℤ
first_of v =
    value_in (option_and_then (λ a. only_text (association_value a)) (association_named v.properties (name_of Initial)))

abbrev pub variable_of : Option Kind → ℤ → Identifier ℕ → Declared
variable_of kind first x = record { name = x.spelling; kind = kind; first = first }

abbrev pub variables_in : VariableDeclaration ℕ → List Declared
variables_in v = map (variable_of (kind_named v.data_type) (first_of v)) (identifiers v.names)

abbrev pub variables_of : AnnexTree ℕ → List Declared
variables_of annex = flat_map variables_in (listed_in annex.variables)

-- ---- in the behaviour; a missing type counts as Integer
abbrev pub or_integer : Option Kind → Kind
or_integer None = Integer
or_integer (Some k) = k

abbrev pub named_of : Declared → PortDecl
named_of d = record { name = d.name; kind = or_integer d.kind }

abbrev pub var_of : Declared → VarDecl
var_of d = record { name = d.name; kind = or_integer d.kind; first = d.first }

abbrev pub values_by : List Declared → List Declared → List Declared → DeclaredValues
values_by ins outs vars = record { ins = map named_of ins; outs = map named_of outs; vars = map var_of vars }

-- ---- the meanings of the names
abbrev pub in_entry : ℕ × Declared → DeclaredName
in_entry (n, d) = record { name = d.name; kind = d.kind; meaning = InPort n }

abbrev pub out_entry : ℕ × Declared → DeclaredName
out_entry (n, d) = record { name = d.name; kind = d.kind; meaning = OutPort n }

abbrev pub variable_entry : ℕ × Declared → DeclaredName
variable_entry (n, d) = record { name = d.name; kind = d.kind; meaning = VariableNumber n }

abbrev pub scope_by : List Declared → List Declared → List Declared → Scope
scope_by ins outs vars =
    record {
      entries =
          map in_entry (enumerate_from 0 ins) ++ map out_entry (enumerate_from 0 outs)
          ++ map variable_entry (enumerate_from 0 vars);
      next = length vars;
    }

-- ---- over the ports of an implementation's type, and the variables of its behaviour
abbrev pub values_of : PackageTree ℕ → Implementation ℕ → AnnexTree ℕ → DeclaredValues
values_of tree x annex = values_by (ins_in (ports_of tree x)) (outs_in (ports_of tree x)) (variables_of annex)

abbrev pub scope_of : PackageTree ℕ → Implementation ℕ → AnnexTree ℕ → Scope
scope_of tree x annex = scope_by (ins_in (ports_of tree x)) (outs_in (ports_of tree x)) (variables_of annex)
