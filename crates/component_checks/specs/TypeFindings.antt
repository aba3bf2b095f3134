-- The violations of the types of ports, variables and initial values.
use Rattle.std.specs.Prelude.{ℕ, Bool, not, ◌||◌, List, [], ◌++◌, flat_map, codes, Option, Some, None, if◌then◌else◌}
use Rattle.std.specs.Option.{is_some}
use Rattle.std.specs.Str.{bytes_eq}
use Rattle.pals_base.specs.declared.behaviour.Kind.{Kind}
use Rattle.pals_base.specs.declared.behaviour.Kind.TheVariants.{Integer, Boolean}
use Rattle.aadl_tree.specs.Names.{Identifier, identifiers, listed_in}
use Rattle.aadl_tree.specs.Values.{Association}
use Rattle.aadl_tree.specs.Declarations.{Feature}
use Rattle.aadl_tree.specs.Annexes.{VariableDeclaration, AnnexTree}
use Rattle.aadl_names.specs.declared.recognised_properties.PropertyName.TheVariants.{Initial}
use Rattle.aadl_names.specs.PackageNameFaults.{goes_in}
use Rattle.aadl_names.specs.RecognisedProperties.{association_at, association_value, association_named, name_of}
use Rattle.aadl_names.specs.PropertyValueShapes.{only_text}
use Rattle.annex_resolve.specs.declared.violation.Violation.{Violation}
use Rattle.annex_resolve.specs.declared.violation.TheConstants.{BAD_TYPE}
use Rattle.annex_resolve.specs.FindingRecords.{found_if}
use Rattle.annex_resolve.specs.ExpressionTypesAndFindings.{kind_named, kind_in, misfit}

abbrev pub is_in : Feature ℕ → Bool
is_in f = goes_in (Some f.direction)

-- ---- a port's type is Integer or Boolean
abbrev pub port_findings : Feature ℕ → List Violation
port_findings p = found_if (not (is_some (kind_in p.data_type))) p.name.at BAD_TYPE []

-- ---- the type of a variable is Integer or Boolean, and its initial value fits the type
abbrev pub name_findings : Option Kind → Identifier ℕ → List Violation
name_findings kind x = found_if (not (is_some kind)) x.at BAD_TYPE []

abbrev pub is_truth : List ℕ → Bool
is_truth text = bytes_eq text (codes "true") || bytes_eq text (codes "false")

-- the type of an initial value, by its text
abbrev pub text_kind : Option (List ℕ) → Option Kind
text_kind None = None
text_kind (Some text) = Some (if is_truth text then Boolean else Integer)

abbrev pub first_findings : Option Kind → Option (Association ℕ) → List Violation
first_findings kind None = []
first_findings kind (Some x) = misfit (association_at x) kind (text_kind (only_text (association_value x)))

abbrev pub variable_findings : VariableDeclaration ℕ → List Violation
variable_findings v =
    flat_map (name_findings (kind_named v.data_type)) (identifiers v.names)
    ++ first_findings (kind_named v.data_type) (association_named v.properties (name_of Initial))

-- all variables of a behaviour
abbrev pub variables_findings : AnnexTree ℕ → List Violation
variables_findings annex = flat_map variable_findings (listed_in annex.variables)
