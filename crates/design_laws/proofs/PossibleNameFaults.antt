-- The possible faults in the names of a package, whatever the results of its tests: each declared name may be
-- declared twice, and each reference may be undeclared. The name uses of a behaviour are given as found.
use Rattle.std.proofs.Common.{ℕ, List, [], ◌∷◌, ◌++◌}
use Rattle.std.specs.Prelude.{flat_map}
use Rattle.aadl_tree.specs.Names.{Identifier, Identifiers, identifiers, listed_in}
use Rattle.aadl_tree.specs.Values.{Association, Associations}
use Rattle.aadl_tree.specs.Annexes.{VariableDeclaration, StateDeclaration, AnnexTree, AnnexContent, foreign, behaviour}
use Rattle.aadl_tree.specs.Annexes.{Annex}
use Rattle.aadl_tree.specs.Declarations.{Feature, Subcomponent, Connection, TypeDeclaration, Implementation}
use Rattle.aadl_tree.specs.Declarations.{Declaration, type, implementation, PackageTree}
use Rattle.aadl_names.specs.declared.fault.PackageFault.{PackageFault}
use Rattle.aadl_names.specs.declared.fault.PackageFault.TheVariants.{Twice}
use Rattle.aadl_names.specs.QualifiedNameSpellings.{spelled_implementation}
use Rattle.aadl_names.specs.RecognisedProperties.{listed, association_name, association_at}
use Rattle.aadl_names.specs.PackageNameFaults.{behaviour_faults, unknown_reference, unknown_end}

abbrev pub of_identifier : Identifier ℕ → List PackageFault
of_identifier x = Twice x.spelling x.at ∷ []

abbrev pub of_identifiers : Identifiers ℕ → List PackageFault
of_identifiers x = flat_map of_identifier (identifiers x)

abbrev pub of_association : Association ℕ → List PackageFault
of_association x = Twice (association_name x) (association_at x) ∷ []

abbrev pub of_associations : Associations ℕ → List PackageFault
of_associations xs = flat_map of_association (listed xs)

-- ---- annexes
-- The findings of the transitions are given. A type's annex has none; an implementation's annex has the findings of
-- its behaviour.
abbrev pub of_variable : VariableDeclaration ℕ → List PackageFault
of_variable x = of_identifiers x.names ++ of_associations x.properties

abbrev pub of_state : StateDeclaration ℕ → List PackageFault
of_state x = of_identifiers x.names

abbrev pub of_tree : (AnnexTree ℕ → List PackageFault) → AnnexTree ℕ → List PackageFault
of_tree transitions x =
    flat_map of_variable (listed_in x.variables) ++ (flat_map of_state (listed_in x.states) ++ transitions x)

abbrev pub of_content : (AnnexTree ℕ → List PackageFault) → AnnexContent ℕ → List PackageFault
of_content transitions (foreign bytes) = []
of_content transitions (behaviour x) = of_tree transitions x

abbrev pub of_annex : (AnnexTree ℕ → List PackageFault) → Annex ℕ → List PackageFault
of_annex transitions x = of_content transitions x.content

-- ---- declarations
abbrev pub of_feature : Feature ℕ → List PackageFault
of_feature x = of_identifier x.name ++ of_associations x.properties

abbrev pub of_subcomponent : Subcomponent ℕ → List PackageFault
of_subcomponent x = of_identifier x.name ++ (unknown_reference x.classifier ++ of_associations x.properties)

abbrev pub of_connection : Connection ℕ → List PackageFault
of_connection x =
    of_identifier x.name ++ (unknown_end x.source ++ (unknown_end x.target ++ of_associations x.properties))

abbrev pub none_of : AnnexTree ℕ → List PackageFault
none_of x = []

abbrev pub of_type : TypeDeclaration ℕ → List PackageFault
of_type x = Twice x.name.spelling x.at
    ∷ (flat_map of_feature x.features ++ (of_associations x.properties ++ flat_map (of_annex none_of) x.annexes))

abbrev pub of_implementation : PackageTree ℕ → Implementation ℕ → List PackageFault
of_implementation tree x = Twice (spelled_implementation x.name) x.at ∷ (flat_map of_subcomponent x.subcomponents
    ++ (flat_map of_connection x.connections
    ++ (of_associations x.properties ++ flat_map (of_annex (behaviour_faults tree x)) x.annexes)))

abbrev pub of_declaration : PackageTree ℕ → Declaration ℕ → List PackageFault
of_declaration tree (type x) = of_type x
of_declaration tree (implementation x) = of_implementation tree x

abbrev pub possible : PackageTree ℕ → List PackageFault
possible tree = flat_map (of_declaration tree) tree.declarations
