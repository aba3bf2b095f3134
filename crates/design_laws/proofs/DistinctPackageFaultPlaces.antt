-- Of the possible faults in the names of a package, at most one is at each position.
use Rattle.std.proofs.Common.{ℕ, List, [], ◌∷◌, ◌++◌, Contains}
use Rattle.std.specs.Prelude.{flat_map}
use Rattle.std.proofs.lemmas.List.Elements.{Contains-append_left}
use Rattle.aadl_tree.specs.declared.mark.Mark.TheVariants as k
use Rattle.aadl_tree.specs.Terminals.{mark, PlainTerminal}
use Rattle.aadl_tree.specs.SpellingParts.{SpellingPart, token, plain, parts_if, behind, feature_section}
use Rattle.aadl_tree.specs.SpellingParts.{subcomponent_section}
use Rattle.aadl_tree.specs.SpellingParts.{connection_section, property_section}
use Rattle.aadl_tree.specs.Names.{Identifier, Reference, identifier_parts, qualifier_parts, name_parts, reference_parts}
use Rattle.aadl_tree.specs.Values.{associations_parts}
use Rattle.aadl_tree.specs.Annexes.{AnnexTree, annex_parts}
use Rattle.aadl_tree.specs.Declarations.{Feature, Subcomponent, ConnectionEnd, Connection, TypeDeclaration}
use Rattle.aadl_tree.specs.Declarations.{Implementation, Declaration, type, implementation, PackageTree, category_mark}
use Rattle.aadl_tree.specs.Declarations.{direction_mark, feature_parts, subcomponent_parts, end_parts, connection_parts}
use Rattle.aadl_tree.specs.Declarations.{ending_parts, type_parts, implementation_name_parts, implementation_parts}
use Rattle.aadl_tree.specs.Declarations.{declaration_parts, with_parts, package_parts}
use Rattle.aadl_names.specs.declared.fault.PackageFault.TheVariants.{Unknown, Twice}
use Rattle.aadl_names.specs.QualifiedNameSpellings.{spelled_reference, spelled_implementation, spelled_end}
use Rattle.aadl_names.specs.PackageNameFaults.{behaviour_faults, reference_at, unknown_reference, unknown_end}
use Rattle.aadl_names.proofs.ListMembers.{is_here}
use Rattle.aadl_names.specs.proof.PlaceOrder.{places_of}
use Rattle.design_laws.proofs.DistinctFaultPlaces.{OnePerPlace, clear_none, clear_one, clear_front, clear_back}
use Rattle.design_laws.proofs.DistinctFaultPlaces.{clear_tail}
use Rattle.design_laws.proofs.DistinctFaultPlaces.{clear_section, clear_append, clear_flat}
use Rattle.design_laws.proofs.PossibleNameFaults.{of_feature, of_subcomponent, of_connection, of_annex, none_of}
use Rattle.design_laws.proofs.PossibleNameFaults.{of_type, of_implementation, of_declaration, possible}
use Rattle.design_laws.proofs.DistinctAnnexFaultPlaces.{identifier_clear, associations_clear, properties_clear}
use Rattle.design_laws.proofs.DistinctAnnexFaultPlaces.{transitions_of, behaviour_clear, annex_clear}

-- ---- the references of a subcomponent and of a connection
-- the place of a reference is the place of its first word
begins : (rest : List (SpellingPart ℕ)) (name : Identifier ℕ) (qualifiers : List (Identifier ℕ))
    → Contains (places_of (flat_map qualifier_parts qualifiers ++ (identifier_parts name ++ rest)))
    (elim qualifiers as (λ _. ℕ) [ [] ↦ name.at | y ∷ ys ↦ y.at ])
begins rest name [] = Contains-append_left (name.at ∷ []) (places_of rest) name.at (is_here name.at)
begins rest name (y ∷ ys) = Contains-append_left (y.at ∷ []) _ y.at (is_here y.at)

reference_clear : (x : Reference ℕ) → OnePerPlace (reference_parts x) (unknown_reference x)
reference_clear x = clear_one (reference_parts x) (Unknown (spelled_reference x) (reference_at x))
    (begins (parts_if (behind k.Dot identifier_parts) x.implementation) x.type_name x.qualifiers)

end_clear : (x : ConnectionEnd ℕ) → OnePerPlace (end_parts x) (unknown_end x)
end_clear x = clear_one (end_parts x) (Unknown (spelled_end x) x.first.at)
    (Contains-append_left (x.first.at ∷ []) (places_of (parts_if (behind k.Dot identifier_parts) x.second)) x.first.at
    (is_here x.first.at))

-- ---- the members of a declaration
feature_clear : (x : Feature ℕ) → OnePerPlace (feature_parts x) (of_feature x)
feature_clear x =
    clear_append (identifier_clear x.name)
    (clear_tail {p = plain k.Colon} (clear_tail {p = plain (direction_mark x.direction)}
    (clear_tail {p = plain k.Data} (clear_tail {p = plain k.Port} (clear_back (parts_if reference_parts x.data_type)
    (clear_front (plain k.Semicolon ∷ []) (properties_clear x.properties)))))))

subcomponent_clear : (x : Subcomponent ℕ) → OnePerPlace (subcomponent_parts x) (of_subcomponent x)
subcomponent_clear x =
    clear_append (identifier_clear x.name)
    (clear_tail {p = plain k.Colon} (clear_tail {p = plain (category_mark x.category)}
    (clear_append (reference_clear x.classifier)
    (clear_front (plain k.Semicolon ∷ []) (properties_clear x.properties)))))

connection_clear : (x : Connection ℕ) → OnePerPlace (connection_parts x) (of_connection x)
connection_clear x =
    clear_append (identifier_clear x.name) (clear_tail {p = plain k.Colon} (clear_tail {p = plain k.Port}
    (clear_append (end_clear x.source) (clear_tail {p = plain k.Arrow} (clear_append (end_clear x.target)
    (clear_front (plain k.Semicolon ∷ []) (properties_clear x.properties)))))))

-- ---- declarations
heading_clear : (kind : PlainTerminal) (name : List ℕ) (at : ℕ)
    → OnePerPlace (token kind (at ∷ []) ∷ []) (Twice name at ∷ [])
heading_clear kind name at = clear_one (token kind (at ∷ []) ∷ []) (Twice name at) (is_here at)

no_transitions : (x : AnnexTree ℕ) → OnePerPlace (transitions_of x) []
no_transitions x = clear_none (transitions_of x)

type_clear : (x : TypeDeclaration ℕ) → OnePerPlace (type_parts x) (of_type x)
type_clear x =
    clear_append (heading_clear (mark (category_mark x.category)) x.name.spelling x.at)
    (clear_back (identifier_parts x.name)
    (clear_append (clear_section feature_section (flat_map feature_parts x.features)
    (clear_flat feature_parts of_feature feature_clear x.features))
    (clear_append (clear_section property_section (associations_parts x.properties) (associations_clear x.properties))
    (clear_front (ending_parts (identifier_parts x.end_name))
    (clear_flat annex_parts (of_annex none_of) (annex_clear none_of no_transitions) x.annexes)))))

implementation_clear : (tree : PackageTree ℕ) (x : Implementation ℕ)
    → OnePerPlace (implementation_parts x) (of_implementation tree x)
implementation_clear tree x =
    clear_append (heading_clear (mark (category_mark x.category)) (spelled_implementation x.name) x.at)
    (clear_tail {p = plain k.Implementation}
    (clear_back (implementation_name_parts x.name)
    (clear_append (clear_section subcomponent_section (flat_map subcomponent_parts x.subcomponents)
    (clear_flat subcomponent_parts of_subcomponent subcomponent_clear x.subcomponents))
    (clear_append (clear_section connection_section (flat_map connection_parts x.connections)
    (clear_flat connection_parts of_connection connection_clear x.connections))
    (clear_append (clear_section property_section (associations_parts x.properties) (associations_clear x.properties))
    (clear_front (ending_parts (implementation_name_parts x.end_name))
    (clear_flat annex_parts (of_annex (behaviour_faults tree x))
    (annex_clear (behaviour_faults tree x) (behaviour_clear tree x)) x.annexes)))))))

declaration_clear : (tree : PackageTree ℕ) (x : Declaration ℕ)
    → OnePerPlace (declaration_parts x) (of_declaration tree x)
declaration_clear tree (type x) = type_clear x
declaration_clear tree (implementation x) = implementation_clear tree x

pub possible_clear : (tree : PackageTree ℕ) → OnePerPlace (package_parts tree) (possible tree)
possible_clear tree =
    clear_tail {p = plain k.Package} (clear_back (name_parts tree.name) (clear_tail {p = plain k.Public}
    (clear_back (flat_map with_parts tree.withs) (clear_front (ending_parts (name_parts tree.end_name))
    (clear_flat declaration_parts (of_declaration tree) (declaration_clear tree) tree.declarations)))))
