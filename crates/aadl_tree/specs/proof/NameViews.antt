-- The plain trees of names, their models. `place` maps each place.
use Rattle.std.specs.Prelude.{ℕ, map, option_map}
use Rattle.aadl_tree.specs.Names.{Identifier, Name, Path, Identifiers, Reference}
use Rattle.aadl_tree.specs.declared.names.Identifier as source
use Rattle.aadl_tree.specs.declared.names.Name as source_name
use Rattle.aadl_tree.specs.declared.names.Path as source_path
use Rattle.aadl_tree.specs.declared.names.Identifiers as source_identifiers
use Rattle.aadl_tree.specs.declared.names.Reference as source_reference

abbrev pub identifier_view : {P : Type 0} → (ℕ → P) → source.Identifier → Identifier P
identifier_view place x = record { at = place x.at; spelling = x.spelling }

abbrev pub name_view : {P : Type 0} → (ℕ → P) → source_name.Name → Name P
name_view place x = record { first = identifier_view place x.first; rest = map (identifier_view place) x.rest.items }

abbrev pub path_view : {P : Type 0} → (ℕ → P) → source_path.Path → Path P
path_view place x = record { first = identifier_view place x.first; rest = map (identifier_view place) x.rest.items }

abbrev pub identifiers_view : {P : Type 0} → (ℕ → P) → source_identifiers.Identifiers → Identifiers P
identifiers_view place x =
    record { first = identifier_view place x.first; rest = map (identifier_view place) x.rest.items }

abbrev pub reference_view : {P : Type 0} → (ℕ → P) → source_reference.Reference → Reference P
reference_view place x =
    record {
      qualifiers = map (identifier_view place) x.qualifiers.items;
      type_name = identifier_view place x.type_name;
      implementation = option_map (identifier_view place) x.implementation;
    }
