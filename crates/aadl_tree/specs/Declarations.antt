-- Types, implementations and their members as plain trees, and the parts that spell them.
use Rattle.std.specs.Prelude.{List, [], ◌∷◌, ◌++◌, flat_map, Option}
use Rattle.aadl_tree.specs.declared.mark.Mark.{Mark}
use Rattle.aadl_tree.specs.declared.declarations.Category.{Category}
use Rattle.aadl_tree.specs.declared.declarations.Direction.{Direction}
use Rattle.aadl_tree.specs.Terminals.{mark}
use Rattle.aadl_tree.specs.SpellingParts.{SpellingPart, token, may, Section, feature_section, subcomponent_section}
use Rattle.aadl_tree.specs.SpellingParts.{connection_section, property_section, section_mark, empty_section, plain}
use Rattle.aadl_tree.specs.SpellingParts.{parts_if, behind, chained}
use Rattle.aadl_tree.specs.Names.{Identifier, Name, Reference, identifier_parts, name_parts, reference_parts}
use Rattle.aadl_tree.specs.Values.{Associations, associations_parts, properties_parts}
use Rattle.aadl_tree.specs.Annexes.{Annex, annex_parts}
use Rattle.aadl_tree.specs.declared.mark.Mark.TheVariants as k
use Rattle.aadl_tree.specs.declared.declarations.Category.TheVariants as categories
use Rattle.aadl_tree.specs.declared.declarations.Direction.TheVariants as directions

pub record With (P : Type 0) : Type 0 where
  pub first : Name P
  pub rest : List (Name P)

pub record Feature (P : Type 0) : Type 0 where
  pub name : Identifier P
  pub direction : Direction
  pub data_type : Option (Reference P)
  pub properties : Associations P

pub record Subcomponent (P : Type 0) : Type 0 where
  pub name : Identifier P
  pub category : Category
  pub classifier : Reference P
  pub properties : Associations P

pub record ConnectionEnd (P : Type 0) : Type 0 where
  pub first : Identifier P
  pub second : Option (Identifier P)

pub record Connection (P : Type 0) : Type 0 where
  pub name : Identifier P
  pub source : ConnectionEnd P
  pub target : ConnectionEnd P
  pub properties : Associations P

pub record TypeDeclaration (P : Type 0) : Type 0 where
  pub at : P
  pub category : Category
  pub name : Identifier P
  pub features : List (Feature P)
  pub properties : Associations P
  pub annexes : List (Annex P)
  pub end_name : Identifier P

pub record ImplementationName (P : Type 0) : Type 0 where
  pub component_type : Identifier P
  pub implementation : Identifier P

pub record Implementation (P : Type 0) : Type 0 where
  pub at : P
  pub category : Category
  pub name : ImplementationName P
  pub subcomponents : List (Subcomponent P)
  pub connections : List (Connection P)
  pub properties : Associations P
  pub annexes : List (Annex P)
  pub end_name : ImplementationName P

pub data Declaration (P : Type 0) : Type 0 where
  type : TypeDeclaration P → Declaration P
  implementation : Implementation P → Declaration P

pub record PackageTree (P : Type 0) : Type 0 where
  pub name : Name P
  pub withs : List (With P)
  pub declarations : List (Declaration P)
  pub end_name : Name P

abbrev pub category_mark : Category → Mark
category_mark categories.System = k.System
category_mark categories.Process = k.Process
category_mark categories.Thread = k.Thread

abbrev pub direction_mark : Direction → Mark
direction_mark directions.In = k.In
direction_mark directions.Out = k.Out

-- A section: its keyword and its items. If it has no items, a text may contain `none ;` instead.
abbrev pub section_parts : {P : Type 0} → Section → List (SpellingPart P) → List (SpellingPart P)
section_parts section [] = may (empty_section section) ∷ []
section_parts section (p ∷ ps) = plain (section_mark section) ∷ (p ∷ ps)

-- id ":" ( "in" | "out" ) "data" "port" [ reference ] [ properties ] ";"
abbrev pub feature_parts : {P : Type 0} → Feature P → List (SpellingPart P)
feature_parts x =
    identifier_parts x.name ++ (plain k.Colon ∷ (plain (direction_mark x.direction) ∷ (plain k.Data ∷ (plain k.Port
    ∷ (parts_if reference_parts x.data_type ++ (properties_parts x.properties ++ plain k.Semicolon ∷ []))))))

-- id ":" category reference [ properties ] ";"
abbrev pub subcomponent_parts : {P : Type 0} → Subcomponent P → List (SpellingPart P)
subcomponent_parts x =
    identifier_parts x.name ++ (plain k.Colon
    ∷ (plain (category_mark x.category)
    ∷ (reference_parts x.classifier ++ (properties_parts x.properties ++ plain k.Semicolon ∷ []))))

-- id [ "." id ]
abbrev pub end_parts : {P : Type 0} → ConnectionEnd P → List (SpellingPart P)
end_parts x = identifier_parts x.first ++ parts_if (behind k.Dot identifier_parts) x.second

-- id ":" "port" end "->" end [ properties ] ";"
abbrev pub connection_parts : {P : Type 0} → Connection P → List (SpellingPart P)
connection_parts x =
    identifier_parts x.name ++ (plain k.Colon
    ∷ (plain k.Port ∷ (end_parts x.source
    ++ (plain k.Arrow ∷ (end_parts x.target ++ (properties_parts x.properties ++ plain k.Semicolon ∷ []))))))

-- "end" id ";"
abbrev pub ending_parts : {P : Type 0} → List (SpellingPart P) → List (SpellingPart P)
ending_parts name = plain k.End ∷ (name ++ plain k.Semicolon ∷ [])

-- category id [ features ] [ properties ] { annex } "end" id ";"
abbrev pub type_parts : {P : Type 0} → TypeDeclaration P → List (SpellingPart P)
type_parts x =
    token (mark (category_mark x.category)) (x.at ∷ [])
    ∷ (identifier_parts x.name ++ (section_parts feature_section (flat_map feature_parts x.features)
    ++ (section_parts property_section (associations_parts x.properties)
    ++ (flat_map annex_parts x.annexes ++ ending_parts (identifier_parts x.end_name)))))

-- id "." id
abbrev pub implementation_name_parts : {P : Type 0} → ImplementationName P → List (SpellingPart P)
implementation_name_parts x = identifier_parts x.component_type ++ (plain k.Dot ∷ identifier_parts x.implementation)

-- category "implementation" id "." id [ subcomponents ] [ connections ] [ properties ] { annex } "end" id "." id ";"
abbrev pub implementation_parts : {P : Type 0} → Implementation P → List (SpellingPart P)
implementation_parts x =
    token (mark (category_mark x.category)) (x.at ∷ []) ∷ (plain k.Implementation ∷ (implementation_name_parts x.name
    ++ (section_parts subcomponent_section (flat_map subcomponent_parts x.subcomponents)
    ++ (section_parts connection_section (flat_map connection_parts x.connections)
    ++ (section_parts property_section (associations_parts x.properties)
    ++ (flat_map annex_parts x.annexes ++ ending_parts (implementation_name_parts x.end_name)))))))

abbrev pub declaration_parts : {P : Type 0} → Declaration P → List (SpellingPart P)
declaration_parts (type x) = type_parts x
declaration_parts (implementation x) = implementation_parts x

-- "with" name { "," name } ";"
abbrev pub with_parts : {P : Type 0} → With P → List (SpellingPart P)
with_parts x = plain k.With ∷ (chained k.Comma name_parts x.first x.rest ++ plain k.Semicolon ∷ [])

-- "package" name "public" { with } { declaration } "end" name ";"
abbrev pub package_parts : {P : Type 0} → PackageTree P → List (SpellingPart P)
package_parts x =
    plain k.Package ∷ (name_parts x.name
    ++ (plain k.Public ∷ (flat_map with_parts x.withs
    ++ (flat_map declaration_parts x.declarations ++ ending_parts (name_parts x.end_name)))))
