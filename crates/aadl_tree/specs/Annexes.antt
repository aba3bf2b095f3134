-- Annexes and behaviours as plain trees, and the parts that spell them.
use Rattle.std.specs.Prelude.{ℕ, Bool, List, [], ◌∷◌, ◌++◌, flat_map, Option}
use Rattle.aadl_tree.specs.declared.mark.Mark.{Mark}
use Rattle.aadl_tree.specs.Terminals.{mark, unread}
use Rattle.aadl_tree.specs.SpellingParts.{SpellingPart, token, plain, marked_if, parts_if}
use Rattle.aadl_tree.specs.Names.{Identifier, Identifiers, Reference, identifier_parts, identifiers_parts}
use Rattle.aadl_tree.specs.Names.{reference_parts}
use Rattle.aadl_tree.specs.Values.{Associations, properties_parts}
use Rattle.aadl_tree.specs.Expressions.{Expression, expression_parts}
use Rattle.aadl_tree.specs.Actions.{Block, block_parts}
use Rattle.aadl_tree.specs.declared.mark.Mark.TheVariants as k

pub record VariableDeclaration (P : Type 0) : Type 0 where
  pub names : Identifiers P
  pub data_type : Reference P
  pub properties : Associations P

pub record StateDeclaration (P : Type 0) : Type 0 where
  pub names : Identifiers P
  pub initial : Bool
  pub complete : Bool

pub data Guard (P : Type 0) : Type 0 where
  dispatch : Guard P
  otherwise : Guard P
  when : Expression P → Guard P

pub record Transition (P : Type 0) : Type 0 where
  pub label : Option (Identifier P)
  pub source : Identifier P
  pub guard : Option (Guard P)
  pub target : Identifier P
  pub effect : Option (Block P)

pub record AnnexTree (P : Type 0) : Type 0 where
  pub variables : Option (List (VariableDeclaration P))
  pub states : Option (List (StateDeclaration P))
  pub transitions : Option (List (Transition P))

pub data AnnexContent (P : Type 0) : Type 0 where
  foreign : List ℕ → AnnexContent P
  behaviour : AnnexTree P → AnnexContent P

pub record Annex (P : Type 0) : Type 0 where
  pub at : P
  pub language : Identifier P
  pub content : AnnexContent P

-- id { "," id } ":" reference [ properties ] ";"
abbrev pub variable_parts : {P : Type 0} → VariableDeclaration P → List (SpellingPart P)
variable_parts x =
    identifiers_parts x.names
    ++ (plain k.Colon ∷ (reference_parts x.data_type ++ (properties_parts x.properties ++ plain k.Semicolon ∷ [])))

-- id { "," id } ":" [ "initial" ] [ "complete" ] "state" ";"
abbrev pub state_parts : {P : Type 0} → StateDeclaration P → List (SpellingPart P)
state_parts x =
    identifiers_parts x.names
    ++ (plain k.Colon ∷ (marked_if k.Initial x.initial
    ++ (marked_if k.Complete x.complete ++ (plain k.State ∷ (plain k.Semicolon ∷ [])))))

abbrev pub guard_parts : {P : Type 0} → Guard P → List (SpellingPart P)
guard_parts dispatch = plain k.On ∷ (plain k.Dispatch ∷ [])
guard_parts otherwise = plain k.Otherwise ∷ []
guard_parts (when e) = expression_parts e

-- id ":"
abbrev pub label_parts : {P : Type 0} → Identifier P → List (SpellingPart P)
label_parts x = identifier_parts x ++ plain k.Colon ∷ []

-- [ id ":" ] id "-[" [ guard ] "]->" id [ block ] ";"
abbrev pub transition_parts : {P : Type 0} → Transition P → List (SpellingPart P)
transition_parts x =
    parts_if label_parts x.label
    ++ (identifier_parts x.source ++ (plain k.GuardOpen ∷ (parts_if guard_parts x.guard ++ (plain k.GuardClose
    ∷ (identifier_parts x.target ++ (parts_if block_parts x.effect ++ plain k.Semicolon ∷ []))))))

-- a keyword of the annex, and the declarations after it
abbrev pub declared_parts : {P A : Type 0} → Mark → (A → List (SpellingPart P)) → List A → List (SpellingPart P)
declared_parts m parts xs = plain m ∷ flat_map parts xs

-- [ "variables" { variable } ] [ "states" { state } ] [ "transitions" { transition } ]
abbrev pub annex_tree_parts : {P : Type 0} → AnnexTree P → List (SpellingPart P)
annex_tree_parts x =
    parts_if (declared_parts k.Variables variable_parts) x.variables
    ++ (parts_if (declared_parts k.States state_parts) x.states
    ++ parts_if (declared_parts k.Transitions transition_parts) x.transitions)

abbrev pub content_parts : {P : Type 0} → AnnexContent P → List (SpellingPart P)
content_parts (foreign bytes) = token (unread bytes) [] ∷ []
content_parts (behaviour x) = plain k.AnnexOpen ∷ (annex_tree_parts x ++ plain k.AnnexClose ∷ [])

-- "annex" id ( unread | "{**" behaviour "**}" ) ";"
abbrev pub annex_parts : {P : Type 0} → Annex P → List (SpellingPart P)
annex_parts x =
    token (mark k.Annex) (x.at ∷ [])
    ∷ (identifier_parts x.language ++ (content_parts x.content ++ plain k.Semicolon ∷ []))
