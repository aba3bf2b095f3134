-- Of the possible faults in the names of annexes, at most one is at each position.
use Rattle.std.proofs.Common.{ℕ, Bool, List, [], ◌∷◌, Option, Some, None}
use Rattle.std.specs.Prelude.{flat_map}
use Rattle.std.proofs.lemmas.List.Elements.{Contains-append_left}
use Rattle.aadl_tree.specs.declared.mark.Mark.{Mark}
use Rattle.aadl_tree.specs.declared.mark.Mark.TheVariants as k
use Rattle.aadl_tree.specs.Terminals.{mark}
use Rattle.aadl_tree.specs.SpellingParts.{SpellingPart, token, plain, parts_if, behind}
use Rattle.aadl_tree.specs.Names.{Identifier, Identifiers, identifier_parts, identifiers_parts, reference_parts}
use Rattle.aadl_tree.specs.Names.{listed_in}
use Rattle.aadl_tree.specs.Values.{Association, association, Associations, no_associations, associate}
use Rattle.aadl_tree.specs.Values.{association_parts, associations_parts, properties_parts}
use Rattle.aadl_tree.specs.Actions.{Block, block_parts}
use Rattle.aadl_tree.specs.Annexes.{VariableDeclaration, StateDeclaration, Guard, dispatch, otherwise, when, Transition}
use Rattle.aadl_tree.specs.Annexes.{AnnexTree, AnnexContent, foreign, behaviour, Annex, variable_parts, state_parts}
use Rattle.aadl_tree.specs.Annexes.{guard_parts, label_parts, transition_parts, declared_parts, annex_tree_parts}
use Rattle.aadl_tree.specs.Annexes.{content_parts, annex_parts}
use Rattle.aadl_tree.specs.Declarations.{Implementation, PackageTree}
use Rattle.aadl_names.specs.declared.fault.PackageFault.{PackageFault}
use Rattle.aadl_names.specs.declared.fault.PackageFault.TheVariants.{Unknown, Twice}
use Rattle.aadl_names.specs.QualifiedNameSpellings.{spelled_name}
use Rattle.aadl_names.specs.BehaviourAnnexes.{states_of}
use Rattle.aadl_names.specs.NameUseFaults.{NameRoles}
use Rattle.aadl_names.specs.PackageNameFaults.{is_among, known_in, state_uses, guard_uses, effect_uses, transition_uses}
use Rattle.aadl_names.specs.PackageNameFaults.{behaviour_faults}
use Rattle.aadl_names.proofs.ListMembers.{is_here}
use Rattle.design_laws.proofs.DistinctFaultPlaces.{OnePerPlace, clear_none, clear_one, clear_front, clear_back}
use Rattle.design_laws.proofs.DistinctFaultPlaces.{clear_tail}
use Rattle.design_laws.proofs.DistinctFaultPlaces.{clear_append, clear_flat, clear_unless, clear_four, clear_turned}
use Rattle.design_laws.proofs.DistinctExpressionFaultPlaces.{expression_clear}
use Rattle.design_laws.proofs.DistinctActionFaultPlaces.{block_clear}
use Rattle.design_laws.proofs.PossibleNameFaults.{of_identifier, of_identifiers, of_association, of_associations}
use Rattle.design_laws.proofs.PossibleNameFaults.{of_variable, of_state, of_tree, of_content, of_annex}

-- ---- names and properties
pub identifier_clear : (x : Identifier ℕ) → OnePerPlace (identifier_parts x) (of_identifier x)
identifier_clear x = clear_one (identifier_parts x) (Twice x.spelling x.at) (is_here x.at)

identifiers_clear : (x : Identifiers ℕ) → OnePerPlace (identifiers_parts x) (of_identifiers x)
identifiers_clear x =
    clear_append (identifier_clear x.first) (clear_flat (behind k.Comma identifier_parts) of_identifier
    (λ y. clear_tail {p = plain k.Comma} (identifier_clear y)) x.rest)

association_clear : (x : Association ℕ) → OnePerPlace (association_parts x) (of_association x)
association_clear (association name operator constant v paths) =
    clear_one (association_parts (association name operator constant v paths)) (Twice (spelled_name name) name.first.at)
    (Contains-append_left (name.first.at ∷ []) _ name.first.at (is_here name.first.at))

pub associations_clear : (xs : Associations ℕ) → OnePerPlace (associations_parts xs) (of_associations xs)
associations_clear no_associations = clear_none []
associations_clear (associate x xs) = clear_append (association_clear x) (associations_clear xs)

pub properties_clear : (xs : Associations ℕ) → OnePerPlace (properties_parts xs) (of_associations xs)
properties_clear no_associations = clear_none []
properties_clear (associate x xs) =
    clear_tail {p = plain k.BraceOpen} (clear_front (plain k.BraceClose ∷ []) (associations_clear (associate x xs)))

-- ---- variables and states
variable_clear : (x : VariableDeclaration ℕ) → OnePerPlace (variable_parts x) (of_variable x)
variable_clear x =
    clear_append (identifiers_clear x.names) (clear_tail {p = plain k.Colon} (clear_back (reference_parts x.data_type)
    (clear_front (plain k.Semicolon ∷ []) (properties_clear x.properties))))

state_clear : (x : StateDeclaration ℕ) → OnePerPlace (state_parts x) (of_state x)
state_clear x = clear_front (plain k.Colon ∷ _) (identifiers_clear x.names)

declared_clear : {V : Type 0} (m : Mark) (f : V → List (SpellingPart ℕ)) (g : V → List PackageFault)
    → ((v : V) → OnePerPlace (f v) (g v)) → (o : Option (List V))
    → OnePerPlace (parts_if (declared_parts m f) o) (flat_map g (listed_in o))
declared_clear m f g each None = clear_none []
declared_clear m f g each (Some vs) = clear_tail {p = plain m} (clear_flat f g each vs)

-- ---- transitions
module _ (is_state : List ℕ → Bool) (known : NameRoles) where
  state_use_clear : (x : Identifier ℕ) → OnePerPlace (identifier_parts x) (state_uses is_state x)
  state_use_clear x =
      clear_unless (is_state x.spelling) (clear_one (identifier_parts x) (Unknown x.spelling x.at) (is_here x.at))

  guard_clear : (x : Option (Guard ℕ)) → OnePerPlace (parts_if guard_parts x) (guard_uses known x)
  guard_clear None = clear_none []
  guard_clear (Some dispatch) = clear_none (guard_parts dispatch)
  guard_clear (Some otherwise) = clear_none (guard_parts otherwise)
  guard_clear (Some (when e)) = expression_clear known e

  effect_clear : (x : Option (Block ℕ)) → OnePerPlace (parts_if block_parts x) (effect_uses known x)
  effect_clear None = clear_none []
  effect_clear (Some x) = block_clear known x

  transition_clear : (x : Transition ℕ) → OnePerPlace (transition_parts x) (transition_uses is_state known x)
  transition_clear x =
      let source = state_uses is_state x.source in
      let target = state_uses is_state x.target in
      let guard = guard_uses known x.guard in
      let effect = effect_uses known x.effect in
      clear_back (parts_if label_parts x.label)
      (clear_four source target guard effect (clear_turned source target guard effect
      (clear_append (state_use_clear x.source) (clear_tail {p = plain k.GuardOpen} (clear_append (guard_clear x.guard)
      (clear_tail {p = plain k.GuardClose}
      (clear_append (state_use_clear x.target) (clear_front (plain k.Semicolon ∷ []) (effect_clear x.effect)))))))))

abbrev pub transitions_of : AnnexTree ℕ → List (SpellingPart ℕ)
transitions_of x = parts_if (declared_parts k.Transitions transition_parts) x.transitions

pub behaviour_clear : (tree : PackageTree ℕ) (x : Implementation ℕ) (annex : AnnexTree ℕ)
    → OnePerPlace (transitions_of annex) (behaviour_faults tree x annex)
unfolding behaviour_faults
behaviour_clear tree x annex =
    declared_clear k.Transitions transition_parts (transition_uses (is_among (states_of annex)) (known_in tree x annex))
    (transition_clear (is_among (states_of annex)) (known_in tree x annex)) annex.transitions

-- ---- annexes
module _ (transitions : AnnexTree ℕ → List PackageFault)
    (each : (x : AnnexTree ℕ) → OnePerPlace (transitions_of x) (transitions x)) where
  tree_clear : (x : AnnexTree ℕ) → OnePerPlace (annex_tree_parts x) (of_tree transitions x)
  tree_clear x = clear_append (declared_clear k.Variables variable_parts of_variable variable_clear x.variables)
      (clear_append (declared_clear k.States state_parts of_state state_clear x.states) (each x))

  content_clear : (x : AnnexContent ℕ) → OnePerPlace (content_parts x) (of_content transitions x)
  content_clear (foreign bytes) = clear_none (content_parts (foreign bytes))
  content_clear (behaviour x) =
      clear_tail {p = plain k.AnnexOpen} (clear_front (plain k.AnnexClose ∷ []) (tree_clear x))

  pub annex_clear : (x : Annex ℕ) → OnePerPlace (annex_parts x) (of_annex transitions x)
  annex_clear x = clear_tail {p = token (mark k.Annex) (x.at ∷ [])} (clear_back (identifier_parts x.language)
      (clear_front (plain k.Semicolon ∷ []) (content_clear x.content)))
