-- The models of the annexes of a tree.
use Rattle.std.specs.Prelude.{ℕ, map, option_map}
use Rattle.aadl_tree.specs.Annexes.{VariableDeclaration, StateDeclaration, Guard, dispatch, otherwise, when, Transition}
use Rattle.aadl_tree.specs.Annexes.{AnnexTree, AnnexContent, foreign, behaviour, Annex}
use Rattle.aadl_tree.specs.proof.NameViews.{identifier_view, identifiers_view, reference_view}
use Rattle.aadl_tree.specs.proof.ValueViews.{associations_view}
use Rattle.aadl_tree.specs.proof.ExpressionViews.{expression_view}
use Rattle.aadl_tree.specs.proof.ActionViews.{block_view}
use Rattle.aadl_tree.specs.declared.annex.VariableDeclaration as source_variable
use Rattle.aadl_tree.specs.declared.annex.StateDeclaration as source_state
use Rattle.aadl_tree.specs.declared.annex.Guard as source_guard
use Rattle.aadl_tree.specs.declared.annex.Guard.TheVariants as guards
use Rattle.aadl_tree.specs.declared.annex.Transition as source_transition
use Rattle.aadl_tree.specs.declared.annex.AnnexTree as source_tree
use Rattle.aadl_tree.specs.declared.annex.AnnexContent as source_content
use Rattle.aadl_tree.specs.declared.annex.AnnexContent.TheVariants as contents
use Rattle.aadl_tree.specs.declared.annex.Annex as source_annex

abbrev pub variable_view : {P : Type 0} → (ℕ → P) → source_variable.VariableDeclaration → VariableDeclaration P
variable_view place x =
    record {
      names = identifiers_view place x.names;
      data_type = reference_view place x.data_type;
      properties = associations_view place x.properties.items;
    }

abbrev pub state_view : {P : Type 0} → (ℕ → P) → source_state.StateDeclaration → StateDeclaration P
state_view place x = record { names = identifiers_view place x.names; initial = x.initial; complete = x.complete }

abbrev pub guard_view : {P : Type 0} → (ℕ → P) → source_guard.Guard → Guard P
guard_view place guards.Dispatch = dispatch
guard_view place guards.Otherwise = otherwise
guard_view place (guards.When e) = when (expression_view place e)

abbrev pub transition_view : {P : Type 0} → (ℕ → P) → source_transition.Transition → Transition P
transition_view place x =
    record {
      label = option_map (identifier_view place) x.label;
      source = identifier_view place x.source;
      guard = option_map (guard_view place) x.guard;
      target = identifier_view place x.target;
      effect = option_map (block_view place) x.effect;
    }

abbrev pub annex_tree_view : {P : Type 0} → (ℕ → P) → source_tree.AnnexTree → AnnexTree P
annex_tree_view place x =
    record {
      variables = option_map (λ xs. map (variable_view place) xs.items) x.variables;
      states = option_map (λ xs. map (state_view place) xs.items) x.states;
      transitions = option_map (λ xs. map (transition_view place) xs.items) x.transitions;
    }

abbrev pub content_view : {P : Type 0} → (ℕ → P) → source_content.AnnexContent → AnnexContent P
content_view place (contents.Unread bytes) = foreign bytes.items
content_view place (contents.Behaviour x) = behaviour (annex_tree_view place x)

abbrev pub annex_view : {P : Type 0} → (ℕ → P) → source_annex.Annex → Annex P
annex_view place x =
    record { at = place x.at; language = identifier_view place x.language; content = content_view place x.content }
