-- Declarations of annexes: mapping the places of the plain tree gives the plain tree with mapped places. For the law
-- that places can be dropped.
use Rattle.std.proofs.Common.{◌≡◌, ℕ, ◌∙◌, ap, ap₂, refl, List, map, Option, Some, None, option_map, Vec, Global}
use Rattle.aadl_tree.specs.declared.annex.VariableDeclaration as source_variable
use Rattle.aadl_tree.specs.declared.annex.StateDeclaration as source_state
use Rattle.aadl_tree.specs.declared.annex.Guard as source_guard
use Rattle.aadl_tree.specs.declared.annex.Guard.TheVariants as guards
use Rattle.aadl_tree.specs.declared.annex.Transition as source_transition
use Rattle.aadl_tree.specs.declared.annex.AnnexTree as source_tree
use Rattle.aadl_tree.specs.declared.annex.AnnexContent as source_content
use Rattle.aadl_tree.specs.declared.annex.AnnexContent.TheVariants as contents
use Rattle.aadl_tree.specs.declared.annex.Annex as source_annex
use Rattle.aadl_tree.specs.Names as n
use Rattle.aadl_tree.specs.Values as v
use Rattle.aadl_tree.specs.Actions as a
use Rattle.aadl_tree.specs.Annexes as x
use Rattle.aadl_tree.specs.proof.PlaceMaps.{associations_to, block_to, variable_to, state_to, guard_to, transition_to}
use Rattle.aadl_tree.specs.proof.PlaceMaps.{annex_tree_to, content_to, annex_to}
use Rattle.aadl_tree.specs.proof.NameViews.{identifier_view, identifiers_view, reference_view}
use Rattle.aadl_tree.specs.proof.ValueViews.{associations_view}
use Rattle.aadl_tree.specs.proof.ActionViews.{block_view}
use Rattle.aadl_tree.specs.proof.AnnexViews.{variable_view, state_view, guard_view, transition_view, annex_tree_view}
use Rattle.aadl_tree.specs.proof.AnnexViews.{content_view, annex_view}
use Rattle.aadl_tree.proofs.PlaceMaps.Names.{each_tied, perhaps_tied, identifier_perhaps, identifiers_tied}
use Rattle.aadl_tree.proofs.PlaceMaps.Names.{reference_tied}
use Rattle.aadl_tree.proofs.PlaceMaps.Values.{associations_tied}
use Rattle.aadl_tree.proofs.PlaceMaps.Expressions.{expression_tied}
use Rattle.aadl_tree.proofs.PlaceMaps.Actions.{block_tied}

variable_tied : {P Q : Type 0} (f : P → Q) (g : ℕ → P) (t : source_variable.VariableDeclaration)
    → variable_to f (variable_view g t) ≡ variable_view (λ n. f (g n)) t
variable_tied {Q = Q} f g t =
    ap₂ (λ (q : n.Identifiers Q) (r : n.Reference Q). let y : x.VariableDeclaration Q =
    record { names = q; data_type = r; properties = associations_to f (associations_view g t.properties.items) } in
    y) (identifiers_tied f g t.names) (reference_tied f g t.data_type)
    ∙ ap (λ (q : v.Associations Q). let y : x.VariableDeclaration Q =
    record {
      names = identifiers_view (λ n. f (g n)) t.names;
      data_type = reference_view (λ n. f (g n)) t.data_type;
      properties = q;
    } in y) (associations_tied f g t.properties.items)

state_tied : {P Q : Type 0} (f : P → Q) (g : ℕ → P) (t : source_state.StateDeclaration)
    → state_to f (state_view g t) ≡ state_view (λ n. f (g n)) t
state_tied {Q = Q} f g t =
    ap (λ (q : n.Identifiers Q). let y : x.StateDeclaration Q =
    record { names = q; initial = t.initial; complete = t.complete } in y) (identifiers_tied f g t.names)

guard_tied : {P Q : Type 0} (f : P → Q) (g : ℕ → P) (t : source_guard.Guard)
    → guard_to f (guard_view g t) ≡ guard_view (λ n. f (g n)) t
guard_tied f g guards.Dispatch = refl
guard_tied f g guards.Otherwise = refl
guard_tied f g (guards.When t) = ap x.when (expression_tied f g t)

transition_tied : {P Q : Type 0} (f : P → Q) (g : ℕ → P) (t : source_transition.Transition)
    → transition_to f (transition_view g t) ≡ transition_view (λ n. f (g n)) t
transition_tied {Q = Q} f g t =
    ap₂ (λ (q : Option (n.Identifier Q)) (r : Option (x.Guard Q)). let y : x.Transition Q =
    record {
      label = q;
      source = identifier_view (λ n. f (g n)) t.source;
      guard = r;
      target = identifier_view (λ n. f (g n)) t.target;
      effect = option_map (block_to f) (option_map (block_view g) t.effect);
    } in y)
    (identifier_perhaps f g t.label)
    (perhaps_tied (guard_to f) (guard_view g) (guard_view (λ n. f (g n))) (guard_tied f g) t.guard)
    ∙ ap (λ (q : Option (a.Block Q)). let y : x.Transition Q =
    record {
      label = option_map (identifier_view (λ n. f (g n))) t.label;
      source = identifier_view (λ n. f (g n)) t.source;
      guard = option_map (guard_view (λ n. f (g n))) t.guard;
      target = identifier_view (λ n. f (g n)) t.target;
      effect = q;
    } in y)
    (perhaps_tied (block_to f) (block_view g) (block_view (λ n. f (g n))) (block_tied f g) t.effect)

declared_tied : {T A B : Type 0} (to : A → B) (view : T → A) (after : T → B) → ((t : T) → to (view t) ≡ after t)
    → (ts : Option (Vec T Global))
    → option_map (map to) (option_map (λ ys. map view ys.items) ts) ≡ option_map (λ ys. map after ys.items) ts
declared_tied to view after tied None = refl
declared_tied to view after tied (Some ts) = ap Some (each_tied to view after tied ts.items)

annex_tree_tied : {P Q : Type 0} (f : P → Q) (g : ℕ → P) (t : source_tree.AnnexTree)
    → annex_tree_to f (annex_tree_view g t) ≡ annex_tree_view (λ n. f (g n)) t
annex_tree_tied {Q = Q} f g t =
    ap₂ (λ (q : Option (List (x.VariableDeclaration Q))) (r : Option (List (x.StateDeclaration Q))).
    let y : x.AnnexTree Q = record {
      variables = q;
      states = r;
      transitions = option_map (map (transition_to f))
          (option_map (λ ys. map (transition_view g) ys.items) t.transitions);
    } in y)
    (declared_tied (variable_to f) (variable_view g) (variable_view (λ n. f (g n))) (variable_tied f g) t.variables)
    (declared_tied (state_to f) (state_view g) (state_view (λ n. f (g n))) (state_tied f g) t.states)
    ∙ ap (λ (q : Option (List (x.Transition Q))). let y : x.AnnexTree Q =
    record {
      variables = option_map (λ ys. map (variable_view (λ n. f (g n))) ys.items) t.variables;
      states = option_map (λ ys. map (state_view (λ n. f (g n))) ys.items) t.states;
      transitions = q;
    } in y)
    (declared_tied (transition_to f) (transition_view g) (transition_view (λ n. f (g n))) (transition_tied f g)
    t.transitions)

content_tied : {P Q : Type 0} (f : P → Q) (g : ℕ → P) (t : source_content.AnnexContent)
    → content_to f (content_view g t) ≡ content_view (λ n. f (g n)) t
content_tied f g (contents.Unread bytes) = refl
content_tied f g (contents.Behaviour t) = ap x.behaviour (annex_tree_tied f g t)

pub annex_tied : {P Q : Type 0} (f : P → Q) (g : ℕ → P) (t : source_annex.Annex)
    → annex_to f (annex_view g t) ≡ annex_view (λ n. f (g n)) t
annex_tied {Q = Q} f g t =
    ap (λ (q : x.AnnexContent Q). let y : x.Annex Q =
    record { at = f (g t.at); language = identifier_view (λ n. f (g n)) t.language; content = q } in y)
    (content_tied f g t.content)
