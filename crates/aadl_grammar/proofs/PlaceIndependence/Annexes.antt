-- Annexes and behaviours that differ only in their places have the same spelling. For the proof that a text has one
-- tree.
use Rattle.std.proofs.Common.{refl, map}
use Rattle.aadl_tree.specs.declared.mark.Mark.TheVariants as k
use Rattle.aadl_tree.specs.Actions as a
use Rattle.aadl_tree.specs.Annexes as x
use Rattle.aadl_tree.specs.proof.PlaceMaps.{annex_to, annex_tree_to, block_to, content_to, guard_to, identifier_to}
use Rattle.aadl_tree.specs.proof.PlaceMaps.{state_to, transition_to, variable_to}
use Rattle.aadl_grammar.proofs.PlaceIndependence.AlikeParts.{Alike, none, one, both, each, perhaps, marked}
use Rattle.aadl_grammar.proofs.PlaceIndependence.NamesAndValues.{identifiers_alike, reference_alike, properties_alike}
use Rattle.aadl_grammar.proofs.PlaceIndependence.Expressions.{expression_alike}
use Rattle.aadl_grammar.proofs.PlaceIndependence.Actions.{block_alike}

pub variable_alike : {P Q : Type 0} (f : P → Q) (t : x.VariableDeclaration P)
    → Alike f (x.variable_parts t) (x.variable_parts (variable_to f t))
variable_alike f t =
    both (identifiers_alike f t.names)
    (one refl (both (reference_alike f t.data_type) (both (properties_alike f t.properties) (one refl none))))

pub state_alike : {P Q : Type 0} (f : P → Q) (t : x.StateDeclaration P)
    → Alike f (x.state_parts t) (x.state_parts (state_to f t))
state_alike f t =
    both (identifiers_alike f t.names)
    (one refl (both (marked k.Initial t.initial) (both (marked k.Complete t.complete) (one refl (one refl none)))))

pub guard_alike : {P Q : Type 0} (f : P → Q) (t : x.Guard P) → Alike f (x.guard_parts t) (x.guard_parts (guard_to f t))
guard_alike f x.dispatch = one refl (one refl none)
guard_alike f x.otherwise = one refl none
guard_alike f (x.when t) = expression_alike f t

pub transition_alike : {P Q : Type 0} (f : P → Q) (t : x.Transition P)
    → Alike f (x.transition_parts t) (x.transition_parts (transition_to f t))
transition_alike f t =
    both (perhaps x.label_parts x.label_parts (identifier_to f) (λ y. one refl (one refl none)) t.label)
    (one refl (one refl (both (perhaps x.guard_parts x.guard_parts (guard_to f) (guard_alike f) t.guard)
    (one refl (one refl (both (perhaps a.block_parts a.block_parts (block_to f) (block_alike f) t.effect)
    (one refl none)))))))

pub annex_tree_alike : {P Q : Type 0} (f : P → Q) (t : x.AnnexTree P)
    → Alike f (x.annex_tree_parts t) (x.annex_tree_parts (annex_tree_to f t))
annex_tree_alike f t =
    both (perhaps (x.declared_parts k.Variables x.variable_parts) (x.declared_parts k.Variables x.variable_parts)
    (map (variable_to f)) (λ ys.
    one refl (each x.variable_parts x.variable_parts (variable_to f) (variable_alike f) ys)) t.variables)
    (both (perhaps (x.declared_parts k.States x.state_parts) (x.declared_parts k.States x.state_parts)
    (map (state_to f)) (λ ys.
    one refl (each x.state_parts x.state_parts (state_to f) (state_alike f) ys)) t.states)
    (perhaps (x.declared_parts k.Transitions x.transition_parts)
    (x.declared_parts k.Transitions x.transition_parts) (map (transition_to f))
    (λ ys. one refl (each x.transition_parts x.transition_parts (transition_to f)
    (transition_alike f) ys)) t.transitions))

pub content_alike : {P Q : Type 0} (f : P → Q) (t : x.AnnexContent P)
    → Alike f (x.content_parts t) (x.content_parts (content_to f t))
content_alike f (x.foreign t) = one refl none
content_alike f (x.behaviour t) = one refl (both (annex_tree_alike f t) (one refl none))

pub annex_alike : {P Q : Type 0} (f : P → Q) (t : x.Annex P) → Alike f (x.annex_parts t) (x.annex_parts (annex_to f t))
annex_alike f t = one refl (one refl (both (content_alike f t.content) (one refl none)))
