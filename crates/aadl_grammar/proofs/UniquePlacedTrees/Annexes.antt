-- Annexes and behaviours are determined by their shape, which is the tree without places, and by their places.
use Rattle.std.proofs.Common.{◌≡◌, ℕ, ◌∙◌, sym, ap, Bool, List, [], ◌∷◌, ◌++◌, map, Option, refl}
use Rattle.aadl_tree.specs.declared.mark.Mark.TheVariants as k
use Rattle.aadl_tree.specs.SpellingParts.{plain, parts_if, marked_if}
use Rattle.aadl_tree.specs.Names as n
use Rattle.aadl_tree.specs.Values as v
use Rattle.aadl_tree.specs.Actions as a
use Rattle.aadl_tree.specs.Annexes as x
use Rattle.aadl_grammar.proofs.HeadsAndTails.{heads, tails}
use Rattle.aadl_tree.specs.proof.PlaceMaps.{no_place, identifier_to, block_to, variable_to, state_to, guard_to}
use Rattle.aadl_tree.specs.proof.PlaceMaps.{transition_to, annex_tree_to, content_to, annex_to}
use Rattle.aadl_grammar.proofs.UniquePlacedTrees.PlacesFromTokens.{in_turn}
use Rattle.aadl_grammar.proofs.UniquePlacedTrees.Names.{Fixed, identifier_fixed}
use Rattle.aadl_grammar.proofs.UniquePlacedTrees.Expressions.{expression_fixed}
use Rattle.aadl_grammar.proofs.UniquePlacedTrees.Values.{list_fixed, option_fixed, marked_none, identifiers_fixed}
use Rattle.aadl_grammar.proofs.UniquePlacedTrees.Values.{reference_fixed, properties_fixed}
use Rattle.aadl_grammar.proofs.UniquePlacedTrees.Actions.{block_fixed}

pub variable_fixed : Fixed (x.VariableDeclaration ℕ) (x.VariableDeclaration (Unit {0})) (variable_to no_place)
    x.variable_parts
variable_fixed t u xs ys s h =
    let r0 =
    identifiers_fixed t.names u.names _ _ (ap (λ (z : x.VariableDeclaration (Unit {0})). z.names) s)
    (in_turn (n.identifiers_parts t.names)
    (plain k.Colon ∷ (n.reference_parts t.data_type
    ++ (v.properties_parts t.properties ++ (plain k.Semicolon ∷ [])))) (n.identifiers_parts u.names)
    (plain k.Colon ∷ (n.reference_parts u.data_type
    ++ (v.properties_parts u.properties ++ (plain k.Semicolon ∷ [])))) xs ys h) in
    let r1 =
    reference_fixed t.data_type u.data_type _ _ (ap (λ (z : x.VariableDeclaration (Unit {0})). z.data_type) s)
    (in_turn (n.reference_parts t.data_type) (v.properties_parts t.properties ++ (plain k.Semicolon ∷ []))
    (n.reference_parts u.data_type) (v.properties_parts u.properties ++ (plain k.Semicolon ∷ [])) xs
    ys r0.rest) in
    let r2 =
    properties_fixed t.properties u.properties _ _ (ap (λ (z : x.VariableDeclaration (Unit {0})). z.properties) s)
    (in_turn (v.properties_parts t.properties) (plain k.Semicolon ∷ []) (v.properties_parts u.properties)
    (plain k.Semicolon ∷ []) xs ys r1.rest) in
    record {
      tree =
          ap (λ (q : n.Identifiers ℕ). let r : x.VariableDeclaration ℕ =
          record { names = q; data_type = t.data_type; properties = t.properties } in r) r0.tree
          ∙ ap (λ (q : n.Reference ℕ). let r : x.VariableDeclaration ℕ =
          record { names = u.names; data_type = q; properties = t.properties } in r) r1.tree
          ∙ ap (λ (q : v.Associations ℕ). let r : x.VariableDeclaration ℕ =
          record { names = u.names; data_type = u.data_type; properties = q } in r) r2.tree;
      rest = r2.rest;
    }

pub state_fixed : Fixed (x.StateDeclaration ℕ) (x.StateDeclaration (Unit {0})) (state_to no_place) x.state_parts
state_fixed t u xs ys s h =
    let r0 =
    identifiers_fixed t.names u.names _ _ (ap (λ (z : x.StateDeclaration (Unit {0})). z.names) s)
    (in_turn (n.identifiers_parts t.names)
    (plain k.Colon ∷ (marked_if k.Initial t.initial
    ++ (marked_if k.Complete t.complete ++ (plain k.State ∷ (plain k.Semicolon ∷ [])))))
    (n.identifiers_parts u.names)
    (plain k.Colon ∷ (marked_if k.Initial u.initial
    ++ (marked_if k.Complete u.complete ++ (plain k.State ∷ (plain k.Semicolon ∷ []))))) xs ys h) in
    let h1 =
    sym (marked_none k.Initial t.initial
    (marked_if k.Complete t.complete ++ (plain k.State ∷ (plain k.Semicolon ∷ []))) xs) ∙ r0.rest
    ∙ marked_none k.Initial u.initial
    (marked_if k.Complete u.complete ++ (plain k.State ∷ (plain k.Semicolon ∷ []))) ys in
    let h2 =
    sym (marked_none k.Complete t.complete (plain k.State ∷ (plain k.Semicolon ∷ [])) xs) ∙ h1
    ∙ marked_none k.Complete u.complete (plain k.State ∷ (plain k.Semicolon ∷ [])) ys in
    record {
      tree =
          ap (λ (q : n.Identifiers ℕ). let r : x.StateDeclaration ℕ =
          record { names = q; initial = t.initial; complete = t.complete } in r) r0.tree
          ∙ ap (λ (q : Bool). let r : x.StateDeclaration ℕ =
          record { names = u.names; initial = q; complete = t.complete } in r)
          (ap (λ (z : x.StateDeclaration (Unit {0})). z.initial) s)
          ∙ ap (λ (q : Bool). let r : x.StateDeclaration ℕ =
          record { names = u.names; initial = u.initial; complete = q } in r)
          (ap (λ (z : x.StateDeclaration (Unit {0})). z.complete) s);
      rest = h2;
    }

pub guard_fixed : Fixed (x.Guard ℕ) (x.Guard (Unit {0})) (guard_to no_place) x.guard_parts
guard_fixed x.dispatch x.dispatch xs ys s h =
    record { tree = refl; rest = h }
guard_fixed x.otherwise x.otherwise xs ys s h =
    record { tree = refl; rest = h }
guard_fixed (x.when t) (x.when t2) xs ys s h =
    let r0 = expression_fixed t t2 xs ys (cc) h in
    record { tree = ap (λ q. x.when q) r0.tree; rest = r0.rest }
guard_fixed _ _ xs ys s h = absurd cc

pub transition_fixed : Fixed (x.Transition ℕ) (x.Transition (Unit {0})) (transition_to no_place) x.transition_parts
transition_fixed t u xs ys s h =
    let r0 =
    (option_fixed (identifier_to no_place) x.label_parts identifier_fixed) t.label u.label _ _
    (ap (λ (z : x.Transition (Unit {0})). z.label) s)
    (in_turn (parts_if x.label_parts t.label)
    (n.identifier_parts t.source
    ++ (plain k.GuardOpen ∷ (parts_if x.guard_parts t.guard
    ++ (plain k.GuardClose ∷ (n.identifier_parts t.target
    ++ (parts_if a.block_parts t.effect ++ (plain k.Semicolon ∷ [])))))))
    (parts_if x.label_parts u.label)
    (n.identifier_parts u.source
    ++ (plain k.GuardOpen ∷ (parts_if x.guard_parts u.guard
    ++ (plain k.GuardClose ∷ (n.identifier_parts u.target
    ++ (parts_if a.block_parts u.effect
    ++ (plain k.Semicolon ∷ []))))))) xs ys h) in
    let r1 =
    identifier_fixed t.source u.source _ _ (ap (λ (z : x.Transition (Unit {0})). z.source) s)
    (in_turn (n.identifier_parts t.source)
    (plain k.GuardOpen ∷ (parts_if x.guard_parts t.guard
    ++ (plain k.GuardClose ∷ (n.identifier_parts t.target
    ++ (parts_if a.block_parts t.effect ++ (plain k.Semicolon ∷ [])))))) (n.identifier_parts u.source)
    (plain k.GuardOpen ∷ (parts_if x.guard_parts u.guard
    ++ (plain k.GuardClose ∷ (n.identifier_parts u.target
    ++ (parts_if a.block_parts u.effect ++ (plain k.Semicolon ∷ [])))))) xs ys r0.rest) in
    let r2 =
    (option_fixed (guard_to no_place) x.guard_parts guard_fixed) t.guard u.guard _ _
    (ap (λ (z : x.Transition (Unit {0})). z.guard) s)
    (in_turn (parts_if x.guard_parts t.guard)
    (plain k.GuardClose ∷ (n.identifier_parts t.target
    ++ (parts_if a.block_parts t.effect ++ (plain k.Semicolon ∷ [])))) (parts_if x.guard_parts u.guard)
    (plain k.GuardClose ∷ (n.identifier_parts u.target
    ++ (parts_if a.block_parts u.effect ++ (plain k.Semicolon ∷ [])))) xs ys r1.rest) in
    let r3 =
    identifier_fixed t.target u.target _ _ (ap (λ (z : x.Transition (Unit {0})). z.target) s)
    (in_turn (n.identifier_parts t.target) (parts_if a.block_parts t.effect ++ (plain k.Semicolon ∷ []))
    (n.identifier_parts u.target) (parts_if a.block_parts u.effect ++ (plain k.Semicolon ∷ [])) xs
    ys r2.rest) in
    let r4 =
    (option_fixed (block_to no_place) a.block_parts block_fixed) t.effect u.effect _ _
    (ap (λ (z : x.Transition (Unit {0})). z.effect) s)
    (in_turn (parts_if a.block_parts t.effect) (plain k.Semicolon ∷ []) (parts_if a.block_parts u.effect)
    (plain k.Semicolon ∷ []) xs ys r3.rest) in
    record {
      tree =
          ap (λ (q : Option (n.Identifier ℕ)). let r : x.Transition ℕ =
          record {
            label = q;
            source = t.source;
            guard = t.guard;
            target = t.target;
            effect = t.effect;
          } in r) r0.tree
          ∙ ap (λ (q : n.Identifier ℕ). let r : x.Transition ℕ =
          record {
            label = u.label;
            source = q;
            guard = t.guard;
            target = t.target;
            effect = t.effect;
          } in r) r1.tree
          ∙ ap (λ (q : Option (x.Guard ℕ)). let r : x.Transition ℕ =
          record {
            label = u.label;
            source = u.source;
            guard = q;
            target = t.target;
            effect = t.effect;
          } in r) r2.tree
          ∙ ap (λ (q : n.Identifier ℕ). let r : x.Transition ℕ =
          record {
            label = u.label;
            source = u.source;
            guard = u.guard;
            target = q;
            effect = t.effect;
          } in r) r3.tree
          ∙ ap (λ (q : Option (a.Block ℕ)). let r : x.Transition ℕ =
          record {
            label = u.label;
            source = u.source;
            guard = u.guard;
            target = u.target;
            effect = q;
          } in r) r4.tree;
      rest = r4.rest;
    }

pub annex_tree_fixed : Fixed (x.AnnexTree ℕ) (x.AnnexTree (Unit {0})) (annex_tree_to no_place) x.annex_tree_parts
annex_tree_fixed t u xs ys s h =
    let r0 =
    (option_fixed (map (variable_to no_place)) (x.declared_parts k.Variables x.variable_parts)
    (list_fixed (variable_to no_place) x.variable_parts variable_fixed)) t.variables u.variables _ _
    (ap (λ (z : x.AnnexTree (Unit {0})). z.variables) s)
    (in_turn (parts_if (x.declared_parts k.Variables x.variable_parts) t.variables)
    (parts_if (x.declared_parts k.States x.state_parts) t.states
    ++ (parts_if (x.declared_parts k.Transitions x.transition_parts) t.transitions))
    (parts_if (x.declared_parts k.Variables x.variable_parts) u.variables)
    (parts_if (x.declared_parts k.States x.state_parts) u.states
    ++ (parts_if (x.declared_parts k.Transitions x.transition_parts)
    u.transitions)) xs ys h) in
    let r1 =
    (option_fixed (map (state_to no_place)) (x.declared_parts k.States x.state_parts)
    (list_fixed (state_to no_place) x.state_parts state_fixed)) t.states u.states _ _
    (ap (λ (z : x.AnnexTree (Unit {0})). z.states) s)
    (in_turn (parts_if (x.declared_parts k.States x.state_parts) t.states)
    (parts_if (x.declared_parts k.Transitions x.transition_parts) t.transitions)
    (parts_if (x.declared_parts k.States x.state_parts) u.states)
    (parts_if (x.declared_parts k.Transitions x.transition_parts) u.transitions) xs ys r0.rest) in
    let r2 =
    (option_fixed (map (transition_to no_place)) (x.declared_parts k.Transitions x.transition_parts)
    (list_fixed (transition_to no_place) x.transition_parts transition_fixed)) t.transitions u.transitions xs ys
    (ap (λ (z : x.AnnexTree (Unit {0})). z.transitions) s) r1.rest in
    record {
      tree =
          ap (λ (q : Option (List (x.VariableDeclaration ℕ))). let r : x.AnnexTree ℕ =
          record { variables = q; states = t.states; transitions = t.transitions } in r) r0.tree
          ∙ ap (λ (q : Option (List (x.StateDeclaration ℕ))). let r : x.AnnexTree ℕ =
          record { variables = u.variables; states = q; transitions = t.transitions } in r) r1.tree
          ∙ ap (λ (q : Option (List (x.Transition ℕ))). let r : x.AnnexTree ℕ =
          record { variables = u.variables; states = u.states; transitions = q } in r) r2.tree;
      rest = r2.rest;
    }

pub content_fixed : Fixed (x.AnnexContent ℕ) (x.AnnexContent (Unit {0})) (content_to no_place) x.content_parts
content_fixed (x.foreign t) (x.foreign t2) xs ys s h =
    let g0 : t ≡ t2 = cc in
    record { tree = ap (λ q. x.foreign q) g0; rest = h }
content_fixed (x.behaviour t) (x.behaviour t2) xs ys s h =
    let r0 =
    annex_tree_fixed t t2 _ _ (cc)
    (in_turn (x.annex_tree_parts t) (plain k.AnnexClose ∷ []) (x.annex_tree_parts t2)
    (plain k.AnnexClose ∷ []) xs ys h) in
    record { tree = ap (λ q. x.behaviour q) r0.tree; rest = r0.rest }
content_fixed _ _ xs ys s h = absurd cc

pub annex_fixed : Fixed (x.Annex ℕ) (x.Annex (Unit {0})) (annex_to no_place) x.annex_parts
annex_fixed t u xs ys s h =
    let p0 = heads t.at u.at _ _ (h) in
    let h0 = tails t.at u.at _ _ (h) in
    let r1 =
    identifier_fixed t.language u.language _ _ (ap (λ (z : x.Annex (Unit {0})). z.language) s)
    (in_turn (n.identifier_parts t.language) (x.content_parts t.content ++ (plain k.Semicolon ∷ []))
    (n.identifier_parts u.language) (x.content_parts u.content ++ (plain k.Semicolon ∷ [])) xs ys h0) in
    let r2 =
    content_fixed t.content u.content _ _ (ap (λ (z : x.Annex (Unit {0})). z.content) s)
    (in_turn (x.content_parts t.content) (plain k.Semicolon ∷ []) (x.content_parts u.content)
    (plain k.Semicolon ∷ []) xs ys r1.rest) in
    record {
      tree = ap (λ (q : ℕ). let r : x.Annex ℕ = record { at = q; language = t.language; content = t.content } in r) p0
          ∙ ap (λ (q : n.Identifier ℕ). let r : x.Annex ℕ =
          record { at = u.at; language = q; content = t.content } in r) r1.tree
          ∙ ap (λ (q : x.AnnexContent ℕ). let r : x.Annex ℕ =
          record { at = u.at; language = u.language; content = q } in r) r2.tree;
      rest = r2.rest;
    }
