-- Annexes and behaviours that terminals spell can be given the places of these terminals. For the law that a text has
-- a tree or a fault.
use Rattle.std.proofs.Common.{ℕ, sym, List, [], ◌∷◌, ◌++◌, flat_map}
use Rattle.aadl_tree.specs.declared.mark.Mark.TheVariants as k
use Rattle.aadl_tree.specs.Terminals.{unread, mark}
use Rattle.aadl_tree.specs.SpellingParts.{token, marked_if, parts_if}
use Rattle.aadl_grammar.proofs.PlaceFilling.FilledTrees.{U, Fills, split, cut, cut_at, nil, joined, consed, list_fill}
use Rattle.aadl_grammar.proofs.PlaceFilling.FilledTrees.{option_fill, marked_fill}
use Rattle.aadl_tree.specs.Names as n
use Rattle.aadl_tree.specs.Values as v
use Rattle.aadl_tree.specs.Actions as a
use Rattle.aadl_tree.specs.Annexes as x
use Rattle.aadl_grammar.proofs.PlaceFilling.Names.{identifier_fill, identifiers_fill, reference_fill}
use Rattle.aadl_grammar.proofs.PlaceFilling.Values.{properties_fill}
use Rattle.aadl_grammar.proofs.PlaceFilling.Expressions.{expression_fill}
use Rattle.aadl_grammar.proofs.PlaceFilling.Actions.{block_fill}

pub variable_fill : Fills (x.VariableDeclaration U) (x.VariableDeclaration ℕ) x.variable_parts x.variable_parts
variable_fill t b l =
    let s0 =
    split (n.identifiers_parts t.names)
    (token (mark k.Colon) []
    ∷ (n.reference_parts t.data_type
    ++ (v.properties_parts t.properties ++ (token (mark k.Semicolon) [] ∷ [])))) (b) (l) in
    let r1 = identifiers_fill t.names s0.front s0.first in
    let s1 =
    cut (mark k.Colon) (n.reference_parts t.data_type
    ++ (v.properties_parts t.properties ++ (token (mark k.Semicolon) [] ∷ []))) (s0.back) (s0.second) in
    let s2 =
    split (n.reference_parts t.data_type) (v.properties_parts t.properties ++ (token (mark k.Semicolon) [] ∷ []))
    (s1.back) (s1.rest) in
    let r2 = reference_fill t.data_type s2.front s2.first in
    let s3 = split (v.properties_parts t.properties) (token (mark k.Semicolon) [] ∷ []) (s2.back) (s2.second) in
    let r3 = properties_fill t.properties s3.front s3.first in
    let s4 = cut (mark k.Semicolon) [] (s3.back) (s3.second) in
    record {
      tree = record { names = r1.tree; data_type = r2.tree; properties = r3.tree };
      is = joined (r1.is) (consed
          (joined (r2.is) (joined (r3.is) (consed (sym (nil (s4.back) (s4.rest))) (s4.is)) (s3.is)) (s2.is))
          (s1.is)) (s0.is);
    }

pub state_fill : Fills (x.StateDeclaration U) (x.StateDeclaration ℕ) x.state_parts x.state_parts
state_fill t b l =
    let s0 =
    split (n.identifiers_parts t.names)
    (token (mark k.Colon) []
    ∷ (marked_if k.Initial t.initial
    ++ (marked_if k.Complete t.complete
    ++ (token (mark k.State) [] ∷ (token (mark k.Semicolon) [] ∷ []))))) (b) (l) in
    let r1 = identifiers_fill t.names s0.front s0.first in
    let s1 =
    cut (mark k.Colon) (marked_if k.Initial t.initial
    ++ (marked_if k.Complete t.complete ++ (token (mark k.State) [] ∷ (token (mark k.Semicolon) [] ∷ []))))
    (s0.back) (s0.second) in
    let s2 =
    split (marked_if k.Initial t.initial)
    (marked_if k.Complete t.complete ++ (token (mark k.State) [] ∷ (token (mark k.Semicolon) [] ∷ []))) (s1.back)
    (s1.rest) in
    let r2 = marked_fill k.Initial t.initial s2.front s2.first in
    let s3 =
    split (marked_if k.Complete t.complete) (token (mark k.State) [] ∷ (token (mark k.Semicolon) [] ∷ [])) (s2.back)
    (s2.second) in
    let r3 = marked_fill k.Complete t.complete s3.front s3.first in
    let s4 = cut (mark k.State) (token (mark k.Semicolon) [] ∷ []) (s3.back) (s3.second) in
    let s5 = cut (mark k.Semicolon) [] (s4.back) (s4.rest) in
    record {
      tree = record { names = r1.tree; initial = r2.tree; complete = r3.tree };
      is = joined (r1.is) (consed
          (joined (r2.is) (joined (r3.is) (consed (consed (sym (nil (s5.back) (s5.rest))) (s5.is)) (s4.is)) (s3.is))
          (s2.is)) (s1.is)) (s0.is);
    }

pub guard_fill : Fills (x.Guard U) (x.Guard ℕ) x.guard_parts x.guard_parts
guard_fill x.dispatch b l =
    let s0 = cut (mark k.On) (token (mark k.Dispatch) [] ∷ []) (b) (l) in
    let s1 = cut (mark k.Dispatch) [] (s0.back) (s0.rest) in
    record { tree = x.dispatch; is = consed (consed (sym (nil (s1.back) (s1.rest))) (s1.is)) (s0.is) }
guard_fill x.otherwise b l =
    let s0 = cut (mark k.Otherwise) [] (b) (l) in
    record { tree = x.otherwise; is = consed (sym (nil (s0.back) (s0.rest))) (s0.is) }
guard_fill (x.when t) b l =
    let r1 = expression_fill t (b) (l) in
    record { tree = x.when r1.tree; is = r1.is }

pub label_fill : Fills (n.Identifier U) (n.Identifier ℕ) x.label_parts x.label_parts
label_fill t b l =
    let s0 = split (n.identifier_parts t) (token (mark k.Colon) [] ∷ []) (b) (l) in
    let r1 = identifier_fill t s0.front s0.first in
    let s1 = cut (mark k.Colon) [] (s0.back) (s0.second) in
    record { tree = r1.tree; is = joined (r1.is) (consed (sym (nil (s1.back) (s1.rest))) (s1.is)) (s0.is) }

pub transition_fill : Fills (x.Transition U) (x.Transition ℕ) x.transition_parts x.transition_parts
transition_fill t b l =
    let s0 =
    split (parts_if (x.label_parts) t.label)
    (n.identifier_parts t.source
    ++ (token (mark k.GuardOpen) []
    ∷ (parts_if (x.guard_parts) t.guard
    ++ (token (mark k.GuardClose) []
    ∷ (n.identifier_parts t.target
    ++ (parts_if (a.block_parts) t.effect ++ (token (mark k.Semicolon) [] ∷ []))))))) (b) (l) in
    let r1 = option_fill (x.label_parts) (x.label_parts) (label_fill) t.label s0.front s0.first in
    let s1 =
    split (n.identifier_parts t.source)
    (token (mark k.GuardOpen) []
    ∷ (parts_if (x.guard_parts) t.guard
    ++ (token (mark k.GuardClose) []
    ∷ (n.identifier_parts t.target
    ++ (parts_if (a.block_parts) t.effect ++ (token (mark k.Semicolon) [] ∷ [])))))) (s0.back)
    (s0.second) in
    let r2 = identifier_fill t.source s1.front s1.first in
    let s2 =
    cut (mark k.GuardOpen) (parts_if (x.guard_parts) t.guard
    ++ (token (mark k.GuardClose) []
    ∷ (n.identifier_parts t.target
    ++ (parts_if (a.block_parts) t.effect ++ (token (mark k.Semicolon) [] ∷ []))))) (s1.back)
    (s1.second) in
    let s3 =
    split (parts_if (x.guard_parts) t.guard)
    (token (mark k.GuardClose) []
    ∷ (n.identifier_parts t.target
    ++ (parts_if (a.block_parts) t.effect ++ (token (mark k.Semicolon) [] ∷ [])))) (s2.back) (s2.rest) in
    let r3 = option_fill (x.guard_parts) (x.guard_parts) (guard_fill) t.guard s3.front s3.first in
    let s4 =
    cut (mark k.GuardClose) (n.identifier_parts t.target
    ++ (parts_if (a.block_parts) t.effect ++ (token (mark k.Semicolon) [] ∷ []))) (s3.back) (s3.second) in
    let s5 =
    split (n.identifier_parts t.target) (parts_if (a.block_parts) t.effect ++ (token (mark k.Semicolon) [] ∷ []))
    (s4.back) (s4.rest) in
    let r4 = identifier_fill t.target s5.front s5.first in
    let s6 = split (parts_if (a.block_parts) t.effect) (token (mark k.Semicolon) [] ∷ []) (s5.back) (s5.second) in
    let r5 = option_fill (a.block_parts) (a.block_parts) (block_fill) t.effect s6.front s6.first in
    let s7 = cut (mark k.Semicolon) [] (s6.back) (s6.second) in
    record {
      tree = record { label = r1.tree; source = r2.tree; guard = r3.tree; target = r4.tree; effect = r5.tree };
      is = joined (r1.is) (joined (r2.is)
          (consed (joined (r3.is) (consed
          (joined (r4.is) (joined (r5.is) (consed (sym (nil (s7.back) (s7.rest))) (s7.is)) (s6.is)) (s5.is))
          (s4.is)) (s3.is)) (s2.is)) (s1.is)) (s0.is);
    }

variables_fill : Fills (List (x.VariableDeclaration U)) (List (x.VariableDeclaration ℕ))
    (x.declared_parts k.Variables x.variable_parts) (x.declared_parts k.Variables x.variable_parts)
variables_fill ts b l =
    let s0 = cut (mark k.Variables) (flat_map (x.variable_parts) ts) (b) (l) in
    let r1 = list_fill (x.variable_parts) (x.variable_parts) (variable_fill) ts (s0.back) (s0.rest) in
    record { tree = r1.tree; is = consed (r1.is) (s0.is) }

states_fill : Fills (List (x.StateDeclaration U)) (List (x.StateDeclaration ℕ))
    (x.declared_parts k.States x.state_parts) (x.declared_parts k.States x.state_parts)
states_fill ts b l =
    let s0 = cut (mark k.States) (flat_map (x.state_parts) ts) (b) (l) in
    let r1 = list_fill (x.state_parts) (x.state_parts) (state_fill) ts (s0.back) (s0.rest) in
    record { tree = r1.tree; is = consed (r1.is) (s0.is) }

transitions_fill : Fills (List (x.Transition U)) (List (x.Transition ℕ))
    (x.declared_parts k.Transitions x.transition_parts) (x.declared_parts k.Transitions x.transition_parts)
transitions_fill ts b l =
    let s0 = cut (mark k.Transitions) (flat_map (x.transition_parts) ts) (b) (l) in
    let r1 = list_fill (x.transition_parts) (x.transition_parts) (transition_fill) ts (s0.back) (s0.rest) in
    record { tree = r1.tree; is = consed (r1.is) (s0.is) }

pub annex_tree_fill : Fills (x.AnnexTree U) (x.AnnexTree ℕ) x.annex_tree_parts x.annex_tree_parts
annex_tree_fill t b l =
    let s0 =
    split (parts_if (x.declared_parts k.Variables x.variable_parts) t.variables)
    (parts_if (x.declared_parts k.States x.state_parts) t.states
    ++ (parts_if (x.declared_parts k.Transitions x.transition_parts) t.transitions)) (b) (l) in
    let r1 =
    option_fill (x.declared_parts k.Variables x.variable_parts) (x.declared_parts k.Variables x.variable_parts)
    (variables_fill) t.variables s0.front s0.first in
    let s1 =
    split (parts_if (x.declared_parts k.States x.state_parts) t.states)
    (parts_if (x.declared_parts k.Transitions x.transition_parts) t.transitions) (s0.back) (s0.second) in
    let r2 =
    option_fill (x.declared_parts k.States x.state_parts) (x.declared_parts k.States x.state_parts) (states_fill)
    t.states s1.front s1.first in
    let r3 =
    option_fill (x.declared_parts k.Transitions x.transition_parts)
    (x.declared_parts k.Transitions x.transition_parts) (transitions_fill) t.transitions (s1.back) (s1.second) in
    record {
      tree = record { variables = r1.tree; states = r2.tree; transitions = r3.tree };
      is = joined (r1.is) (joined (r2.is) (r3.is) (s1.is)) (s0.is);
    }

pub content_fill : Fills (x.AnnexContent U) (x.AnnexContent ℕ) x.content_parts x.content_parts
content_fill (x.foreign t) b l =
    let s0 = cut (unread t) [] (b) (l) in
    record { tree = x.foreign t; is = consed (sym (nil (s0.back) (s0.rest))) (s0.is) }
content_fill (x.behaviour t) b l =
    let s0 = cut (mark k.AnnexOpen) (x.annex_tree_parts t ++ (token (mark k.AnnexClose) [] ∷ [])) (b) (l) in
    let s1 = split (x.annex_tree_parts t) (token (mark k.AnnexClose) [] ∷ []) (s0.back) (s0.rest) in
    let r1 = annex_tree_fill t s1.front s1.first in
    let s2 = cut (mark k.AnnexClose) [] (s1.back) (s1.second) in
    record {
      tree = x.behaviour r1.tree;
      is = consed (joined (r1.is) (consed (sym (nil (s2.back) (s2.rest))) (s2.is)) (s1.is)) (s0.is);
    }

pub annex_fill : Fills (x.Annex U) (x.Annex ℕ) x.annex_parts x.annex_parts
annex_fill t b l =
    let s0 =
    cut_at (mark k.Annex) (t.at)
    (n.identifier_parts t.language ++ (x.content_parts t.content ++ (token (mark k.Semicolon) [] ∷ []))) (b) (l) in
    let at = s0.at in
    let s1 =
    split (n.identifier_parts t.language) (x.content_parts t.content ++ (token (mark k.Semicolon) [] ∷ []))
    (s0.back) (s0.rest) in
    let r1 = identifier_fill t.language s1.front s1.first in
    let s2 = split (x.content_parts t.content) (token (mark k.Semicolon) [] ∷ []) (s1.back) (s1.second) in
    let r2 = content_fill t.content s2.front s2.first in
    let s3 = cut (mark k.Semicolon) [] (s2.back) (s2.second) in
    record {
      tree = record { at = at; language = r1.tree; content = r2.tree };
      is = consed (joined (r1.is) (joined (r2.is) (consed (sym (nil (s3.back) (s3.rest))) (s3.is)) (s2.is))
          (s1.is)) (s0.is);
    }
