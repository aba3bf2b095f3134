-- Symbols of annexes and behaviours: a row of its symbol builds each tree that terminals spell, unless the symbol is
-- omitted. For the proof that a text has one tree.
use Rattle.std.proofs.Common.{true, false, sym, refl, List, [], ◌∷◌, ◌++◌, Option, Some, None, append_assoc, inl, inr}
use Rattle.std.proofs.lemmas.List.{append-nil}
use Rattle.aadl_tree.specs.declared.mark.Mark.TheVariants as k
use Rattle.aadl_tree.specs.Terminals.{PlainTerminal}
use Rattle.aadl_tree.specs.SpellingParts.{Spells, plain, parts_if}
use Rattle.aadl_tree.specs.Names as n
use Rattle.aadl_tree.specs.Actions as a
use Rattle.aadl_tree.specs.Annexes as x
use Rattle.aadl_grammar.specs.proof.GrammarSymbols as s
use Rattle.aadl_grammar.specs.proof.ParseTable.{rows}
use Rattle.aadl_grammar.specs.proof.SymbolTrees.{NoPlace, parts}
use Rattle.aadl_grammar.proofs.DerivationTrees.TreeBuilders.{respell, InRows, behind_opens, uses, Opens, OpensOr}
use Rattle.aadl_grammar.proofs.ProductionTrees.Expressions.{expression_builders}
use Rattle.aadl_grammar.proofs.ProductionTrees.Actions.{block_builders}
use Rattle.aadl_grammar.proofs.ProductionTrees.Annexes.{variable_builders, variable_list_builders, variable_list_joins}
use Rattle.aadl_grammar.proofs.ProductionTrees.Annexes.{variables_builders, initial_builders, complete_builders}
use Rattle.aadl_grammar.proofs.ProductionTrees.Annexes.{state_builders, state_list_builders, state_list_joins}
use Rattle.aadl_grammar.proofs.ProductionTrees.Annexes.{states_builders, guard_builders, guard_joins, guarded_builders}
use Rattle.aadl_grammar.proofs.ProductionTrees.Annexes.{after_word_builders, effect_builders, effect_joins}
use Rattle.aadl_grammar.proofs.ProductionTrees.Annexes.{transition_builders, transition_list_builders}
use Rattle.aadl_grammar.proofs.ProductionTrees.Annexes.{transition_list_joins, transitions_builders, content_builders}
use Rattle.aadl_grammar.proofs.ProductionTrees.Annexes.{annex_builders, annexes_builders, annexes_joins}
use Rattle.aadl_grammar.proofs.ProductionCompleteness.Expressions.{expression_opens}
use Rattle.aadl_grammar.proofs.ProductionCompleteness.Actions.{block_opens}
use Rattle.aadl_grammar.proofs.ProductionSoundness.Annexes.{body_same}

pub variable_opens : Opens s.variable variable_builders
variable_opens t ks rest (more, e, sp) =
    inl (uses t.names.first.spelling (t.names.rest, (tt, (t.data_type, (t.properties, (tt, tt))))) more e sp)

pub variable_list_opens : OpensOr s.variable_list variable_list_builders []
variable_list_opens [] ks rest e = inr (refl, e)
variable_list_opens (x ∷ xs) ks rest sp =
    inl (behind_opens s.variable_list s.variable (s.variable_list ∷ []) (rows s.variable) variable_list_joins
    variable_builders x (xs, tt) ks rest (variable_opens x ks) sp)

pub variables_opens : OpensOr s.variables variables_builders None
variables_opens None ks rest e = inr (refl, e)
variables_opens (Some y) ks rest (more, e, sp) = inl (inl (uses tt (y, tt) more e sp))

pub initial_opens : OpensOr s.initial initial_builders false
initial_opens false ks rest e = inr (refl, e)
initial_opens true ks rest (more, e, sp) = inl (inl (uses tt tt more e sp))

pub complete_opens : OpensOr s.complete complete_builders false
complete_opens false ks rest e = inr (refl, e)
complete_opens true ks rest (more, e, sp) = inl (inl (uses tt tt more e sp))

pub state_opens : Opens s.state state_builders
state_opens t ks rest (more, e, sp) =
    inl (uses t.names.first.spelling (t.names.rest, (tt, (t.initial, (t.complete, (tt, (tt, tt)))))) more e sp)

pub state_list_opens : OpensOr s.state_list state_list_builders []
state_list_opens [] ks rest e = inr (refl, e)
state_list_opens (x ∷ xs) ks rest sp =
    inl (behind_opens s.state_list s.state (s.state_list ∷ []) (rows s.state) state_list_joins state_builders x (xs, tt)
    ks rest (state_opens x ks) sp)

pub states_opens : OpensOr s.states states_builders None
states_opens None ks rest e = inr (refl, e)
states_opens (Some y) ks rest (more, e, sp) = inl (inl (uses tt (y, tt) more e sp))

pub guard_opens : OpensOr s.guard guard_builders None
guard_opens None ks rest e = inr (refl, e)
guard_opens (Some x.dispatch) ks rest (more, e, sp) = inl (inl (uses tt (tt, tt) more e sp))
guard_opens (Some x.otherwise) ks rest (more, e, sp) = inl (inr (inl (uses tt tt more e sp)))
guard_opens (Some (x.when y)) ks rest sp =
    inl (inr (inr (behind_opens s.guard s.expression [] (rows s.expression) guard_joins expression_builders y tt ks rest
    (expression_opens y ks) (respell _ _ ks rest (sym (append-nil (parts s.expression y))) sp))))

pub guarded_opens : Opens s.guarded guarded_builders
guarded_opens t ks rest (more, e, sp) = inl (uses tt (t, (tt, tt)) more e sp)

pub after_word_opens : Opens s.after_word after_word_builders
after_word_opens (None, g) ks rest (more, e, sp) = inr (inl (uses tt (g, (tt, tt)) more e sp))
after_word_opens (Some y, g) ks rest (more, e, sp) = inl (uses tt (y, (g, tt)) more e sp)

pub effect_opens : OpensOr s.effect effect_builders None
effect_opens None ks rest e = inr (refl, e)
effect_opens (Some x) ks rest sp =
    inl (behind_opens s.effect s.block [] (rows s.block) effect_joins block_builders x tt ks rest (block_opens x ks)
    (respell _ _ ks rest (sym (append-nil (parts s.block x))) sp))

transition_by : (y : Option (n.Identifier NoPlace)) (first : n.Identifier NoPlace) (g : Option (x.Guard NoPlace))
    (target : n.Identifier NoPlace) (effect : Option (a.Block NoPlace)) (ks rest : List PlainTerminal)
    → Spells (parts s.transition (record { label = y; source = first; guard = g; target = target; effect = effect })) ks
    rest → InRows s.transition (rows s.transition) transition_builders
    (record { label = y; source = first; guard = g; target = target; effect = effect }) ks rest
transition_by None first g target effect ks rest (more, e, (m, i, sp)) =
    inl (uses first.spelling ((None, g), (target, (effect, (tt, tt)))) more e (
      m,
      i,
      respell _ _ m rest
          (sym (append_assoc (parts_if x.guard_parts g) (plain k.GuardClose ∷ [])
          (n.identifier_parts target ++ (parts_if a.block_parts effect ++ plain k.Semicolon ∷ [])))) sp,
    ))
transition_by (Some y) first g target effect ks rest (more, e, (l, f, (q, h, (m, i, sp)))) =
    inl (uses y.spelling ((Some first, g), (target, (effect, (tt, tt)))) more e (
      l,
      f,
      (
        q,
        h,
        (
          m,
          i,
          respell _ _ m rest
              (sym (append_assoc (parts_if x.guard_parts g) (plain k.GuardClose ∷ [])
              (n.identifier_parts target ++ (parts_if a.block_parts effect ++ plain k.Semicolon ∷ [])))) sp,
        ),
      ),
    ))

pub transition_opens : Opens s.transition transition_builders
transition_opens t ks rest sp = transition_by t.label t.source t.guard t.target t.effect ks rest sp

pub transition_list_opens : OpensOr s.transition_list transition_list_builders []
transition_list_opens [] ks rest e = inr (refl, e)
transition_list_opens (x ∷ xs) ks rest sp =
    inl (behind_opens s.transition_list s.transition (s.transition_list ∷ []) (rows s.transition) transition_list_joins
    transition_builders x (xs, tt) ks rest (transition_opens x ks) sp)

pub transitions_opens : OpensOr s.transitions transitions_builders None
transitions_opens None ks rest e = inr (refl, e)
transitions_opens (Some y) ks rest (more, e, sp) = inl (inl (uses tt (y, tt) more e sp))

pub content_opens : Opens s.content content_builders
content_opens (x.foreign y) ks rest (more, e, sp) = inl (uses y tt more e sp)
content_opens (x.behaviour y) ks rest (more, e, sp) =
    inr (inl (uses tt (y.variables, (y.states, (y.transitions, (tt, tt)))) more e
    (respell _ _ more rest (sym
    (body_same (parts s.variables y.variables) (parts s.states y.states) (parts s.transitions y.transitions)
    (plain k.AnnexClose ∷ []))) sp)))

pub annex_opens : Opens s.annex annex_builders
annex_opens t ks rest (more, e, sp) = inl (uses tt (t.language, (t.content, (tt, tt))) more e sp)

pub annexes_opens : OpensOr s.annexes annexes_builders []
annexes_opens [] ks rest e = inr (refl, e)
annexes_opens (x ∷ xs) ks rest sp =
    inl (behind_opens s.annexes s.annex (s.annexes ∷ []) (rows s.annex) annexes_joins annex_builders x (xs, tt) ks rest
    (annex_opens x ks) sp)
