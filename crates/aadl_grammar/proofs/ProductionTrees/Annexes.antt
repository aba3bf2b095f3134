-- For each symbol of annexes and behaviours: the tree that each of its rows in the table builds. For the proof that
-- a text has one tree.
use Rattle.std.proofs.Common.{true, [], ◌∷◌, Some, None}
use Rattle.aadl_tree.specs.Annexes as x
use Rattle.aadl_grammar.specs.proof.GrammarSymbols as s
use Rattle.aadl_grammar.specs.proof.ParseTable.{rows}
use Rattle.aadl_grammar.specs.proof.SymbolTrees.{identifier_of, transition_of}
use Rattle.aadl_grammar.proofs.DerivationTrees.TreeBuilders.{Builders, Joins, behind_builders}
use Rattle.aadl_grammar.proofs.ProductionTrees.Expressions.{expression_builders}
use Rattle.aadl_grammar.proofs.ProductionTrees.Actions.{block_builders}

abbrev pub variable_builders : Builders s.variable (rows s.variable)
variable_builders = (
  (λ w ts. record {
    names = record { first = identifier_of w; rest = ts.0 };
    data_type = ts.1.1.0;
    properties = ts.1.1.1.0;
  }),
  tt,
)

abbrev pub variable_list_joins : Joins s.variable_list s.variable (s.variable_list ∷ [])
variable_list_joins u ts = u ∷ ts.0

abbrev pub variable_list_builders : Builders s.variable_list (rows s.variable_list)
variable_list_builders =
    behind_builders s.variable_list s.variable (s.variable_list ∷ []) (rows s.variable) variable_list_joins
    variable_builders

abbrev pub variables_builders : Builders s.variables (rows s.variables)
variables_builders = ((λ w ts. Some ts.0), tt)

abbrev pub initial_builders : Builders s.initial (rows s.initial)
initial_builders = ((λ w ts. true), tt)

abbrev pub complete_builders : Builders s.complete (rows s.complete)
complete_builders = ((λ w ts. true), tt)

abbrev pub state_builders : Builders s.state (rows s.state)
state_builders = (
  (λ w ts. record {
    names = record { first = identifier_of w; rest = ts.0 };
    initial = ts.1.1.0;
    complete = ts.1.1.1.0;
  }),
  tt,
)

abbrev pub state_list_joins : Joins s.state_list s.state (s.state_list ∷ [])
state_list_joins u ts = u ∷ ts.0

abbrev pub state_list_builders : Builders s.state_list (rows s.state_list)
state_list_builders =
    behind_builders s.state_list s.state (s.state_list ∷ []) (rows s.state) state_list_joins state_builders

abbrev pub states_builders : Builders s.states (rows s.states)
states_builders = ((λ w ts. Some ts.0), tt)

abbrev pub guard_joins : Joins s.guard s.expression []
guard_joins u ts = Some (x.when u)

abbrev pub guard_builders : Builders s.guard (rows s.guard)
guard_builders = (
  (λ w ts. Some x.dispatch),
  (
    (λ w ts. Some x.otherwise),
    behind_builders s.guard s.expression [] (rows s.expression) guard_joins expression_builders,
  ),
)

abbrev pub guarded_builders : Builders s.guarded (rows s.guarded)
guarded_builders = ((λ w ts. ts.0), tt)

abbrev pub after_word_builders : Builders s.after_word (rows s.after_word)
after_word_builders = ((λ w ts. (Some ts.0, ts.1.0)), ((λ w ts. (None, ts.0)), tt))

abbrev pub effect_joins : Joins s.effect s.block []
effect_joins u ts = Some u

abbrev pub effect_builders : Builders s.effect (rows s.effect)
effect_builders = behind_builders s.effect s.block [] (rows s.block) effect_joins block_builders

abbrev pub transition_builders : Builders s.transition (rows s.transition)
transition_builders = ((λ w ts. transition_of (identifier_of w) ts.0 ts.1.0 ts.1.1.0), tt)

abbrev pub transition_list_joins : Joins s.transition_list s.transition (s.transition_list ∷ [])
transition_list_joins u ts = u ∷ ts.0

abbrev pub transition_list_builders : Builders s.transition_list (rows s.transition_list)
transition_list_builders =
    behind_builders s.transition_list s.transition (s.transition_list ∷ []) (rows s.transition) transition_list_joins
    transition_builders

abbrev pub transitions_builders : Builders s.transitions (rows s.transitions)
transitions_builders = ((λ w ts. Some ts.0), tt)

abbrev pub content_builders : Builders s.content (rows s.content)
content_builders = (
  (λ w ts. x.foreign w),
  (
    (λ w ts.
        x.behaviour (record { variables = ts.0; states = ts.1.0; transitions = ts.1.1.0 })),
    tt,
  ),
)

abbrev pub annex_builders : Builders s.annex (rows s.annex)
annex_builders = ((λ w ts. record { at = tt; language = ts.0; content = ts.1.0 }), tt)

abbrev pub annexes_joins : Joins s.annexes s.annex (s.annexes ∷ [])
annexes_joins u ts = u ∷ ts.0

abbrev pub annexes_builders : Builders s.annexes (rows s.annexes)
annexes_builders = behind_builders s.annexes s.annex (s.annexes ∷ []) (rows s.annex) annexes_joins annex_builders
