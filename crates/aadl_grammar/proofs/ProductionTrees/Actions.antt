-- For each symbol of actions: the tree that each of its rows in the table builds. For the proof that a text has one
-- tree.
use Rattle.std.proofs.Common.{true, false, [], ◌∷◌, inl, inr}
use Rattle.aadl_tree.specs.Actions as a
use Rattle.aadl_grammar.specs.proof.GrammarSymbols as s
use Rattle.aadl_grammar.specs.proof.ParseTable.{rows}
use Rattle.aadl_grammar.specs.proof.SymbolTrees.{act, more_of}
use Rattle.aadl_grammar.proofs.DerivationTrees.TreeBuilders.{Builders, Joins, behind_builders}

abbrev pub test_builders : Builders s.test (rows s.test)
test_builders = ((λ w ts. ts.0), tt)

abbrev pub whole_number_builders : Builders s.whole_number (rows s.whole_number)
whole_number_builders = ((λ w ts. w), tt)

abbrev pub bound_builders : Builders s.bound (rows s.bound)
bound_builders =
    ((λ w ts. record { negative = false; value = w }), ((λ w ts. record { negative = true; value = ts.0 }), tt))

abbrev pub after_target_builders : Builders s.after_target (rows s.after_target)
after_target_builders = ((λ w ts. inl ts.0), ((λ w ts. inr ts.0), tt))

abbrev pub loop_head_builders : Builders s.loop_head (rows s.loop_head)
loop_head_builders =
    ((λ w ts. record { counter = ts.0; data_type = ts.1.1.0; low = ts.1.1.1.1.0; high = ts.1.1.1.1.1.1.0 }), tt)

abbrev pub action_builders : Builders s.action (rows s.action)
action_builders = (
  (λ w ts. act w ts.0),
  (
    (λ w ts. a.choose ts.0 ts.1.0 ts.1.1.0 ts.1.1.1.0),
    ((λ w ts. a.loop tt ts.0.counter ts.0.data_type ts.0.low ts.0.high ts.1.0), tt),
  ),
)

abbrev pub actions_joins : Joins s.actions s.action (s.mores ∷ [])
actions_joins u ts = a.actions u ts.0

abbrev pub actions_builders : Builders s.actions (rows s.actions)
actions_builders = behind_builders s.actions s.action (s.mores ∷ []) (rows s.action) actions_joins action_builders

abbrev pub mores_builders : Builders s.mores (rows s.mores)
mores_builders = ((λ w ts. more_of ts.0), tt)

abbrev pub after_semicolon_joins : Joins s.after_semicolon s.actions []
after_semicolon_joins u ts = a.block u

abbrev pub after_semicolon_builders : Builders s.after_semicolon (rows s.after_semicolon)
after_semicolon_builders =
    behind_builders s.after_semicolon s.actions [] (rows s.actions) after_semicolon_joins actions_builders

abbrev pub elsifs_builders : Builders s.elsifs (rows s.elsifs)
elsifs_builders = ((λ w ts. a.elsif ts.0 ts.1.0 ts.1.1.0), tt)

abbrev pub otherwise_builders : Builders s.otherwise (rows s.otherwise)
otherwise_builders = ((λ w ts. a.otherwise ts.0), tt)

abbrev pub end_if_builders : Builders s.end_if (rows s.end_if)
end_if_builders = ((λ w ts. tt), tt)

abbrev pub closing_if_builders : Builders s.closing_if (rows s.closing_if)
closing_if_builders = ((λ w ts. tt), tt)

abbrev pub block_builders : Builders s.block (rows s.block)
block_builders = ((λ w ts. ts.0), tt)

abbrev pub body_joins : Joins s.body s.actions []
body_joins u ts = a.block u

abbrev pub body_builders : Builders s.body (rows s.body)
body_builders = behind_builders s.body s.actions [] (rows s.actions) body_joins actions_builders
