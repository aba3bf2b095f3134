-- The logical operators between relations, as the tokens of a text: `and`, `or`, `xor`, `and then`, `or else`.
use Rattle.std.specs.Prelude.{List}
use Rattle.aadl_tree.specs.declared.expressions.LogicOperator.{LogicOperator}
use Rattle.aadl_tree.specs.Terminals.{PlacedTerminal}
use Rattle.aadl_grammar.specs.proof.GrammarSymbols.{the}
use Rattle.aadl_grammar.specs.proof.ParserAnswers.{AtMark, Misses}
use Rattle.aadl_tree.specs.declared.mark.Mark.TheVariants as k
use Rattle.aadl_tree.specs.declared.expressions.LogicOperator.TheVariants as logic

-- the list begins with the operator; `and` and `or` include a following `then` or `else`
abbrev pub Joins : LogicOperator → List PlacedTerminal → List PlacedTerminal → Type 0
Joins logic.And ss rest = AtMark k.And ss rest × Misses (the k.Then) rest
Joins logic.Or ss rest = AtMark k.Or ss rest × Misses (the k.Else) rest
Joins logic.Xor ss rest = AtMark k.Xor ss rest
Joins logic.AndThen ss rest = (mid : List PlacedTerminal) × AtMark k.And ss mid × AtMark k.Then mid rest
Joins logic.OrElse ss rest = (mid : List PlacedTerminal) × AtMark k.Or ss mid × AtMark k.Else mid rest
