use Rattle.std.proofs.Common.{refl}
use Rattle.aadl_grammar.proofs.ValueAndPropertyLists.{starts_at}
use Rattle.behaviour_parse.proofs.ParsedActions.{begins_by}
use Rattle.aadl_grammar.specs.proof.StackMachine.{move, depth}
use Rattle.behaviour_parse.proofs.actions.begins_action.Goals as goal

pub returns-then-is_word : goal.returns-then-is_word
unfolding move depth
returns-then-is_word c = begins_by (starts_at (rw c.if-is_word.true at c.is_word.ensures)) refl

pub returns-in-Some : goal.returns-in-Some
unfolding move depth
returns-in-Some c = begins_by c.in-Some.ensures refl

pub returns-in-Some-take : goal.returns-in-Some-take
unfolding move depth
returns-in-Some-take c = begins_by c.in-Some-take.ensures refl
