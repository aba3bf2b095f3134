-- A sign before a number: the symbol of quantities takes it and then expects a number and a unit.
use Rattle.std.proofs.Common.{◌≡◌, refl, [], ◌∷◌}
use Rattle.aadl_tree.specs.declared.expressions.Sign.{Sign}
use Rattle.aadl_tree.specs.declared.expressions.Sign.TheVariants as signs
use Rattle.aadl_tree.specs.Terminals.{mark}
use Rattle.aadl_tree.specs.Values.{sign_mark}
use Rattle.aadl_grammar.specs.proof.GrammarSymbols as s
use Rattle.aadl_grammar.specs.proof.StackMachine.{takes, move}

pub sign_quantity : (o : Sign) → move s.quantity (mark (sign_mark o)) ≡ takes (s.figure ∷ s.unit ∷ [])
unfolding move
sign_quantity signs.Plus = refl
sign_quantity signs.Minus = refl
