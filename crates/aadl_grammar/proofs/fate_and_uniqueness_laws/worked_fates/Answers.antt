use Rattle.std.proofs.Common.{refl}
use Rattle.aadl_grammar.specs.proof.StackMachine.{move, stack_after, ends, depth, fate}
use Rattle.aadl_grammar.proofs.fate_and_uniqueness_laws.worked_fates.Goals as goal

pub returns-clause-transition : goal.returns-clause-transition
unfolding move stack_after ends depth fate
returns-clause-transition c = refl

pub returns-clause-ended : goal.returns-clause-ended
unfolding move stack_after ends depth fate
returns-clause-ended c = refl

pub returns-clause-without_value : goal.returns-clause-without_value
unfolding move stack_after ends depth fate
returns-clause-without_value c = refl

pub returns-clause-cut_off : goal.returns-clause-cut_off
unfolding move stack_after ends depth fate
returns-clause-cut_off c = refl

pub returns-clause-nested : goal.returns-clause-nested
unfolding move stack_after ends depth fate
returns-clause-nested c = refl

pub returns-clause-too_deep : goal.returns-clause-too_deep
unfolding move stack_after ends depth fate
returns-clause-too_deep c = refl

pub returns-clause-package : goal.returns-clause-package
unfolding move stack_after ends depth fate
returns-clause-package c = refl
