use Rattle.std.proofs.Common.{length, option_to_list, sym, subst}
use Rattle.step_code.specs.proof.VerifierIntermediateResults.{AreThere}
use Rattle.step_code.proofs.HeightPropagation.{there_jump, there_next}
use Rattle.step_code.proofs.stack_heights.pass_on.Goals as goal

pub set-requires : goal.set-requires
set-requires c =
    subst (λ o. AreThere (option_to_list o) (length c.args.heights.now)) (sym c.jump-jump.ensures)
    (there_jump c.args.at (length c.args.heights.now) c.args.instr c.requires.there)

pub set-requires-2 : goal.set-requires-2
set-requires-2 c =
    subst (AreThere (option_to_list c.next-next.result)) (sym c.set.ensures.count)
    (subst (λ o. AreThere (option_to_list o) (length c.args.heights.now)) (sym c.next-next.ensures)
    (there_next c.args.at (length c.args.heights.now) c.args.instr c.requires.there))
