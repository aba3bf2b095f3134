use Rattle.std.proofs.Common.{◌∙◌, ◌++◌, ◌∷◌, [], ap₂}
use Rattle.pals_node.proofs.TuplesSlotsAndZips.{empty_more}
use Rattle.pals_node.proofs.slots_and_input_vectors.empty_slots.Goals as goal

pub loop-input-preserved : goal.loop-input-preserved
loop-input-preserved c =
    c.in_ok-push.ensures.ok ∙ ap₂ (λ slots slot. slots ++ slot ∷ []) c.loop-input.invariant c.new.ensures
    ∙ empty_more c.args.inputs.now c.loop-input._input-index c.loop-input-test.true
