use Rattle.std.proofs.Common.{◌∙◌, sym, ap}
use Rattle.pals_node.specs.proof.InstructionKeys.{key_of}
use Rattle.pals_node.proofs.InstructionKeys.{same_key}
use Rattle.pals_node.proofs.instruction_key.same_instr.Goals as goal

pub returns : goal.returns
returns c = (
  (λ is. same_key c.args.left c.args.right
      (sym c.key_of-left.ensures ∙ c.same_key.ensures.0 is ∙ c.key_of-right.ensures)),
  (λ same. c.same_key.ensures.1 (c.key_of-left.ensures ∙ ap key_of same ∙ sym c.key_of-right.ensures)),
)
