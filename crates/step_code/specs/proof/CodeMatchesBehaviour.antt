-- When step code does what a behaviour does: the same sizes, entries for its states, and the same result of each
-- step.
use Rattle.std.specs.Prelude.{◌≡◌, ℕ, List, length, Some, slice_get}
use Rattle.pals_base.specs.declared.frames.Frame.{Frame}
use Rattle.pals_base.specs.declared.basic_types.PortValue.{PortValue}
use Rattle.pals_base.specs.declared.behaviour.BehaviourParts.{BehaviourParts}
use Rattle.pals_base.specs.declared.behaviour.StateDecl.{StateDecl}
use Rattle.pals_base.specs.SingleStep.{HasShape, fire}
use Rattle.step_code.specs.declared.instr.CodeParts.{CodeParts}
use Rattle.step_code.specs.proof.CodeRuns.{Leaves, exec, has_entry}

-- the code has the behaviour's numbers of variables and ports and an entry for exactly its complete states, and each
-- step of it leaves what the behaviour's step leaves
pub record Means (c : CodeParts) (b : BehaviourParts) : Type 0 where
  pub vars : c.vars ≡ length b.vars
  pub ins : c.ins ≡ length b.ins
  pub outs : c.outs ≡ length b.outs
  pub states : length c.entries ≡ length b.states
  pub entries : (state : ℕ) (d : StateDecl) → slice_get b.states state ≡ Some d
      → has_entry (slice_get c.entries state) ≡ d.complete
  pub steps : (frame : Frame) (inputs : List PortValue) → HasShape b frame → length inputs ≡ length b.ins
      → exec c frame inputs ≡ Leaves (fire b frame inputs)
