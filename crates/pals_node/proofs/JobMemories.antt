-- For `take_step`: a finished job returns the memory that the node's next job needs.
use Rattle.std.proofs.Common.{◌≡◌, ◌∙◌, ℕ, [], sym, ap, subst, length}
use Rattle.std.specs.Arc.{arc_value}
use Rattle.pals_base.specs.declared.frames.Frame.{Frame}
use Rattle.pals_base.specs.SingleStep.{HasShape}
use Rattle.pals_runs.specs.declared.phase.Phase.TheVariants.{Running}
use Rattle.step_vm.specs.proof.RoomCapacity.{IsRoomOf}
use Rattle.pals_node.specs.declared.node_fields_and_events.NodeFields.{NodeFields}
use Rattle.pals_node.specs.declared.job_memory.Memory.{Memory}
use Rattle.pals_node.specs.proof.NodeAndJobValues.{Program, JobValue, job_at}
use Rattle.pals_node.specs.proof.JobMemories.{HasSizes, IsMemoryFor, IsLeft}
use Rattle.pals_node.specs.proof.NodeInvariants.{IsProgram, Keeps, value_of}
use Rattle.pals_node.proofs.StepEnds.{runs_open, inputs_size}

pub sizes : (p : Program) (frame : Frame) → IsProgram p → HasShape p.plan.behaviour frame → HasSizes p.code frame
sizes p frame rules shape = record { vars = shape.vars ∙ sym rules.means.vars; held = shape.held ∙ sym rules.means.ins }

pub memory_left : (f : NodeFields) (step : ℕ) (job : JobValue) (memory : Memory) → Keeps f → f.phase ≡ Running step
    → job ≡ job_at (value_of f) step → IsLeft job f.frame f.row.items memory
    → IsMemoryFor (arc_value f.plan).code memory
memory_left f step job memory keeps runs is left =
    let p = arc_value f.plan in
    let fit = sizes p f.frame keeps.program keeps.frame in
    record {
      frame = subst (HasSizes p.code) (sym (left.frame_is ∙ ap (λ (j : JobValue). j.work.frame) is)) fit;
      inputs =
          ap length (left.inputs_are ∙ ap (λ (j : JobValue). j.work.inputs) is)
          ∙ inputs_size f step [] (runs_open f step keeps runs) ∙ sym keeps.program.means.ins;
      result = subst (HasSizes p.code) (sym left.result_is) fit;
      outs = ap length left.outs_are ∙ keeps.row;
      room = subst (λ (j : JobValue). IsRoomOf j.code memory.room) is left.room_is;
    }
