use Rattle.std.proofs.Common.{length}
use Rattle.step_vm.proofs.MachineInvariant.{Task, IsUnderWay, left}
use Rattle.step_vm.proofs.steps.run_from.Given as goal

abbrev pub invariant-loop-next : goal.invariant-loop-next
invariant-loop-next l =
    let t : Task = record {
      parts = l.parts;
      held = l.inputs.held.now;
      inputs = l.inputs.present.now;
      entry = l.entry;
      slots = l.initial.slots;
      outs = l.initial.outs;
    } in
    IsUnderWay t (length l.parts.instrs) l.place l.stack.numbers l.slots l.outs l.stack.size

abbrev pub decreases-loop-next : goal.decreases-loop-next
decreases-loop-next l =
    let t : Task = record {
      parts = l.parts;
      held = l.inputs.held.now;
      inputs = l.inputs.present.now;
      entry = l.entry;
      slots = l.initial.slots;
      outs = l.initial.outs;
    } in
    left t l.place l.stack.numbers l.slots l.outs
