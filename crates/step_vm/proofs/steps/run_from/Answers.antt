use Rattle.std.proofs.Common.{Some, length, pos, subst, sym, arith, slice_index_or}
use Rattle.step_code.specs.declared.instr.Instr.TheVariants.{Push}
use Rattle.step_code.specs.InstructionEffects.{step}
use Rattle.step_code.specs.InstructionsPerStep.{step_inputs}
use Rattle.step_vm.specs.proof.MachineAnswers.{Met}
use Rattle.step_vm.proofs.MachineInvariant.{Task, IsTask, IsUnderWay, begins_at, here_at, ready, goes_on, fewer}
use Rattle.step_vm.proofs.MachineInvariant.{ends_in, traps_in}
use Rattle.step_vm.proofs.steps.run_from.Goals as goal

pub loop-next-init : goal.loop-next-init
loop-next-init c =
    let t : Task = record {
      parts = c.args.parts.now;
      held = c.args.inputs.held.now;
      inputs = c.args.inputs.present.now;
      entry = c.args.entry;
      slots = c.args.slots.now;
      outs = c.args.outs.now;
    } in
    let is : IsTask t = record {
      verified = c.requires.verified;
      among = c.requires.entry;
      slots' = c.requires.slots;
      outs' = c.requires.outs;
      held' = c.requires.held;
      inputs' = c.requires.present;
    } in
    let size = length c.args.parts.now.instrs in
    subst (λ s. IsUnderWay t size c.args.entry s.numbers c.args.slots.now c.args.outs.now s.size) (sym c.requires.stack)
    (begins_at t size is)

pub advance-requires-clause-operands : goal.advance-requires-clause-operands
advance-requires-clause-operands c =
    let t : Task = record {
      parts = c.args.parts.now;
      held = c.args.inputs.held.now;
      inputs = c.args.inputs.present.now;
      entry = c.args.entry;
      slots = c.args.slots.now;
      outs = c.args.outs.now;
    } in
    let is : IsTask t = record {
      verified = c.requires.verified;
      among = c.requires.entry;
      slots' = c.requires.slots;
      outs' = c.requires.outs;
      held' = c.requires.held;
      inputs' = c.requires.present;
    } in
    let size = length c.args.parts.now.instrs in
    let l = c.loop-next in
    let xs = c.as_slice-instrs.result.now in
    let i = slice_index_or xs l.place (Push (pos 0)) in
    let here =
    here_at t size l.place l.stack.size l.stack.numbers l.slots l.outs xs (Push (pos 0)) l.invariant
    c.as_slice-instrs.ensures.value in
    let ready' = ready t size l.place l.stack.size i l.stack.numbers l.slots l.outs is l.invariant here in
    ready'.operands

pub advance-requires-clause-there : goal.advance-requires-clause-there
advance-requires-clause-there c =
    let t : Task = record {
      parts = c.args.parts.now;
      held = c.args.inputs.held.now;
      inputs = c.args.inputs.present.now;
      entry = c.args.entry;
      slots = c.args.slots.now;
      outs = c.args.outs.now;
    } in
    let is : IsTask t = record {
      verified = c.requires.verified;
      among = c.requires.entry;
      slots' = c.requires.slots;
      outs' = c.requires.outs;
      held' = c.requires.held;
      inputs' = c.requires.present;
    } in
    let size = length c.args.parts.now.instrs in
    let l = c.loop-next in
    let xs = c.as_slice-instrs.result.now in
    let i = slice_index_or xs l.place (Push (pos 0)) in
    let here =
    here_at t size l.place l.stack.size l.stack.numbers l.slots l.outs xs (Push (pos 0)) l.invariant
    c.as_slice-instrs.ensures.value in
    let ready' = ready t size l.place l.stack.size i l.stack.numbers l.slots l.outs is l.invariant here in
    ready'.there

pub advance-requires-clause-room : goal.advance-requires-clause-room
advance-requires-clause-room c =
    let t : Task = record {
      parts = c.args.parts.now;
      held = c.args.inputs.held.now;
      inputs = c.args.inputs.present.now;
      entry = c.args.entry;
      slots = c.args.slots.now;
      outs = c.args.outs.now;
    } in
    let is : IsTask t = record {
      verified = c.requires.verified;
      among = c.requires.entry;
      slots' = c.requires.slots;
      outs' = c.requires.outs;
      held' = c.requires.held;
      inputs' = c.requires.present;
    } in
    let size = length c.args.parts.now.instrs in
    let l = c.loop-next in
    let xs = c.as_slice-instrs.result.now in
    let i = slice_index_or xs l.place (Push (pos 0)) in
    let here =
    here_at t size l.place l.stack.size l.stack.numbers l.slots l.outs xs (Push (pos 0)) l.invariant
    c.as_slice-instrs.ensures.value in
    let ready' = ready t size l.place l.stack.size i l.stack.numbers l.slots l.outs is l.invariant here in
    let low = ready'.low in
    let kept = l.invariant.kept in
    let within = l.invariant.stands.within in
    omega arith

pub loop-next-preserved : goal.loop-next-preserved
loop-next-preserved c =
    let t : Task = record {
      parts = c.args.parts.now;
      held = c.args.inputs.held.now;
      inputs = c.args.inputs.present.now;
      entry = c.args.entry;
      slots = c.args.slots.now;
      outs = c.args.outs.now;
    } in
    let is : IsTask t = record {
      verified = c.requires.verified;
      among = c.requires.entry;
      slots' = c.requires.slots;
      outs' = c.requires.outs;
      held' = c.requires.held;
      inputs' = c.requires.present;
    } in
    let size = length c.args.parts.now.instrs in
    let l = c.loop-next in
    let xs = c.as_slice-instrs.result.now in
    let i = slice_index_or xs l.place (Push (pos 0)) in
    let here =
    here_at t size l.place l.stack.size l.stack.numbers l.slots l.outs xs (Push (pos 0)) l.invariant
    c.as_slice-instrs.ensures.value in
    let a = c.advance in
    let met =
    subst (λ r. Met r a.new.stack.numbers a.new.slots a.new.outs
    (step (Some i) (step_inputs t.held t.inputs) l.place l.stack.numbers l.slots l.outs)) c.in-Goes.is
    a.ensures.met in
    goes_on t size l.place l.stack.size a.new.stack.size c.in-Goes.next i l.stack.numbers l.slots a.new.stack.numbers
    a.new.slots l.outs a.new.outs is l.invariant here met a.ensures.size

pub loop-next-smaller : goal.loop-next-smaller
loop-next-smaller c =
    let t : Task = record {
      parts = c.args.parts.now;
      held = c.args.inputs.held.now;
      inputs = c.args.inputs.present.now;
      entry = c.args.entry;
      slots = c.args.slots.now;
      outs = c.args.outs.now;
    } in
    let is : IsTask t = record {
      verified = c.requires.verified;
      among = c.requires.entry;
      slots' = c.requires.slots;
      outs' = c.requires.outs;
      held' = c.requires.held;
      inputs' = c.requires.present;
    } in
    let size = length c.args.parts.now.instrs in
    let l = c.loop-next in
    let xs = c.as_slice-instrs.result.now in
    let i = slice_index_or xs l.place (Push (pos 0)) in
    let here =
    here_at t size l.place l.stack.size l.stack.numbers l.slots l.outs xs (Push (pos 0)) l.invariant
    c.as_slice-instrs.ensures.value in
    let a = c.advance in
    let met =
    subst (λ r. Met r a.new.stack.numbers a.new.slots a.new.outs
    (step (Some i) (step_inputs t.held t.inputs) l.place l.stack.numbers l.slots l.outs)) c.in-Goes.is
    a.ensures.met in
    fewer t size l.place l.stack.size c.in-Goes.next i l.stack.numbers l.slots a.new.stack.numbers a.new.slots l.outs
    a.new.outs is l.invariant here met

pub returns-in-Ends-clause-ended : goal.returns-in-Ends-clause-ended
returns-in-Ends-clause-ended c =
    let t : Task = record {
      parts = c.args.parts.now;
      held = c.args.inputs.held.now;
      inputs = c.args.inputs.present.now;
      entry = c.args.entry;
      slots = c.args.slots.now;
      outs = c.args.outs.now;
    } in
    let is : IsTask t = record {
      verified = c.requires.verified;
      among = c.requires.entry;
      slots' = c.requires.slots;
      outs' = c.requires.outs;
      held' = c.requires.held;
      inputs' = c.requires.present;
    } in
    let size = length c.args.parts.now.instrs in
    let l = c.loop-next in
    let xs = c.as_slice-instrs.result.now in
    let i = slice_index_or xs l.place (Push (pos 0)) in
    let here =
    here_at t size l.place l.stack.size l.stack.numbers l.slots l.outs xs (Push (pos 0)) l.invariant
    c.as_slice-instrs.ensures.value in
    let a = c.advance in
    let met =
    subst (λ r. Met r a.new.stack.numbers a.new.slots a.new.outs
    (step (Some i) (step_inputs t.held t.inputs) l.place l.stack.numbers l.slots l.outs)) c.in-Ends.is
    a.ensures.met in
    ends_in t size l.place l.stack.size c.in-Ends.state i l.stack.numbers l.slots a.new.slots l.outs a.new.outs is
    l.invariant here met

pub returns-in-Traps-clause-ended : goal.returns-in-Traps-clause-ended
returns-in-Traps-clause-ended c =
    let t : Task = record {
      parts = c.args.parts.now;
      held = c.args.inputs.held.now;
      inputs = c.args.inputs.present.now;
      entry = c.args.entry;
      slots = c.args.slots.now;
      outs = c.args.outs.now;
    } in
    let is : IsTask t = record {
      verified = c.requires.verified;
      among = c.requires.entry;
      slots' = c.requires.slots;
      outs' = c.requires.outs;
      held' = c.requires.held;
      inputs' = c.requires.present;
    } in
    let size = length c.args.parts.now.instrs in
    let l = c.loop-next in
    let xs = c.as_slice-instrs.result.now in
    let i = slice_index_or xs l.place (Push (pos 0)) in
    let here =
    here_at t size l.place l.stack.size l.stack.numbers l.slots l.outs xs (Push (pos 0)) l.invariant
    c.as_slice-instrs.ensures.value in
    let a = c.advance in
    let met =
    subst (λ r. Met r a.new.stack.numbers a.new.slots a.new.outs
    (step (Some i) (step_inputs t.held t.inputs) l.place l.stack.numbers l.slots l.outs)) c.in-Traps.is
    a.ensures.met in
    traps_in t size l.place l.stack.size i c.in-Traps.trap l.stack.numbers l.slots l.outs is l.invariant here met
