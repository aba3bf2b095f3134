-- For `end_step` and `finish`: the state after the end of a step, and that it maintains the node's invariant.
use Rattle.std.proofs.Common.{◌≡◌, ◌∙◌, inl, inr, ℕ, ◌-◌, ◌≤◌, nat_eq, Bool, true, false, List, [], length}
use Rattle.std.proofs.Common.{slice_index_or, refl, sym, ap, ap₂, subst, arith}
use Rattle.std.specs.Prelude.{if◌then◌else◌}
use Rattle.std.specs.Arc.{arc_value}
use Rattle.std.proofs.lemmas.Bool.{eqb-true, eqb-false, cases_lt}
use Rattle.pals_base.specs.declared.basic_types.PortValue.{PortValue}
use Rattle.pals_base.specs.declared.frames.Frame.{Frame}
use Rattle.pals_base.specs.SingleStep.{Fired, HasShape}
use Rattle.pals_base.specs.Tuples.{with_places}
use Rattle.pals_runs.specs.declared.phase.Phase.TheVariants.{Running, Holding}
use Rattle.bus_machine.specs.declared.plan.Plan.{Plan}
use Rattle.bus_machine.specs.Nodes.{at_rest}
use Rattle.bus_machine.specs.NodeEvents.{fired, finished, finished_with}
use Rattle.pals_node.specs.declared.node_fields_and_events.NodeFields.{NodeFields}
use Rattle.std.proofs.lemmas.Option.{slice_get-get_or, get_or_from_slice_get}
use Rattle.step_code.specs.declared.instr.CodeParts.{CodeParts}
use Rattle.bus_machine.specs.Nodes.{StepWork}
use Rattle.pals_node.specs.proof.NodeAndJobValues.{Program, JobValue, job_value, job_at}
use Rattle.pals_node.specs.proof.NodeInvariants.{IsProgram, AreTuples, HasRound, IsOpen, PhaseKeeps, HasMessageRoom}
use Rattle.pals_node.specs.proof.NodeInvariants.{Keeps, state_of, value_of}
use Rattle.pals_node.specs.proof.JobMemories.{HasMemory}
use Rattle.pals_base.specs.declared.limits.TheConstants.{ROUNDS}
use Rattle.step_code.specs.proof.CodeRuns.{exec, Leaves}
use Rattle.step_vm.specs.proof.RoomCapacity.{IsRoomOf}
use Rattle.pals_node.proofs.TuplesSlotsAndZips.{length-with_places, places-with_places}
use Rattle.pals_node.proofs.ProgramResults.{fires, leaves_shape, leaves_outs}

-- outputs with one more place have the sizes that they had
pub outs_keep : (at count places : ℕ) (values : List PortValue) (tuples : List (List PortValue))
    → AreTuples count places tuples
    → AreTuples count places (with_places at values tuples)
outs_keep at count places values tuples are =
    record {
      count_is = length-with_places at values tuples ∙ are.count_is;
      places_are = places-with_places at places values tuples are.places_are;
    }

-- between two rounds a node waits for the next one, or is done
pub rests : (plan : Plan) (f : NodeFields) (b : Bool) → f.sent ≡ true → f.count ≤ f.rounds → nat_eq f.count f.rounds ≡ b
    → PhaseKeeps plan f (at_rest b)
rests plan f true sent most is = (sent, eqb-true f.count f.rounds is)
rests plan f false sent most is = (
  sent,
  (let not_all = eqb-false f.count f.rounds is in
      elim (cases_lt f.count f.rounds) [ inl below ↦ below | inr past ↦ absurd (not_all (omega arith)) ]),
)

-- the step of the job that is out is the machine's
pub ends_as_finished : (plan : Plan) (f : NodeFields) (rounds step : ℕ) (result : Fired)
    → result ≡ fired plan step (state_of f)
    → finished_with plan rounds step (state_of f) result (with_places step result.outs f.outs)
    ≡ finished plan rounds step (state_of f)
ends_as_finished plan f rounds step result is =
    ap (λ (r : Fired). finished_with plan rounds step (state_of f) r (with_places step r.outs f.outs)) is

-- after the last step a round is at rest, or held until it is sent
pub after_keeps : (plan : Plan) (f : NodeFields) (sent : Bool) → f.sent ≡ sent → f.count ≤ f.rounds → HasRound plan f
    → PhaseKeeps plan f (if sent then at_rest (nat_eq f.count f.rounds) else Holding)
after_keeps plan f true is most round = rests plan f (nat_eq f.count f.rounds) is most refl
after_keeps plan f false is most round = (round, is)

-- ---- a step that is made
-- what the code left is what the machine's step leaves
pub record IsMade (f : NodeFields) (step : ℕ) (frame : Frame) (outs : List PortValue) : Type 0 where
  pub fired_is : (let made : Fired = record { frame = frame; outs = outs } in made)
      ≡ fired (arc_value f.plan).plan step (state_of f)
  pub shape : HasShape (arc_value f.plan).plan.behaviour frame
  pub count_is : length outs ≡ length (arc_value f.plan).plan.behaviour.outs

-- a node that runs a step is in its round
pub runs_open : (f : NodeFields) (step : ℕ) → Keeps f → f.phase ≡ Running step → IsOpen (arc_value f.plan).plan f step
runs_open f step keeps runs = subst (PhaseKeeps (arc_value f.plan).plan f) runs keeps.phase_keeps

-- the inputs of that step
pub inputs_size : (f : NodeFields) (step : ℕ) (d : List PortValue) → IsOpen (arc_value f.plan).plan f step
    → length (slice_index_or f.vectors step d) ≡ length (arc_value f.plan).plan.behaviour.ins
inputs_size f step d round =
    let count = round.round.vectors.count_is in
    let within = round.within in
    round.round.vectors.places_are step d (omega arith)

pub makes : (f : NodeFields) (step : ℕ) (frame : Frame) (outs : List PortValue) → Keeps f → f.phase ≡ Running step
    → exec (arc_value f.plan).code f.frame (slice_index_or f.vectors step [])
    ≡ Leaves (record { frame = frame; outs = outs }) → IsMade f step frame outs
makes f step frame outs keeps runs left =
    let p = arc_value f.plan in
    let inputs = slice_index_or f.vectors step [] in
    let size = inputs_size f step [] (runs_open f step keeps runs) in
    let is = fires p f.frame inputs (record { frame = frame; outs = outs }) keeps.program keeps.frame size left in
    record {
      fired_is = is;
      shape =
          subst (λ (r : Fired). HasShape p.plan.behaviour r.frame) (sym is)
          (leaves_shape p f.frame inputs keeps.program keeps.frame);
      count_is = ap (λ (r : Fired). length r.outs) is ∙ leaves_outs p f.frame inputs keeps.program keeps.frame;
    }

-- ---- the unchanged parts
-- everything that a node stores, except its phase
pub record KeepsRest (f : NodeFields) : Type 0 where
  pub program : IsProgram (arc_value f.plan)
  pub rounds : f.rounds ≤ ROUNDS
  pub count : f.count ≤ f.rounds
  pub frame : HasShape (arc_value f.plan).plan.behaviour f.frame
  pub slots : length f.slots ≡ length (arc_value f.plan).plan.inputs
  pub messages_keep : HasMessageRoom (arc_value f.plan).plan f.sent f.messages
  pub room : IsRoomOf (arc_value f.plan).code f.room
  pub row : length f.row.items ≡ (arc_value f.plan).code.outs
  pub spare : HasMemory (arc_value f.plan).code f.spare

pub keeps_on : (old new : NodeFields) → KeepsRest old
    → new ≡ record old { phase = new.phase; outs = new.outs; parts = new.parts; next_part = new.next_part }
    → PhaseKeeps (arc_value old.plan).plan new new.phase → Keeps new
keeps_on old new rest same phase =
    let all : Keeps (record old {
      phase = new.phase;
      outs = new.outs;
      parts = new.parts;
      next_part = new.next_part;
    }) = record {
      program = rest.program;
      rounds = rest.rounds;
      count = rest.count;
      frame = rest.frame;
      slots = rest.slots;
      phase_keeps = subst (λ f. PhaseKeeps (arc_value old.plan).plan f new.phase) same phase;
      messages_keep = rest.messages_keep;
      room = rest.room;
      row = rest.row;
      spare = rest.spare;
    } in
    subst Keeps (sym same) all

-- ---- the job that is out
pub input_at : (f : NodeFields) (step : ℕ) (inputs : List PortValue) → IsOpen (arc_value f.plan).plan f step
    → inputs ≡ slice_index_or f.vectors step inputs → inputs ≡ slice_index_or f.vectors step []
input_at f step inputs round is =
    let count = round.round.vectors.count_is in
    let below = round.within in
    is ∙ sym (get_or_from_slice_get f.vectors step (slice_index_or f.vectors step inputs) []
    (slice_get-get_or f.vectors step inputs (omega arith)))

pub job_is : (f : NodeFields) (step : ℕ) (program : Program) (inputs : List PortValue)
    → IsOpen (arc_value f.plan).plan f step
    → program ≡ arc_value f.plan → inputs ≡ slice_index_or f.vectors step inputs
    → job_value program (f.count - 1) step f.frame inputs ≡ job_at (value_of f) step
job_is f step program inputs round same is =
    ap₂ (λ (p : Program) (i : List PortValue). job_value p (f.count - 1) step f.frame i) same
    (input_at f step inputs round is)

-- a job is its code and its step
pub same_job : (a b : JobValue) → a.code ≡ b.code → a.work ≡ b.work → a ≡ b
same_job a b code work =
    ap₂ (λ (c : CodeParts) (w : StepWork). let job : JobValue = record { code = c; work = w } in job) code work
