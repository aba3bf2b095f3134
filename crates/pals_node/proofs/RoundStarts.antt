-- For `start` and `first_job`: the state after the start of a round, and that the start maintains the node's invariant.
use Rattle.std.proofs.Common.{◌≡◌, ◌∙◌, ℕ, suc, ◌+◌, ◌-◌, ◌<◌, false, List, [], ◌∷◌, length, map, replicate, Option}
use Rattle.std.proofs.Common.{slice_index_or, refl, sym, ap, ap₂, subst, arith}
use Rattle.std.specs.Prelude.{zip}
use Rattle.std.specs.Arc.{arc_value}
use Rattle.std.proofs.lemmas.List.{length-map, length-replicate}
use Rattle.std.proofs.lemmas.List.Elements.{All-replicate, All-weaker}
use Rattle.std.proofs.lemmas.Option.{slice_get-get_or, get_or_from_slice_get}
use Rattle.pals_base.specs.declared.basic_types.PortValue.{PortValue}
use Rattle.pals_base.specs.declared.basic_types.PortValue.TheVariants.{Absent}
use Rattle.pals_base.specs.declared.frames.Frame.{Frame}
use Rattle.pals_base.specs.SingleStep.{initial}
use Rattle.pals_base.proofs.ColumnsAndCutTuples.{length-columns, length-each_column}
use Rattle.pals_model.specs.declared.part.Part.{Part}
use Rattle.pals_runs.specs.declared.phase.Phase.TheVariants.{Running}
use Rattle.bus_machine.specs.declared.plan.Input.{Input}
use Rattle.bus_machine.specs.declared.plan.Plan.{Plan}
use Rattle.bus_machine.specs.Nodes.{brought, vectors_of}
use Rattle.bus_machine.specs.NodeEvents.{started}
use Rattle.pals_node.specs.declared.node_fields_and_events.NodeFields.{NodeFields}
use Rattle.pals_node.specs.proof.NodeAndJobValues.{NodeValue, with_state, job_value}
use Rattle.pals_node.specs.proof.NodeInvariants.{IsPlan, AreTuples, IsPartRoom, state_of, value_of}
use Rattle.pals_node.proofs.TuplesSlotsAndZips.{no_message}

-- ---- sizes
pub absent_are : (count places : ℕ) → AreTuples count places (replicate count (replicate places Absent))
absent_are count places =
    record {
      count_is = length-replicate count (replicate places Absent);
      places_are = All-replicate (λ tuple. length tuple ≡ places) count (replicate places Absent)
          (length-replicate places Absent);
    }

length-zip : {X Y : Type 0} (xs : List X) (ys : List Y) → length ys ≡ length xs → length (zip xs ys) ≡ length xs
length-zip [] ys same = refl
length-zip (x ∷ xs) [] same = absurd (omega arith)
length-zip (x ∷ xs) (y ∷ ys) same = ap suc (length-zip xs ys (omega arith))

pub vectors_are : (plan : Plan) (env : List PortValue) (slots : List (Option (List PortValue))) → IsPlan plan
    → length slots ≡ length plan.inputs → AreTuples plan.rate (length plan.behaviour.ins) (vectors_of plan env slots)
vectors_are plan env slots rules same =
    let tuples = map (λ (p : Input × Option (List PortValue)). brought plan.rate env p.0 p.1) (zip plan.inputs slots) in
    let size : length tuples ≡ length plan.behaviour.ins = length-map (zip plan.inputs slots) _
    ∙ length-zip plan.inputs slots same ∙ rules.inputs in
    record {
      count_is = length-columns plan.rate tuples;
      places_are =
          All-weaker (λ c. length c ≡ length tuples) (λ c. length c ≡ length plan.behaviour.ins) (λ c is. is ∙ size)
          (vectors_of plan env slots) (length-each_column plan.rate tuples);
    }

pub part_room : (plan : Plan) (part : Part) → part.frame ≡ initial plan.behaviour
    → part.outs ≡ replicate (length plan.taps) (replicate plan.rate Absent) → IsPartRoom plan part
part_room plan part frame outs = record {
  vars = ap (λ (f : Frame). length f.vars) frame ∙ length-map plan.behaviour.vars _;
  held = ap (λ (f : Frame). length f.held) frame ∙ length-replicate (length plan.behaviour.ins) _;
  outs = subst (AreTuples (length plan.taps) plan.rate) (sym outs) (absent_are (length plan.taps) plan.rate);
}

-- ---- the value
abbrev started_value : NodeFields → List (Option (List PortValue)) → List (List PortValue) → List (List PortValue)
    → List Part → NodeValue
started_value f slots vectors outs parts =
    with_state (value_of f) (record (state_of f) {
      count = f.count + 1;
      phase = Running 0;
      slots = slots;
      vectors = vectors;
      outs = outs;
      sent = false;
      parts = parts;
    })

pub starts_value : (f : NodeFields) (env : List PortValue) (vectors outs : List (List PortValue)) (parts : List Part)
    → vectors ≡ vectors_of (arc_value f.plan).plan env f.slots
    → outs ≡ replicate (length (arc_value f.plan).plan.behaviour.outs) (replicate (arc_value f.plan).plan.rate Absent)
    → parts ≡ f.parts.items
    → started_value f (map (λ (_ : Option (List PortValue)). no_message) f.slots) vectors outs parts
    ≡ with_state (value_of f) (started (arc_value f.plan).plan env (state_of f))
starts_value f env vectors outs parts is_vectors is_outs is_parts =
    ap (λ v. started_value f (map (λ (_ : Option (List PortValue)). no_message) f.slots) v outs parts) is_vectors
    ∙ ap₂ (λ o p. started_value f (map (λ (_ : Option (List PortValue)). no_message) f.slots)
    (vectors_of (arc_value f.plan).plan env f.slots) o p) is_outs is_parts

-- the job of the first step
pub first_job : (f : NodeFields) (vectors : List (List PortValue)) (inputs : List PortValue) → 0 < length vectors
    → inputs ≡ slice_index_or vectors 0 inputs
    → job_value (arc_value f.plan) f.count 0 f.frame inputs
    ≡ job_value (arc_value f.plan) (f.count + 1 - 1) 0 f.frame (slice_index_or vectors 0 [])
first_job f vectors inputs some is =
    let round : f.count ≡ f.count + 1 - 1 = omega arith in
    let input : inputs ≡ slice_index_or vectors 0 [] = is
    ∙ sym (get_or_from_slice_get vectors 0 (slice_index_or vectors 0 inputs) []
    (slice_get-get_or vectors 0 inputs some)) in
    ap₂ (λ r i. job_value (arc_value f.plan) r 0 f.frame i) round input
