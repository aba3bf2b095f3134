-- The law that buses preserve types: the values in the states of the bus are values of the composition.
use Rattle.std.proofs.Common.{◌≡◌, ◌∙◌, ℕ, zero, suc, List, [], length, map, take, slice_get, All, Option, Some, None}
use Rattle.std.proofs.Common.{sym, ap, subst}
use Rattle.std.specs.Prelude.{slice_index_or}
use Rattle.std.proofs.lemmas.List.Elements.{All-nil, All-take, All-weaker}
use Rattle.std.proofs.lemmas.Option.{same_Some}
use Rattle.pals_base.specs.declared.basic_types.PortValue.{PortValue}
use Rattle.pals_base.specs.declared.basic_types.PortValue.TheVariants.{Absent}
use Rattle.pals_base.specs.StepSequences.{Stepped}
use Rattle.pals_base.specs.UpwardNumbers.{upwards}
use Rattle.pals_base.proofs.UpwardNumbers.{All-map_upwards}
use Rattle.pals_model.specs.declared.design.Component.{Component}
use Rattle.pals_model.specs.declared.design.Link.{Link}
use Rattle.pals_model.specs.declared.design.DesignParts.{DesignParts}
use Rattle.pals_model.specs.declared.flight_copy.FlightCopy.{FlightCopy}
use Rattle.pals_model.specs.declared.environment.Env.{Env}
use Rattle.pals_model.specs.ComponentInputs.{values_at, input_vectors, inputs_in}
use Rattle.pals_model.specs.Composition.{comp, state, msg, part}
use Rattle.pals_model.specs.DesignRules.{IsDesign}
use Rattle.pals_model.specs.proof.ValuesFitKinds.{PortFits, TupleFits, PortsFit, FrameFits, link_kind, EnvFits}
use Rattle.pals_model.specs.proof.CompositionLaws.Kinds.{PartFits}
use Rattle.pals_model.proofs.CompositionLaws.{links_begin_absent}
use Rattle.pals_model.proofs.ShapeLaws.{is_behaviour, state_has_shape}
use Rattle.pals_model.proofs.AllElements.{index_fits}
use Rattle.pals_model.proofs.StepsKeepKinds.{frames_fit}
use Rattle.pals_model.proofs.RoundsKeepKinds.{states_fit, messages_fit, parts_fit}
use Rattle.pals_runs.specs.declared.phase.Phase.{Phase}
use Rattle.pals_runs.specs.declared.phase.Phase.TheVariants.{Waiting, Running, Between, Holding, Done}
use Rattle.bus_machine.specs.Plans.{plan_of}
use Rattle.bus_machine.specs.Nodes.{NodeState, StepWork, job_of, job_in}
use Rattle.bus_machine.specs.BusStates.{BusState, node_at, flight_at}
use Rattle.bus_machine.specs.RunParameters.{Run}
use Rattle.bus_machine.specs.NodeEvents.{slot_at}
use Rattle.bus_machine.specs.MissedMessages.{rounds_sent_on}
use Rattle.bus_machine.specs.Agreement.{IsAtRest, IsUnderWay, PhaseAgrees, SlotAgrees, IsCopy, Agrees}
use Rattle.kind_laws.specs.proof.BusKinds.{BusesFit}
use Rattle.kind_laws.proofs.InPortKinds.{MessagesFit, vectors_fit}

-- what waits on a link before a round: nothing, or the message of the round before
waiting_fit : (design : DesignParts) (env : Env) (round : ℕ) → IsDesign design → EnvFits design env
    → MessagesFit design (comp design env round).messages
unfolding msg
waiting_fit design env zero rules given number link is =
    let kind = link_kind design link in
    let message = slice_index_or (comp design env 0).messages number [] in
    All-weaker (λ p. p ≡ Absent) (PortFits kind) (λ p absent. subst (PortFits kind) (sym absent) tt) message
    (index_fits (λ (tuple : List PortValue). All (λ p. p ≡ Absent) tuple) (comp design env 0).messages number []
    (links_begin_absent design env) (All-nil (λ p. p ≡ Absent)))
waiting_fit design env (suc round) rules given number link is = messages_fit design env number round link rules given is

feed_fit : (design : DesignParts) (env : Env) (node round : ℕ) (c : Component) → IsDesign design → EnvFits design env
    → slice_get design.components node ≡ Some c
    → All (PortsFit c.behaviour.ins) (input_vectors design env (comp design env round).messages node round)
unfolding input_vectors
feed_fit design env node round c rules given is_c =
    let messages = (comp design env round).messages in
    subst (All (PortsFit c.behaviour.ins)) (sym (ap (inputs_in design (values_at env round) messages node) is_c))
    (vectors_fit design env round messages node c rules given (waiting_fit design env round rules given) is_c)

module _ (run : Run) (s : BusState) (rules : IsDesign run.design) (given : EnvFits run.design run.env)
    (agrees : Agrees run s) where
  -- ---- nodes
  module _ (node : ℕ) (c : Component) (is_c : slice_get run.design.components node ≡ Some c) where
    abbrev n : NodeState
    n = node_at s node

    at_rest : IsAtRest run node n → FrameFits c.behaviour n.frame
    at_rest rests =
        subst (FrameFits c.behaviour) (sym rests.frame) (states_fit run.design run.env node n.count c rules given is_c)

    under_way : (steps : ℕ) → IsUnderWay run node c n steps → FrameFits c.behaviour n.frame
    under_way steps way =
        let round = way.round in
        let before = state run.design run.env node round in
        let vectors = input_vectors run.design run.env (comp run.design run.env round).messages node round in
        subst (FrameFits c.behaviour) (sym (ap (λ (x : Stepped). x.frame) way.reached))
        (frames_fit c.behaviour before (take steps vectors) (is_behaviour run.design node c rules is_c)
        (state_has_shape run.design run.env node round c rules is_c)
        (states_fit run.design run.env node round c rules given is_c)
        (All-take (PortsFit c.behaviour.ins) steps vectors (feed_fit run.design run.env node round c rules given is_c)))

    frame_by : (phase : Phase) → PhaseAgrees run node c n phase → FrameFits c.behaviour n.frame
    frame_by Waiting agrees' = at_rest agrees'.0
    frame_by (Running step) agrees' = under_way step agrees'.under_way
    frame_by (Between steps) agrees' = under_way steps agrees'.0.under_way
    frame_by Holding agrees' = under_way c.rate agrees'.under_way
    frame_by Done agrees' = at_rest agrees'.0

    job_by : (phase : Phase) (job : StepWork) → PhaseAgrees run node c n phase
        → job_in (plan_of run.design node) n phase ≡ Some job → PortsFit c.behaviour.ins job.inputs
    job_by Waiting job agrees' out = absurd (cc)
    job_by (Running step) job agrees' out =
        let round = agrees'.under_way.round in
        let vectors = input_vectors run.design run.env (comp run.design run.env round).messages node round in
        subst (λ (w : StepWork). PortsFit c.behaviour.ins w.inputs)
        (same_Some (job_of (plan_of run.design node) n step) job out)
        (subst (λ (xs : List (List PortValue)). PortsFit c.behaviour.ins (slice_index_or xs step []))
        (sym agrees'.under_way.vectors)
        (index_fits (PortsFit c.behaviour.ins) vectors step []
        (feed_fit run.design run.env node round c rules given is_c) (λ p port is. tt)))
    job_by (Between steps) job agrees' out = absurd (cc)
    job_by Holding job agrees' out = absurd (cc)
    job_by Done job agrees' out = absurd (cc)

    parts_of : n.parts ≡ map (λ round. part run.design run.env node round) (upwards 0 (length n.parts))
        → All (PartFits run.design node c) n.parts
    parts_of are =
        subst (All (PartFits run.design node c)) (sym are)
        (All-map_upwards (PartFits run.design node c) (λ round. part run.design run.env node round) 0 (length n.parts)
        (λ round above below. parts_fit run.design run.env node round c rules given is_c))

  -- ---- links
  module _ (number : ℕ) (link : Link) (is_link : slice_get run.design.links number ≡ Some link) where
    slot_by : (count : ℕ) (o : Option (List PortValue)) (message : List PortValue) → SlotAgrees run number count o
        → o ≡ Some message → TupleFits (link_kind run.design link) message
    slot_by count None message agrees' full = absurd (cc)
    slot_by count (Some tuple) message agrees' full =
        subst (TupleFits (link_kind run.design link)) (sym agrees'.2 ∙ same_Some tuple message full)
        (messages_fit run.design run.env number agrees'.0 link rules given is_link)

    flight_by : All (λ (copy : FlightCopy). TupleFits (link_kind run.design link) copy.tuple) (flight_at s number)
    flight_by =
        All-weaker (IsCopy run number (rounds_sent_on run s number))
        (λ (copy : FlightCopy). TupleFits (link_kind run.design link) copy.tuple)
        (λ copy of. subst (TupleFits (link_kind run.design link)) (sym of.tuple)
        (messages_fit run.design run.env number copy.round link rules given is_link))
        (flight_at s number) (agrees.links number link is_link).flight

pub buses_fit : BusesFit
buses_fit run s rules given agrees = record {
  frames =
      λ node c is_c. frame_by run s rules given agrees node c is_c (node_at s node).phase
      (agrees.nodes node c is_c).phase;
  jobs =
      λ node c job is_c out. job_by run s rules given agrees node c is_c (node_at s node).phase job
      (agrees.nodes node c is_c).phase out;
  parts = λ node c is_c. parts_of run s rules given agrees node c is_c (agrees.nodes node c is_c).parts;
  slots = λ number link message is full.
      let n = node_at s link.target.0 in
      slot_by run s rules given agrees number link is n.count (slot_at n link.in_port) message
      (agrees.links number link is).slot full;
  flights = flight_by run s rules given agrees;
}
