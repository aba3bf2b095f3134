-- The machine that runs step code makes the states of the machine that is defined by behaviours.
use Rattle.std.proofs.Common.{◌≡◌, inl, inr, ℕ, ◌<◌, true, List, [], length, take, slice_get, Some}
use Rattle.std.proofs.Common.{refl, sym, ap, ◌∙◌, subst, arith}
use Rattle.std.specs.Prelude.{is_some, slice_index_or}
use Rattle.std.proofs.lemmas.Bool.{cases_lt, false≢true}
use Rattle.std.proofs.lemmas.Option.{slice_get-get_or, same_Some}
use Rattle.std.proofs.lemmas.List.{get_or_past}
use Rattle.list_lemmas.proofs.Options.{some_by_test}
use Rattle.pals_base.specs.declared.basic_types.PortValue.{PortValue}
use Rattle.pals_base.specs.SingleStep.{HasShape}
use Rattle.pals_base.specs.Tuples.{with_places}
use Rattle.step_code.specs.declared.instr.CodeParts.{CodeParts}
use Rattle.step_code.specs.proof.CodeRuns.{Leaves}
use Rattle.pals_model.specs.declared.design.Component.{Component}
use Rattle.pals_model.specs.Composition.{comp, state}
use Rattle.pals_base.specs.StepSequences.{Stepped}
use Rattle.pals_model.specs.ComponentInputs.{input_vectors}
use Rattle.pals_model.proofs.FirstMatches.{at_element}
use Rattle.pals_model.proofs.ShapeLaws.{feed_has_vectors, steps_keep_shape, is_behaviour, state_has_shape}
use Rattle.pals_runs.specs.declared.journal.JournalEntry.{JournalEntry}
use Rattle.pals_runs.specs.declared.phase.Phase.{Phase}
use Rattle.pals_runs.specs.declared.phase.Phase.TheVariants.{Waiting, Running, Between, Holding, Done}
use Rattle.bus_machine.specs.Agreement.{Agrees, IsInRound, PhaseAgrees}
use Rattle.bus_machine.specs.BusStates.{BusState, no_node, node_at, with_node}
use Rattle.bus_machine.specs.Nodes.{NodeState}
use Rattle.bus_machine.specs.NodeEvents.{running_step, finished, finished_with, fired}
use Rattle.bus_machine.specs.Plans.{plan_of, component_at}
use Rattle.bus_machine.specs.RunParameters.{Run}
use Rattle.bus_machine.specs.Machine.{BusEvent, Start, Step, Finish, Send, Arrive, Drop, Repeat, after, is_allowed}
use Rattle.bus_machine.specs.Machine.{on_step}
use Rattle.bus_machine.specs.Replay.{Replays, opens as replay_opens, goes_on as replay_goes_on}
use Rattle.bus_machine.specs.proof.AgreementLaws.{IsRunOf}
use Rattle.bus_machine.proofs.MessageAndRunAgreement.{replay_agrees}
use Rattle.pals_bus.specs.proof.StepCodesOfNodes.{AreCodes}
use Rattle.code_machine.specs.proof.CodeMachine.{executed, left_by, finished_by_code, after_by_code, CodeReplays}
use Rattle.code_machine.specs.proof.CodeMachine.{opens, goes_on, SameReplays, NoneIsStuck}

module _ (run : Run) (codes : List CodeParts) (rules : IsRunOf run) (are : AreCodes run.design codes) where
  -- ---- one step
  module _ (s : BusState) (agrees : Agrees run s) (node step : ℕ) (within : node < length run.design.components)
      (runs : (node_at s node).phase ≡ Running step) where
    abbrev n : NodeState
    n = node_at s node

    abbrev c : Component
    c = component_at run.design node

    is_c : slice_get run.design.components node ≡ Some c
    is_c = slice_get-get_or run.design.components node _ within

    in_round : IsInRound run node c n step
    in_round = subst (PhaseAgrees run node c n) runs (agrees.nodes node c is_c).phase

    shape : HasShape c.behaviour n.frame
    shape =
        let way = in_round.under_way in
        let frame_is = ap (λ (r : Stepped). r.frame) way.reached in
        subst (HasShape c.behaviour) (sym frame_is)
        (steps_keep_shape c.behaviour (state run.design run.env node way.round)
        (take step (input_vectors run.design run.env (comp run.design run.env way.round).messages node way.round))
        (is_behaviour run.design node c rules.design is_c)
        (state_has_shape run.design run.env node way.round c rules.design is_c))

    inputs_fit : length (slice_index_or n.vectors step []) ≡ length c.behaviour.ins
    inputs_fit =
        let way = in_round.under_way in
        let vectors = input_vectors run.design run.env (comp run.design run.env way.round).messages node way.round in
        let are_vectors =
        feed_has_vectors run.design run.env (comp run.design run.env way.round).messages node way.round c is_c in
        let many = are_vectors.count in
        let inside = in_round.within in
        let one : length (slice_index_or vectors step []) ≡ length c.behaviour.ins =
        at_element (λ (v : List PortValue). length v ≡ length c.behaviour.ins) vectors step
        (slice_index_or vectors step []) are_vectors.each
        (slice_get-get_or vectors step [] (omega (arith, many, inside))) in
        ap (λ (vs : List (List PortValue)). length (slice_index_or vs step [])) way.vectors ∙ one

    step_leaves : executed codes (plan_of run.design node) step n ≡ Leaves (fired (plan_of run.design node) step n)
    step_leaves =
        let many = are.count in
        (are.mean node (omega (arith, many, within))).steps n.frame (slice_index_or n.vectors step []) shape inputs_fit

    finish_same : finished_by_code codes (plan_of run.design node) run.rounds step n
        ≡ finished (plan_of run.design node) run.rounds step n
    finish_same =
        ap (λ ran. finished_with (plan_of run.design node) run.rounds step n (left_by ran)
        (with_places step (left_by ran).outs n.outs)) step_leaves

  -- a node that runs a step is one of the design
  in_design : (s : BusState) → Agrees run s → (node : ℕ) → is_some (running_step (node_at s node).phase) ≡ true
      → node < length run.design.components
  in_design s agrees node some = elim (cases_lt node (length run.design.components)) [
    | inl within ↦ within
    | inr past ↦
        let many = agrees.node_count in
        let none : node_at s node ≡ no_node = get_or_past s.nodes node no_node (omega (arith, many, past)) in
        absurd (false≢true (sym (ap (λ (k : NodeState). is_some (running_step k.phase)) none) ∙ some))
  ]

  running_by : (p : Phase) (step : ℕ) → running_step p ≡ Some step → p ≡ Running step
  running_by Waiting step is = absurd (cc)
  running_by (Running i) step is = ap Running (same_Some i step is)
  running_by (Between i) step is = absurd (cc)
  running_by Holding step is = absurd (cc)
  running_by Done step is = absurd (cc)

  -- ---- each event
  after_same : (s : BusState) → Agrees run s → (e : BusEvent) → is_allowed run s e ≡ true
      → after_by_code run codes s e ≡ after run s e
  after_same s agrees (Start node reading) allowed = refl
  after_same s agrees (Step node reading) allowed = refl
  after_same s agrees (Finish node) allowed =
      let n : NodeState = node_at s node.0 in
      let plan = plan_of run.design node.0 in
      let within = in_design s agrees node.0 allowed in
      let running = some_by_test (running_step n.phase) allowed in
      let runs = running_by n.phase running.0 running.1 in
      ap (λ o. on_step o s (λ step. with_node s node.0 (finished_by_code codes plan run.rounds step n))) running.1
      ∙ ap (with_node s node.0) (finish_same s agrees node.0 running.0 within runs)
      ∙ sym (ap (λ o. on_step o s (λ step. with_node s node.0 (finished plan run.rounds step n))) running.1)
  after_same s agrees (Send node reading) allowed = refl
  after_same s agrees (Arrive link round reading) allowed = refl
  after_same s agrees (Drop link round) allowed = refl
  after_same s agrees (Repeat link round) allowed = refl

  -- ---- each journal
  replays_by_code : (journal : List JournalEntry) (s : BusState) → Replays run journal s
      → CodeReplays run codes journal s
  replays_by_code journal s replay_opens = opens
  replays_by_code journal s (replay_goes_on {journal = before} {s = t} e old step) =
      let agrees = replay_agrees run before t rules old in
      goes_on e (replays_by_code before t old)
      (record {
        going = step.going;
        allowed = step.allowed;
        state = step.state ∙ sym (after_same t agrees e step.allowed);
      })

  code_replays : (journal : List JournalEntry) (s : BusState) → CodeReplays run codes journal s → Replays run journal s
  code_replays journal s opens = replay_opens
  code_replays journal s (goes_on {journal = before} {s = t} e old step) =
      let had = code_replays before t old in
      let agrees = replay_agrees run before t rules had in
      replay_goes_on e had
      (record {
        going = step.going;
        allowed = step.allowed;
        state = step.state ∙ after_same t agrees e step.allowed;
      })

  pub same_replays : SameReplays run codes
  same_replays journal s = record { 0 = replays_by_code journal s; 1 = code_replays journal s }

  pub none_is_stuck : NoneIsStuck run codes
  none_is_stuck journal s node step old within runs =
      step_leaves s (replay_agrees run journal s rules old) node step within runs
