-- A run's answers report one end: two ends are equal, and no run both has all its rounds and ends before. In time no
-- end is a stop.
use Rattle.std.proofs.Common.{◌≡◌, ◌∙◌, ◌⊎◌, inl, inr, ℕ, ◌<◌, Bool, true, false, List, length, ◌++◌, Some, None, sym}
use Rattle.std.proofs.Common.{ap, arith}
use Rattle.std.proofs.lemmas.Bool.{cases_lt}
use Rattle.std.proofs.lemmas.List.{append-nil, get_or_past}
use Rattle.pals_clock.specs.declared.clock.Clocks.{Clocks}
use Rattle.pals_clock.specs.declared.clock.Clocks.TheVariants.{Meet, Lists}
use Rattle.pals_model.specs.RoundTexts.{line_end, report}
use Rattle.pals_runs.specs.declared.phase.Phase.TheVariants.{Done}
use Rattle.pals_report.specs.ClockEndsAndVerdicts.{clock_end_line}
use Rattle.bus_machine.specs.declared.node_action.NodeAction.{NodeAction}
use Rattle.bus_machine.specs.Agreement.{Agrees}
use Rattle.bus_machine.specs.proof.AgreementLaws.{IsRunOf}
use Rattle.bus_machine.specs.Nodes.{NodeState}
use Rattle.bus_machine.specs.Plans.{plan_of}
use Rattle.bus_machine.specs.BusStates.{BusState, node_at, no_node}
use Rattle.bus_machine.specs.RunParameters.{Run}
use Rattle.run_laws.specs.ListRunEndsAndStops.{AllAtEnd}
use Rattle.run_laws.specs.proof.TimelyRunsAndEnds.{InTime, NoneStops, EndsFirst, EndsAgree, AllPicked, PickedAreDone}
use Rattle.run_laws.specs.Meetings.{AllDone}
use Rattle.run_laws.specs.NodeActions.{upcoming}
use Rattle.run_laws.proofs.TimelyRunsAndEnds.{done_or_ended, one_first}
use Rattle.run_texts.specs.RunTexts.{RunOutcome, IsCompletedRun, IsStoppedRun, IsEndedRun, EndsAt}
use Rattle.answer_laws.specs.proof.RunAnswers.{ShowsRounds}

-- ---- what ends first
-- a node with something to do is there
is_there : (run : Run) (s : BusState) (node : ℕ) (action : NodeAction) → Agrees run s
    → upcoming (plan_of run.design node) (node_at s node) ≡ Some action
    → node < length run.design.components
is_there run s node action agree next = elim (cases_lt node (length run.design.components)) [
  | inl within ↦ within
  | inr past ↦
      let count = agree.node_count in
      let none : node_at s node ≡ no_node = get_or_past s.nodes node no_node (omega (arith, past, count)) in
      let both : None ≡ Some action = sym (ap (λ (n : NodeState). upcoming (plan_of run.design node) n) none) ∙ next in
      absurd (cc)
]

first_of : (run : Run) (later : Clocks) (s : BusState) (node goal : ℕ) → Agrees run s → EndsAt run later s node goal
    → ((other : ℕ) → other < node → (node_at s other).phase ≡ Done) → EndsFirst run later s node goal
first_of run Meet s node goal agree ends before = ends
first_of run (Lists lists) s node goal agree ends before =
    (record { within = is_there run s node ends.0.0 agree ends.0.1; ended = ends.0; before = before }, ends.1)

-- no list ends if all nodes are done
done_at_end : (run : Run) (later : Clocks) (s : BusState) → AllDone run s → AllAtEnd run later s
done_at_end run Meet s done = done
done_at_end run (Lists lists) s done = λ node within. inl (done node within)

done_or_first : (run : Run) (later : Clocks) (s : BusState) (node goal : ℕ) → AllDone run s
    → EndsFirst run later s node goal → ⊥
done_or_first run Meet s node goal done first = first
done_or_first run (Lists lists) s node goal done first =
    done_or_ended run lists s node (done node first.0.within) first.0.ended

-- ---- two ends
module _ (run : Run) (clocks : Clocks) (rules : IsRunOf run) where
  ends_first : (a : List ℕ) → (x : IsEndedRun run clocks a)
      → EndsFirst run x.outcome.later x.outcome.state x.node x.goal
  ends_first a x = first_of run x.outcome.later x.outcome.state x.node x.goal x.outcome.keeps.agrees x.ends x.first

  module _ (one_end : EndsAgree) where
    by_end : (x y : RunOutcome run clocks) → AllAtEnd run x.later x.state → AllAtEnd run y.later y.state
        → (AllDone run x.state × AllDone run y.state)
        ⊎ ((node goal : ℕ) × EndsFirst run x.later x.state node goal × EndsFirst run y.later y.state node goal)
    by_end x y over end =
        one_end run x.later y.later x.journal y.journal x.state y.state rules x.runs y.runs
        (x.lists ∙ sym y.lists) over end

    -- the same line names the node
    pub two_ended : (a b : List ℕ) → IsEndedRun run clocks a → IsEndedRun run clocks b → a ≡ b
    two_ended a b x y = elim (by_end x.outcome y.outcome x.all y.all) [
      | inl done ↦ absurd (done_or_first run x.outcome.later x.outcome.state x.node x.goal done.0 (ends_first a x))
      | inr one ↦
          let mine = one_first run x.outcome.later x.outcome.state x.node one.0 x.goal one.1 (ends_first a x) one.2 in
          let its = one_first run y.outcome.later y.outcome.state y.node one.0 y.goal one.1 (ends_first b y) one.3 in
          let node = mine.0 ∙ sym its.0 in
          let goal = mine.1 ∙ sym its.1 in
          x.text_is ∙ ((λ i. clock_end_line run.design (node i) (goal i) ++ line_end) ∙ sym y.text_is)
    ]

    pub completed_or_ended : (trace : Bool) (a b : List ℕ) → IsCompletedRun run clocks trace a
        → IsEndedRun run clocks b → ⊥
    completed_or_ended trace a b x y =
        elim (by_end x.outcome y.outcome (done_at_end run x.outcome.later x.outcome.state x.done) y.all) [
          | inl done ↦ done_or_first run y.outcome.later y.outcome.state y.node y.goal done.1 (ends_first b y)
          | inr one ↦ done_or_first run x.outcome.later x.outcome.state one.0 one.1 x.done one.2
        ]

  -- ---- in time
  pub going_on : NoneStops → InTime run clocks → (a : List ℕ) → IsStoppedRun run clocks a → ⊥
  going_on none in_time a x =
      let going =
      none run x.outcome.later x.outcome.journal x.outcome.state rules x.outcome.runs clocks x.outcome.lists in_time in
      let both : None ≡ Some x.why = sym going ∙ x.stop in
      absurd (cc)

  -- no list has ended if each has a pick for its last target
  pub none_ended : PickedAreDone → AllPicked run clocks → (a : List ℕ) → IsEndedRun run clocks a → ⊥
  none_ended are picked a x =
      let done =
      are run x.outcome.later x.outcome.journal x.outcome.state rules x.outcome.runs clocks x.outcome.lists
      picked x.all in
      done_or_first run x.outcome.later x.outcome.state x.node x.goal done (ends_first a x)

  pub shows_rounds : (trace : Bool) (a : List ℕ) → IsCompletedRun run clocks trace a → ShowsRounds run trace a
  shows_rounds false a x = x.text_is ∙ append-nil (report run.design run.env run.rounds)
  shows_rounds true a x = (x.outcome.journal, x.text_is)
