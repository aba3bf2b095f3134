-- A step and a finish: one node changes, and its count, its slots and its sent rounds stay.
use Rattle.std.proofs.Common.{◌≡◌, ◌≢◌, ℕ, ◌-◌, ◌<◌, ◌≤◌, true, List, [], ◌∷◌, ◌++◌, length, map, Some}
use Rattle.std.proofs.Common.{None, refl, sym, ap, ap₂, ◌∙◌, subst, arith}
use Rattle.std.specs.Prelude.{is_some, slice_index_or, Bool, if◌then◌else◌}
use Rattle.std.specs.Option.{unwrap_or}
use Rattle.std.proofs.lemmas.Option.{same_Some}
use Rattle.std.proofs.lemmas.List.Elements.{All-append, All-cons, All-nil}
use Rattle.list_lemmas.proofs.Options.{some_by_test}
use Rattle.pals_base.specs.declared.basic_types.NodeNo.{NodeNo}
use Rattle.pals_base.specs.declared.limits.TheConstants.{ROUNDS, READING}
use Rattle.pals_base.specs.UpwardNumbers.{upwards}
use Rattle.pals_model.specs.DesignRules.{IsComponent}
use Rattle.pals_model.proofs.FirstMatches.{at_element}
use Rattle.pals_runs.specs.declared.phase.Phase.{Phase}
use Rattle.pals_runs.specs.declared.phase.Phase.TheVariants.{Waiting, Running, Between, Holding, Done}
use Rattle.pals_runs.specs.declared.journal.JournalEntry.{JournalEntry}
use Rattle.bus_machine.specs.Nodes.{NodeState, round_of, sent_rounds}
use Rattle.bus_machine.specs.NodeEvents.{slot_at, next_step, running_step, stepped, finished}
use Rattle.bus_machine.specs.BusStates.{BusState, node_at, flight_at, with_node}
use Rattle.bus_machine.specs.AlarmsAndReleases.{step_alarm}
use Rattle.bus_machine.specs.Plans.{plan_of, link_at, component_at}
use Rattle.bus_machine.specs.RunParameters.{Run}
use Rattle.bus_machine.specs.Machine.{BusEvent, Step, Finish, after, is_allowed, on_step}
use Rattle.bus_machine.specs.Replay.{entries}
use Rattle.bus_machine.specs.Agreement.{PhaseAgrees}
use Rattle.bus_machine.specs.proof.AgreementLaws.{IsRunOf}
use Rattle.bus_machine.proofs.NodeEventLocalAgreement.{finish_keeps}
use Rattle.bus_machine.proofs.NodeReplacement.{keeps_at}
use Rattle.run_laws.specs.EntriesOfDesigns.{IsEntryIn}
use Rattle.run_laws.specs.EntryEventsAndReadings.{timed}
use Rattle.run_laws.specs.HistoriesAndTraces.{History, IsInTime, goes_on}
use Rattle.run_laws.specs.JournalReadings.{latest}
use Rattle.run_laws.specs.Worlds.{World, reading_at, world_after}
use Rattle.run_laws.specs.proof.WorldInvariant.{KeepsTime}
use Rattle.run_laws.proofs.FaultlessEventConditions.{FaultlessStep, FaultlessFinish}
use Rattle.run_laws.proofs.LocalWorldChanges.{KeepsRounds}
use Rattle.run_laws.proofs.NodePicksAndRunReplay.{component_is}
use Rattle.run_laws.proofs.WorldNodeTiming.{phase_agrees, rounds_at_most}
use Rattle.run_laws.proofs.WorldTimeRanges.{times_are_readings}
use Rattle.trace_laws.specs.proof.PutOffArrivals.{emptied, flying, LinksArePutOff, IsPutOff}
use Rattle.trace_laws.specs.WorldTraces.{recorded}
use Rattle.trace_laws.proofs.EmptiedNodes.{emptied_at, emptied_set, finished_emptied}
use Rattle.trace_laws.proofs.JournalReadings.{ShowsClock, one_more_at_most}
use Rattle.pals_runs.specs.declared.events_and_faults.Event.TheVariants as event
use Rattle.pals_runs.specs.declared.journal.JournalEntry.TheVariants as entry

-- ---- links
pub local_links : (run : Run) (w t : BusState) (node : ℕ) (m : NodeState) → KeepsRounds (node_at w node) m
    → LinksArePutOff run w t → LinksArePutOff run (with_node w node m) (with_node t node (emptied m))
local_links run w t node m same links number within =
    let source = (link_at run.design number).source.0 in
    let target = (link_at run.design number).target.0 in
    let port = (link_at run.design number).in_port in
    let bus = with_node w node m in
    let before = links number within in
    let count : (node_at bus target).count ≡ (node_at w target).count =
    keeps_at (λ (n : NodeState). n.count) w node target m same.count in
    let slot : slot_at (node_at bus target) port ≡ slot_at (node_at w target) port =
    keeps_at (λ (n : NodeState). slot_at n port) w node target m
    (ap (λ held. slice_index_or held port None) same.slots) in
    let sent : sent_rounds (node_at bus source) ≡ sent_rounds (node_at w source) =
    keeps_at (λ (n : NodeState). sent_rounds n) w node source m same.sent in
    record {
      rounds = before.rounds ∙ ap₂ (λ c s. upwards (c - 1) (s - (c - 1))) (sym count) (sym sent);
      flight = before.flight ∙ ap (λ o. flying o (flight_at t number)) (sym slot);
      due = before.due;
    }

-- ---- an event of one node
-- what the event does, in the world and in the history, and the entry that it leaves
pub record IsLocal (run : Run) (w v : World) (journal : List JournalEntry) (t : BusState) (e : BusEvent) (node : ℕ)
    (m : NodeState) (x : JournalEntry) : Type 0 where
  pub bus_is : v.bus ≡ with_node w.bus node m
  pub readings_are : v.readings ≡ w.readings
  pub keeps : KeepsRounds (node_at w.bus node) m
  pub allowed : is_allowed run t e ≡ true
  pub state : after run t e ≡ with_node t node (emptied m)
  pub in_time : IsInTime run journal t e
  pub entry_is : entries run t e ≡ x ∷ []
  pub of_design : IsEntryIn run.design x
  pub shows : ShowsClock (reading_at w) (timed run.design x)

pub local_event : (run : Run) (w v : World) (journal : List JournalEntry) (t : BusState) (e : BusEvent) (node : ℕ)
    (m : NodeState) (x : JournalEntry) → IsPutOff run w journal t → IsLocal run w v journal t e node m x
    → IsPutOff run v (journal ++ x ∷ []) (with_node t node (emptied m))
local_event run w v journal t e node m x put does = record {
  history =
      subst (λ told. History run (journal ++ told) (with_node t node (emptied m))) does.entry_is
      (goes_on e put.history (record { going = put.going; allowed = does.allowed; state = sym does.state })
      does.in_time);
  of_design = All-append (IsEntryIn run.design) journal (x ∷ []) put.of_design
      (All-cons (IsEntryIn run.design) x [] does.of_design (All-nil (IsEntryIn run.design)));
  going = put.going;
  nodes = emptied_set w.bus t node (emptied m) m put.nodes refl
      ∙ ap (λ (b : BusState). map emptied b.nodes) (sym does.bus_is);
  links =
      subst (λ b. LinksArePutOff run b (with_node t node (emptied m))) (sym does.bus_is)
      (local_links run w.bus t node m does.keeps put.links);
  read = λ k within.
      let most = one_more_at_most run.design (reading_at w) journal x k (put.read k within) does.shows in
      subst (λ readings. latest run.design k (journal ++ x ∷ [])
      ≤ slice_index_or readings k 0) (sym does.readings_are) most;
}

-- ---- phases
between_by : (p : Phase) (step : ℕ) → next_step p ≡ Some step → p ≡ Between step
between_by Waiting step is = absurd (cc)
between_by (Running i) step is = absurd (cc)
between_by (Between i) step is = ap Between (same_Some i step is)
between_by Holding step is = absurd (cc)
between_by Done step is = absurd (cc)

running_by : (p : Phase) (step : ℕ) → running_step p ≡ Some step → p ≡ Running step
running_by Waiting step is = absurd (cc)
running_by (Running i) step is = ap Running (same_Some i step is)
running_by (Between i) step is = absurd (cc)
running_by Holding step is = absurd (cc)
running_by Done step is = absurd (cc)

-- ---- ranges
module _ (run : Run) (w : World) (rules : IsRunOf run) (few : run.rounds ≤ ROUNDS) (keeps : KeepsTime run w) where
  pub count_in_range : (node : ℕ) → node < length run.design.components → (node_at w.bus node).count ≤ ROUNDS
  count_in_range node within = let most = rounds_at_most run w rules keeps node within in omega arith

  pub reading_in_range : (node : ℕ) → node < length run.design.components → (node_at w.bus node).phase ≢ Done
      → reading_at w node ≤ READING
  reading_in_range node within busy = (times_are_readings run w rules few keeps).clocks node within busy

-- ---- a step and a finish
module _ (run : Run) (w : World) (journal : List JournalEntry) (t : BusState) (rules : IsRunOf run)
    (few : run.rounds ≤ ROUNDS) (keeps : KeepsTime run w) (put : IsPutOff run w journal t) (node : NodeNo) where
  abbrev here : NodeState
  here = node_at w.bus node.0

  at : node_at t node.0 ≡ emptied here
  at = emptied_at w.bus t node.0 put.nodes

  step_is_local : (fine : FaultlessStep run w node) (step : ℕ) → next_step here.phase ≡ Some step
      → IsLocal run w (world_after run w (event.Step node)) journal t (Step node (Some (reading_at w node.0))) node.0
      (stepped step here) (entry.Step node (round_of here) step (Some (reading_at w node.0)))
  step_is_local fine step next =
      let reading : ℕ = reading_at w node.0 in
      let between : here.phase ≡ Between step = between_by here.phase step next in
      let round : PhaseAgrees run node.0 (component_at run.design node.0) here (Between step) =
      subst (PhaseAgrees run node.0 (component_at run.design node.0) here) between
      (phase_agrees run w rules keeps node.0 fine.within) in
      let small = (at_element (IsComponent run.design.period) run.design.components node.0
      (component_at run.design node.0) rules.design.components.each (component_is run node.0 fine.within)).rate.1 in
      let inside = round.0.within in
      let many : step ≤ ROUNDS = omega (arith, small, inside) in
      let count = count_in_range run w rules few keeps node.0 fine.within in
      let due : step_alarm (plan_of run.design node.0) here step ≤ reading =
      subst (λ o. step_alarm (plan_of run.design node.0) here (unwrap_or o 0) ≤ reading) next fine.due in
      record {
        bus_is = ap (λ o. on_step o w.bus (λ i. with_node w.bus node.0 (stepped i here))) next;
        readings_are = refl;
        keeps = record { count = refl; slots = refl; sent = refl };
        allowed = ap (λ (n : NodeState). is_some (next_step n.phase)) at ∙ ap is_some next;
        state =
            ap (λ (n : NodeState). on_step (next_step n.phase) t (λ i. with_node t node.0 (stepped i n))) at
            ∙ ap (λ o. on_step o t (λ i. with_node t node.0 (stepped i (emptied here)))) next;
        in_time = record {
          step = step;
          next = ap (λ (n : NodeState). next_step n.phase) at ∙ next;
          read = record {
            at = reading;
            reading_is = refl;
            rises = put.read node.0 fine.within;
            from_then =
                subst (λ (n : NodeState). step_alarm (plan_of run.design node.0) n step ≤ reading) (sym at) due;
          };
        };
        entry_is =
            ap (λ (n : NodeState). entry.Step node (round_of n) (unwrap_or (next_step n.phase) 0) (Some reading) ∷ [])
            at
            ∙ ap (λ o. entry.Step node (round_of here) (unwrap_or o 0) (Some reading) ∷ []) next;
        of_design = (
          (
            fine.within,
            (let fewer : here.count - 1 ≤ ROUNDS = omega (arith, count) in fewer),
            reading_in_range run w rules few keeps node.0 fine.within
                (λ done. absurd (let no : Between step ≡ Done = sym between ∙ done in cc)),
          ),
          many,
        );
        shows = refl;
      }

  finish_is_local : (fine : FaultlessFinish run w node) (step : ℕ) → running_step here.phase ≡ Some step
      → IsLocal run w (world_after run w (event.Finish node)) journal t (Finish node) node.0
      (finished (plan_of run.design node.0) run.rounds step here) (entry.Finish node (round_of here))
  finish_is_local fine step runs =
      let plan = plan_of run.design node.0 in
      let kept = finish_keeps plan run.rounds step here in
      let count = count_in_range run w rules few keeps node.0 fine.within in
      record {
        bus_is = ap (λ o. on_step o w.bus (λ i. with_node w.bus node.0 (finished plan run.rounds i here))) runs;
        readings_are = refl;
        keeps = record {
          count = kept.0;
          slots = kept.1;
          sent = ap₂ (λ (b : Bool) (k : ℕ). if b then k else (k - 1)) kept.2 kept.0;
        };
        allowed = ap (λ (n : NodeState). is_some (running_step n.phase)) at ∙ ap is_some runs;
        state =
            ap (λ (n : NodeState). on_step (running_step n.phase) t
            (λ i. with_node t node.0 (finished plan run.rounds i n))) at
            ∙ ap (λ o. on_step o t (λ i. with_node t node.0 (finished plan run.rounds i (emptied here)))) runs
            ∙ ap (with_node t node.0) (finished_emptied plan run.rounds step here);
        in_time = tt;
        entry_is = ap (λ (n : NodeState). entry.Finish node (round_of n) ∷ []) at;
        of_design = (
          fine.within,
          (let fewer : here.count - 1 ≤ ROUNDS = omega (arith, count) in fewer),
          tt,
        );
        shows = tt;
      }

  pub step_put_off : (fine : FaultlessStep run w node)
      → (u : BusState) × IsPutOff run (world_after run w (event.Step node))
      (journal ++ recorded run w (event.Step node)) u
  step_put_off fine =
      let next = some_by_test (next_step here.phase) fine.waits in
      let reading : ℕ = reading_at w node.0 in
      let told : recorded run w (event.Step node) ≡ entry.Step node (round_of here) next.0 (Some reading) ∷ [] =
      ap (λ o. entry.Step node (round_of here) (unwrap_or o 0) (Some reading) ∷ []) next.1 in (
        with_node t node.0 (emptied (stepped next.0 here)),
        subst (λ more. IsPutOff run (world_after run w (event.Step node)) (journal ++ more)
            (with_node t node.0 (emptied (stepped next.0 here)))) (sym told)
            (local_event run w (world_after run w (event.Step node)) journal t (Step node (Some reading)) node.0
            (stepped next.0 here) (entry.Step node (round_of here) next.0 (Some reading)) put
            (step_is_local fine next.0 next.1)),
      )

  pub finish_put_off : (fine : FaultlessFinish run w node)
      → (u : BusState)
      × IsPutOff run (world_after run w (event.Finish node)) (journal ++ recorded run w (event.Finish node)) u
  finish_put_off fine =
      let runs = some_by_test (running_step here.phase) fine.runs in
      let ended : NodeState = finished (plan_of run.design node.0) run.rounds runs.0 here in (
        with_node t node.0 (emptied ended),
        local_event run w (world_after run w (event.Finish node)) journal t (Finish node) node.0 ended
            (entry.Finish node (round_of here)) put (finish_is_local fine runs.0 runs.1),
      )
