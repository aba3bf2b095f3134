-- What a list of events within the bounds leaves is a sound trace if all nodes are done, and else it is unfinished.
use Rattle.std.proofs.Common.{◌≡◌, ℕ, ◌+◌, ◌≤◌, ◌<◌, Bool, true, false, not, ◌&&◌, cond, nat_eq, List, [], ◌∷◌, ◌++◌}
use Rattle.std.proofs.Common.{length}
use Rattle.std.proofs.Common.{map, min, Some, None, inr, suc, subst, refl, sym, ap, ap₂, ◌∙◌, arith}
use Rattle.std.specs.Prelude.{is_some, is_none, slice_index_or}
use Rattle.std.specs.List.{fold, list_all}
use Rattle.std.proofs.lemmas.List.{length-append, length-map}
use Rattle.pals_base.specs.declared.limits.TheConstants.{ROUNDS}
use Rattle.pals_model.specs.RoundTexts.{report_lines}
use Rattle.pals_runs.specs.declared.events_and_faults.Event.{Event}
use Rattle.pals_runs.specs.declared.journal.JournalEntry.{JournalEntry}
use Rattle.pals_runs.specs.declared.phase.Phase.TheVariants.{Done}
use Rattle.pals_runs.specs.declared.verdicts.Verdict.TheVariants.{Sound, Wrong}
use Rattle.pals_runs.specs.JournalLines.{entry_line}
use Rattle.bus_machine.specs.Nodes.{NodeState}
use Rattle.bus_machine.specs.BusStates.{BusState, no_node, node_at, finished_by_all}
use Rattle.bus_machine.specs.RunParameters.{Run}
use Rattle.bus_machine.specs.Agreement.{Agrees, PhaseAgrees}
use Rattle.bus_machine.specs.Plans.{component_at}
use Rattle.bus_machine.specs.proof.AgreementLaws.{IsRunOf}
use Rattle.bus_machine.proofs.MessageAndRunAgreement.{replay_agrees}
use Rattle.run_laws.proofs.HistoryReplay.{replays}
use Rattle.run_laws.proofs.NodePicksAndRunReplay.{component_is}
use Rattle.run_laws.specs.EventLists.{IsWithin, world_left}
use Rattle.run_laws.specs.HistoriesAndTraces.{IsTraceOf}
use Rattle.run_laws.specs.Meetings.{AllDone}
use Rattle.run_laws.specs.TraceVerdicts.{opening_audit, is_done, wrong_or, verdict}
use Rattle.run_laws.specs.Worlds.{opening_world}
use Rattle.run_laws.proofs.HistoryVerdicts.{traces_are_sound, passes, first_has_form}
use Rattle.run_laws.proofs.RuleKeepingLines.{audited, verdict_is}
use Rattle.run_laws.proofs.SoundTraces.{done_at}
use Rattle.run_laws.proofs.TraceAndJournalVerdicts.{behind_report}
use Rattle.trace_laws.specs.WorldTraces.{bus_left, journal_of, trace_of_events, IsCarriedInTime, IsRecorded}
use Rattle.trace_laws.specs.proof.PutOffArrivals.{emptied, IsPutOff}
use Rattle.trace_laws.proofs.EmptiedNodes.{emptied_at}
use Rattle.trace_laws.proofs.WorldHistories.{lists_are_histories}
use Rattle.pals_runs.specs.declared.verdicts.TraceRule.TheVariants as rule

-- ---- nodes with empty slots have finished as many rounds
least_of : (least : ℕ) (ns : List NodeState)
    → fold (λ m (n : NodeState). min m (length n.parts)) least (map emptied ns)
    ≡ fold (λ m (n : NodeState). min m (length n.parts)) least ns
least_of least [] = refl
least_of least (n ∷ ns) = least_of (min least (length n.parts)) ns

finished_same : (run : Run) (w t : BusState) → t.nodes ≡ map emptied w.nodes
    → finished_by_all run t ≡ finished_by_all run w
finished_same run w t same =
    ap (fold (λ m (n : NodeState). min m (length n.parts)) run.rounds) same ∙ least_of run.rounds w.nodes

done_same : (run : Run) (w t : BusState) → t.nodes ≡ map emptied w.nodes → AllDone run w → AllDone run t
done_same run w t same done node within =
    ap (λ (n : NodeState). n.phase) (emptied_at w t node same) ∙ done node within

-- all nodes have finished as many rounds
all_finished : (rounds : ℕ) (ns : List NodeState)
    → ((k : ℕ) → k < length ns → length (slice_index_or ns k no_node).parts ≡ rounds)
    → fold (λ m (n : NodeState). min m (length n.parts)) rounds ns ≡ rounds
all_finished rounds [] each = refl
all_finished rounds (n ∷ ns) each =
    let first : length n.parts ≡ rounds = each 0 (omega arith) in
    let least : min rounds (length n.parts) ≡ rounds = omega (arith, first) in
    ap (λ m. fold (λ l (k : NodeState). min l (length k.parts)) m ns) least
    ∙ all_finished rounds ns (λ k within. each (suc k) (omega (arith, within)))

-- some node is not done
not_all : (run : Run) (t : BusState) (b : Bool) → list_all (λ (n : NodeState). is_done n.phase) t.nodes ≡ b
    → ¬ AllDone run t → b ≡ false
not_all run t true is some = absurd (some (λ node within. done_at t.nodes node is))
not_all run t false is some = refl

module _ (run : Run) (events : List Event) (rules : IsRunOf run) (t : BusState)
    (put : IsPutOff run (world_left run (opening_world run) events) (journal_of run events) t) where
  abbrev bus : BusState
  bus = bus_left run events

  abbrev journal : List JournalEntry
  journal = journal_of run events

  agrees : Agrees run t
  agrees = replay_agrees run journal t rules (replays run journal t put.history)

  parts_of : AllDone run t → (k : ℕ) → k < length t.nodes → length (node_at t k).parts ≡ run.rounds
  parts_of all k within =
      let many = agrees.node_count in
      let inside : k < length run.design.components = omega (arith, many, within) in
      let c = component_at run.design k in
      let rests : PhaseAgrees run k c (node_at t k) Done =
      subst (PhaseAgrees run k c (node_at t k)) (all k inside) (agrees.nodes k c (component_is run k inside)).phase in
      rests.0.finished ∙ rests.1

  trace : AllDone run bus → IsTraceOf run (trace_of_events run events) run.rounds None
  trace done =
      let all = done_same run bus t put.nodes done in
      record {
        journal = journal;
        state = t;
        lines_are = ap (λ rows. report_lines run.design run.env rows ++ map (entry_line run.design) journal)
            (sym (finished_same run bus t put.nodes));
        of_design = put.of_design;
        history = put.history;
        over = inr all;
        rounds_are = sym (all_finished run.rounds t.nodes (λ k within. parts_of all k within));
        stop_is = sym put.going;
      }

  unfinished : ¬ AllDone run bus
      → verdict run (trace_of_events run events) ≡ Wrong (length (trace_of_events run events)) rule.Unfinished
  unfinished some =
      let rows = finished_by_all run bus in
      let report = report_lines run.design run.env rows in
      let lines = map (entry_line run.design) journal in
      let at = passes run journal t rules.design put.history put.of_design in
      let a = audited run (opening_audit run) journal in
      let i : ℕ = length report + length journal in
      let none : list_all (λ (n : NodeState). is_done n.phase) t.nodes ≡ false =
      not_all run t (list_all (λ (n : NodeState). is_done n.phase) t.nodes) refl
      (λ done. some (λ node within. sym (ap (λ (n : NodeState). n.phase) (emptied_at bus t node put.nodes))
      ∙ done node within)) in
      let many : i ≡ length (report ++ lines) =
      (let size = length-append report lines in
      let same = length-map journal (entry_line run.design) in omega (arith, size, same)) in
      behind_report run rows lines rules.design (first_has_form run.design journal rules.design put.of_design)
      ∙ verdict_is run rows (length report) (opening_audit run) journal at.0
      ∙ ap₂ (λ (b : BusState) o. wrong_or i
      (cond (is_some o) (Some rule.Stop)
      (cond (is_none b.stop && not (list_all (λ (n : NodeState). is_done n.phase) b.nodes)) (Some rule.Unfinished)
      (cond (nat_eq rows (finished_by_all run b)) None (Some rule.Count)))) (Sound rows b.stop))
      at.1.bus at.1.owed
      ∙ ap₂ (λ o b. wrong_or i
      (cond (is_none o && not b) (Some rule.Unfinished)
      (cond (nat_eq rows (finished_by_all run t)) None (Some rule.Count)))
      (Sound rows t.stop)) put.going none
      ∙ ap (λ n. Wrong n rule.Unfinished) many

pub worlds_are_traces : (run : Run) (events : List Event) → IsRunOf run → run.rounds ≤ ROUNDS → IsCarriedInTime run
    → IsWithin run (opening_world run) events → IsRecorded run events
worlds_are_traces run events rules few carried within =
    let put = lists_are_histories run events rules few carried within in
    record {
      state = put.0;
      history = put.1.history;
      trace = trace run events rules put.0 put.1;
      sound = λ done. traces_are_sound run (trace_of_events run events) run.rounds None rules
          (trace run events rules put.0 put.1 done);
      unfinished = unfinished run events rules put.0 put.1;
    }
