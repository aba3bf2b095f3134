-- The events of nodes that respect their clocks form a history.
use Rattle.std.proofs.Common.{◌≡◌, ℕ, ◌+◌, ◌*◌, ◌≤◌, true, List, Option, Some, None, refl, subst, arith}
use Rattle.std.specs.Prelude.{is_some}
use Rattle.std.specs.Option.{unwrap_or}
use Rattle.std.proofs.lemmas.Bool.{false≢true}
use Rattle.pals_base.specs.PeriodBoundAndReleases.{alarm}
use Rattle.pals_base.specs.declared.basic_types.NodeNo.{NodeNo}
use Rattle.pals_clock.specs.declared.clock.Clocks.{Clocks}
use Rattle.pals_clock.specs.declared.clock.Clocks.TheVariants.{Lists}
use Rattle.pals_runs.specs.declared.journal.JournalEntry.{JournalEntry}
use Rattle.bus_machine.specs.Plans.{plan_of, link_at}
use Rattle.bus_machine.specs.Nodes.{round_of}
use Rattle.bus_machine.specs.NodeEvents.{next_step}
use Rattle.bus_machine.specs.BusStates.{BusState, node_at}
use Rattle.bus_machine.specs.RunParameters.{Run}
use Rattle.bus_machine.specs.Machine.{BusEvent, Start, Step, Finish, Send, Arrive, Drop, Repeat, is_allowed}
use Rattle.bus_machine.specs.ActionsAndTargets.{target}
use Rattle.bus_machine.specs.proof.AgreementLaws.{IsRunOf}
use Rattle.bus_machine.specs.declared.node_action.NodeAction.{NodeAction}
use Rattle.bus_machine.specs.declared.node_action.NodeAction.TheVariants as action
use Rattle.run_laws.specs.Runs.{Does, KeepsTo, Runs, next_start, opens as run_opens, picks_for, goes_on as run_goes_on}
use Rattle.run_laws.proofs.BoundsBrokenAtStops.{no_less}
use Rattle.run_laws.proofs.MeetingReadings.{no_fall}
use Rattle.run_laws.proofs.MeetingLines.{step_now}
use Rattle.run_laws.proofs.EventReadings.{does_read}
use Rattle.run_laws.proofs.StartAndSendReadings.{shown_for, send_round}
use Rattle.run_laws.specs.HistoriesAndTraces.{IsRead, IsInTime, History, opens, goes_on}
use Rattle.run_laws.specs.proof.RunTraces.{RunsAreHistories}

-- each action has a reading of the node's clock, at least its target
read_for : (run : Run) (clocks : Clocks) (journal : List JournalEntry) (s : BusState) (node : NodeNo)
    (reading : Option ℕ) (a : NodeAction) (least : ℕ) → IsRunOf run → Runs run clocks journal s
    → (d : Does run clocks s node reading a) → least ≤ d.at
    → IsRead run journal node.0 reading least
read_for run clocks journal s node reading a least rules runs d from_then = record {
  at = d.at;
  reading_is = d.reading_is;
  rises = no_fall run rules clocks journal s runs node.0 d.at (does_read run clocks s node reading a d);
  from_then = from_then;
}

target_shown : (run : Run) (clocks : Clocks) (s : BusState) (node : NodeNo) (reading : Option ℕ) (a : NodeAction)
    → (d : Does run clocks s node reading a) → target (plan_of run.design node.0) a ≤ d.at
target_shown run clocks s node reading a d =
    no_less clocks _ d.at (shown_for run clocks s node.0 (target (plan_of run.design node.0) a) d.at d.shows)

some_is : (o : Option ℕ) → is_some o ≡ true → o ≡ Some (unwrap_or o 0)
some_is None is = absurd (false≢true is)
some_is (Some k) is = refl

event_in_time : (run : Run) (clocks : Clocks) (journal : List JournalEntry) (s : BusState) (e : BusEvent) → IsRunOf run
    → Runs run clocks journal s → KeepsTo run clocks s e → is_allowed run s e ≡ true → IsInTime run journal s e
event_in_time run clocks journal s (Start node reading) rules runs keeps may =
    let a = next_start s node in
    record {
      read = read_for run clocks journal s node reading a (target (plan_of run.design node.0) a) rules runs
          keeps.does (target_shown run clocks s node reading a keeps.does);
      taken = keeps.taken;
    }
event_in_time run clocks journal s (Step node reading) rules runs keeps may =
    let n = node_at s node.0 in
    let plan = plan_of run.design node.0 in
    let i = unwrap_or (next_step n.phase) 0 in
    let a = action.Step keeps.0 keeps.1 in
    let d = keeps.2 in
    let now = step_now plan n n.phase keeps.0 keeps.1 d.next in
    let due : alarm plan.period (round_of n) + i * plan.step_period ≤ d.at =
    subst (λ (r : ℕ). alarm plan.period r + i * plan.step_period ≤ d.at) now.0
    (subst (λ k. alarm plan.period keeps.0 + k * plan.step_period ≤ d.at) now.1
    (target_shown run clocks s node reading a d)) in
    record {
      step = i;
      next = some_is (next_step n.phase) may;
      read = read_for run clocks journal s node reading a (alarm plan.period (round_of n) + i * plan.step_period)
          rules runs d due;
    }
event_in_time run clocks journal s (Finish node) rules runs keeps may = tt
event_in_time run clocks journal s (Send node reading) rules runs keeps may =
    let n = node_at s node.0 in
    let plan = plan_of run.design node.0 in
    let a = action.Send keeps.0 in
    let d = keeps.1 in
    let due : alarm plan.period (round_of n) + plan.release_offset ≤ d.at =
    subst (λ (r : ℕ). alarm plan.period r + plan.release_offset ≤ d.at) (send_round plan n n.phase keeps.0 d.next)
    (target_shown run clocks s node reading a d) in
    read_for run clocks journal s node reading a (alarm plan.period (round_of n) + plan.release_offset) rules runs d due
event_in_time run clocks journal s (Arrive link round reading) rules runs keeps may =
    let node = (link_at run.design link.0).target in
    record {
      read = read_for run clocks journal s node reading (next_start s node) 0 rules runs keeps.does
          (omega arith);
      copy = keeps.copy;
      is_copy = keeps.is_copy;
      due = keeps.due;
    }
event_in_time run clocks journal s (Drop link round) rules runs keeps may = absurd keeps
event_in_time run clocks journal s (Repeat link round) rules runs keeps may = absurd keeps

history_of : (run : Run) (clocks : Clocks) (journal : List JournalEntry) (s : BusState) → IsRunOf run
    → Runs run clocks journal s → History run journal s
history_of run clocks journal s rules (run_opens clocks' begin) = opens
history_of run clocks journal s rules (picks_for {clocks = before} node runs picks) =
    history_of run (Lists before) journal s rules runs
history_of run clocks journal s rules (run_goes_on {journal = before} {s = t} e runs keeps step) =
    goes_on e (history_of run clocks before t rules runs) step
    (event_in_time run clocks before t e rules runs keeps step.allowed)

pub runs_are_histories : RunsAreHistories
runs_are_histories run clocks journal s rules runs = history_of run clocks journal s rules runs
