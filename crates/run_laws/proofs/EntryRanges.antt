-- The numbers of a run's entries are within their limits.
use Rattle.std.proofs.Common.{◌≡◌, inl, inr, ℕ, suc, ◌+◌, ◌-◌, ◌*◌, ◌<◌, ◌≤◌, nat_lt, Bool, true, false, cond, List, []}
use Rattle.std.proofs.Common.{◌∷◌, length, take, slice_get, All, Option, Some, None, refl, sym, subst, arith}
use Rattle.std.specs.Option.{unwrap_or}
use Rattle.std.proofs.lemmas.Bool.{eqb-true}
use Rattle.std.proofs.lemmas.Grind.{common_steps}
use Rattle.std.proofs.lemmas.List.Elements.{All-nil, All-cons, All-tail, All-append}
use Rattle.std.proofs.lemmas.Option.{same_Some, slice_get_within, slice_get-get_or}
use Rattle.pals_base.specs.declared.limits.TheConstants.{ROUNDS, READING, HOUR}
use Rattle.pals_base.specs.declared.basic_types.NodeNo.{NodeNo}
use Rattle.pals_base.specs.declared.basic_types.LinkNo.{LinkNo}
use Rattle.pals_base.specs.PeriodBoundAndReleases.{alarm}
use Rattle.pals_base.specs.ClockPicks.{remaining_from}
use Rattle.pals_clock.specs.ClockStates.{left_after}
use Rattle.pals_model.specs.DesignRules.{IsComponent, IsLink}
use Rattle.pals_model.proofs.FirstMatches.{at_element}
use Rattle.pals_runs.specs.declared.phase.Phase.{Phase}
use Rattle.pals_runs.specs.declared.phase.Phase.TheVariants.{Waiting, Running, Between, Holding, Done}
use Rattle.pals_runs.specs.declared.journal.Arrived.{Arrived}
use Rattle.pals_runs.specs.declared.journal.Arrived.TheVariants.{Kept, Ignored, Early}
use Rattle.pals_runs.specs.declared.journal.Stop.TheVariants as stop
use Rattle.pals_runs.specs.declared.journal.JournalEntry.{JournalEntry}
use Rattle.pals_runs.specs.declared.journal.JournalEntry.TheVariants as entry
use Rattle.bus_machine.specs.declared.plan.Plan.{Plan}
use Rattle.bus_machine.specs.Plans.{plan_of, component_at, link_at, no_link}
use Rattle.bus_machine.specs.Nodes.{NodeState, round_of}
use Rattle.bus_machine.specs.NodeEvents.{next_step}
use Rattle.bus_machine.specs.BusStates.{BusState, node_at, flight_at}
use Rattle.bus_machine.specs.RunParameters.{Run}
use Rattle.bus_machine.specs.MissedMessages.{missing_link, rounds_sent_on}
use Rattle.bus_machine.specs.Machine.{BusEvent, Start, Step, Finish, Send, Arrive, Drop, Repeat, arrival, early_stop}
use Rattle.bus_machine.specs.Replay.{entries, start_entry, stop_entry}
use Rattle.bus_machine.specs.Agreement.{PhaseAgrees, IsCopy, Agrees}
use Rattle.bus_machine.specs.proof.AgreementLaws.{IsRunOf}
use Rattle.bus_machine.specs.declared.node_action.NodeAction.{NodeAction}
use Rattle.bus_machine.specs.declared.node_action.NodeAction.TheVariants as action
use Rattle.bus_machine.specs.ActionsAndTargets.{Progress, target, targets, send_is_next, next_action, next_in}
use Rattle.bus_machine.proofs.ListsAndOldestCopies.{oldest_is_one}
use Rattle.run_laws.specs.EntriesOfDesigns.{IsReading, IsOfLink, IsEntryIn}
use Rattle.pals_clock.specs.declared.clock.Clocks.{Clocks}
use Rattle.pals_clock.specs.declared.clock.Clocks.TheVariants.{Meet, Lists}
use Rattle.run_laws.specs.Runs.{clock_at, Does, Takes, KeepsTo, Runs, opens, picks_for, goes_on}
use Rattle.run_laws.proofs.NodePicksAndRunReplay.{runs_agree, many_clocks, nodes_pick, node_agrees, component_is}
use Rattle.run_laws.proofs.MissedLinks.{missed_link}
use Rattle.run_laws.proofs.RisingTargets.{IsTimedPlan, step_below, next_alarm}
use Rattle.run_laws.proofs.MeetingReadings.{times_of}
use Rattle.run_laws.proofs.StartSendAndStopPicks.{same_lists}
use Rattle.run_laws.proofs.SentBeforeStart.{alarm_le}
use Rattle.run_laws.specs.proof.RunTraces.{AreReadings}

-- ---- readings of lists
reached_by : (r : ℕ) (rs : List ℕ) (t : ℕ) (b : Bool) → All (λ x. x ≤ READING) (r ∷ rs)
    → All (λ x. x ≤ READING) (remaining_from rs t) → All (λ x. x ≤ READING) (cond b (remaining_from rs t) (r ∷ rs))
reached_by r rs t true all rest = rest
reached_by r rs t false all rest = all

reached_all : (left : List ℕ) (t : ℕ) → All (λ x. x ≤ READING) left → All (λ x. x ≤ READING) (remaining_from left t)
reached_all [] t all = all
reached_all (r ∷ rs) t all =
    reached_by r rs t (nat_lt r t) all (reached_all rs t (All-tail (λ x. x ≤ READING) r rs all))

left_all : (readings ts : List ℕ) → All (λ x. x ≤ READING) readings → All (λ x. x ≤ READING) (left_after readings ts)
left_all readings [] all = all
left_all readings (t ∷ ts) all = left_all (remaining_from readings t) ts (reached_all readings t all)

-- ---- targets of a meeting
last_alarm : (t rounds : ℕ) → t ≤ HOUR → rounds ≤ ROUNDS → alarm t rounds ≤ READING
last_alarm t rounds short few =
    let one : (rounds + 1) * t ≤ (ROUNDS + 1) * t =
    (let le : rounds + 1 ≤ ROUNDS + 1 = omega arith in grind (arith, common_steps)) in
    let two : (ROUNDS + 1) * t ≤ (ROUNDS + 1) * HOUR = omega arith in
    omega arith

within_next : (plan : Plan) (round steps : ℕ) (send more : Bool) → IsTimedPlan plan → steps < plan.rate
    → target plan (cond send (action.Send round) (cond more (action.Step round steps) (action.Start (round + 1))))
    ≤ alarm plan.period (round + 1)
within_next plan round steps true more times below = let next = next_alarm plan.period round in
    let release = times.release in omega arith
within_next plan round steps false true times below = let next = next_alarm plan.period round in
    let most = step_below plan steps times below in omega arith
within_next plan round steps false false times below = omega arith

counted : (round count : ℕ) → count ≡ suc round → count - 1 + 1 ≡ count
counted round count is = omega arith

target_below : (run : Run) (j : ℕ) (n : NodeState) (p : Phase) (next : NodeAction) → IsTimedPlan (plan_of run.design j)
    → PhaseAgrees run j (component_at run.design j) n p → n.count ≤ run.rounds
    → next_in (plan_of run.design j) n p ≡ Some next
    → target (plan_of run.design j) next ≤ alarm run.design.period run.rounds
target_below run j n Waiting next times agree most is =
    let plan = plan_of run.design j in
    let le = alarm_le run.design.period n.count run.rounds most in
    subst (λ a. target plan a ≤ alarm run.design.period run.rounds) (same_Some (action.Start n.count) next is) le
target_below run j n (Running i) next times agree most is = absurd (cc)
target_below run j n (Between i) next times agree most is =
    let plan = plan_of run.design j in
    let p : Progress = record { round = round_of n; steps = i; sent = n.sent } in
    let started = counted agree.0.under_way.round n.count agree.0.under_way.count in
    let here = within_next plan (round_of n) i (send_is_next plan p) (nat_lt i plan.rate) times agree.0.within in
    let le = alarm_le run.design.period (round_of n + 1) run.rounds (omega arith) in
    subst (λ a. target plan a ≤ alarm run.design.period run.rounds) (same_Some (next_action plan p) next is)
    (omega arith)
target_below run j n Holding next times agree most is =
    let plan = plan_of run.design j in
    let started = counted agree.under_way.round n.count agree.under_way.count in
    let after' = next_alarm plan.period (round_of n) in
    let le = alarm_le run.design.period (round_of n + 1) run.rounds (omega arith) in
    let release = times.release in
    subst (λ a. target plan a ≤ alarm run.design.period run.rounds) (same_Some (action.Send (round_of n)) next is)
    (omega arith)
target_below run j n Done next times agree most is = absurd (cc)

-- ---- each reading
reading_fits : (run : Run) (clocks : Clocks) (journal : List JournalEntry) (s : BusState) (node : NodeNo)
    (reading : Option ℕ) (next : NodeAction) → IsRunOf run → run.rounds ≤ ROUNDS → AreReadings clocks
    → Runs run clocks journal s → Does run clocks s node reading next → IsReading reading
reading_fits run Meet journal s node reading next rules few readings runs d =
    let agree = node_agrees run s node.0 (runs_agree run Meet journal s rules runs) d.within in
    let below =
    target_below run node.0 (node_at s node.0) (node_at s node.0).phase next (times_of run node.0 rules d.within)
    agree.phase agree.rounds d.next in
    let most = last_alarm run.design.period run.rounds rules.design.period.1 few in
    let at = d.shows.0 in
    subst IsReading (sym d.reading_is) (omega arith)
reading_fits run (Lists clocks) journal s node reading next rules few readings runs d =
    let p = nodes_pick run clocks journal s node.0 rules runs d.within in
    let all : All (λ x. x ≤ READING) (clock_at clocks node.0).left = elim p.left [
      | inl same ↦ subst (All (λ x. x ≤ READING)) (sym same)
          (left_all (clock_at clocks node.0).readings (take p.done (targets (plan_of run.design node.0) run.rounds))
          (readings node.0))
      | inr same ↦ subst (All (λ x. x ≤ READING)) (sym same)
          (left_all (clock_at clocks node.0).readings
          (take (p.done + 1) (targets (plan_of run.design node.0) run.rounds)) (readings node.0))
    ] in
    subst IsReading (sym d.reading_is)
    (at_element (λ x. x ≤ READING) (clock_at clocks node.0).left 0 d.at all d.shows.0)

-- ---- each entry
one : (run : Run) (x : JournalEntry) → IsEntryIn run.design x → All (IsEntryIn run.design) (x ∷ [])
one run x fits = All-cons (IsEntryIn run.design) x [] fits (All-nil (IsEntryIn run.design))

count_most : (run : Run) (s : BusState) (j : ℕ) → Agrees run s → j < length run.design.components → run.rounds ≤ ROUNDS
    → (node_at s j).count ≤ ROUNDS
count_most run s j agree within few = let most = (node_agrees run s j agree within).rounds in omega arith

start_fits : (run : Run) (s : BusState) (node : NodeNo) (reading m : Option ℕ) → Agrees run s → run.rounds ≤ ROUNDS
    → node.0 < length run.design.components → IsReading reading → missing_link run s node.0 ≡ m
    → All (IsEntryIn run.design) (start_entry run s node reading m ∷ [])
start_fits run s node reading None agree few within fits misses =
    one run (start_entry run s node reading None) (within, count_most run s node.0 agree within few, fits)
start_fits run s node reading (Some link) agree few within fits misses =
    let missed = missed_link run s node.0 link misses in
    let most = count_most run s node.0 agree within few in
    one run (start_entry run s node reading (Some link))
    (slice_get_within run.design.links link missed.the_link missed.is_link, (omega arith), fits)

small_step : (run : Run) (j : ℕ) (n : NodeState) (p : Phase) → IsRunOf run → j < length run.design.components
    → PhaseAgrees run j (component_at run.design j) n p → unwrap_or (next_step p) 0 ≤ ROUNDS
small_step run j n Waiting rules within agree = omega arith
small_step run j n (Running i) rules within agree = omega arith
small_step run j n (Between i) rules within agree =
    let rule =
    at_element (IsComponent run.design.period) run.design.components j (component_at run.design j)
    rules.design.components.each (component_is run j within) in
    let below = agree.0.within in
    let most = rule.rate.1 in
    omega arith
small_step run j n Holding rules within agree = omega arith
small_step run j n Done rules within agree = omega arith

sent_most : (sent : Bool) (count : ℕ) → cond sent count (count - 1) ≤ count
sent_most true count = omega arith
sent_most false count = omega arith

arrive_fits : (run : Run) (link : LinkNo) (round : ℕ) (reading : Option ℕ) (a : Arrived)
    → IsOfLink run.design link.0 round reading
    → All (IsEntryIn run.design) (entry.Arrive link round reading a ∷ stop_entry (early_stop link round reading a))
arrive_fits run link round reading Kept fits = one run (entry.Arrive link round reading Kept) fits
arrive_fits run link round reading Ignored fits = one run (entry.Arrive link round reading Ignored) fits
arrive_fits run link round reading Early fits =
    All-cons (IsEntryIn run.design) (entry.Arrive link round reading Early)
    (entry.Stopped (stop.Early link round reading) ∷ []) fits
    (one run (entry.Stopped (stop.Early link round reading)) fits)

round_fits : (run : Run) (s : BusState) (link : LinkNo) (round : ℕ) (clocks : Clocks) (reading : Option ℕ) → IsRunOf run
    → Agrees run s → run.rounds ≤ ROUNDS → Takes run clocks s link round reading → round ≤ ROUNDS
round_fits run s link round clocks reading rules agree few t =
    let l = link_at run.design link.0 in
    let is : slice_get run.design.links link.0 ≡ Some l = slice_get-get_or run.design.links link.0 no_link t.within in
    let copy =
    oldest_is_one (IsCopy run link.0 (rounds_sent_on run s link.0)) round (flight_at s link.0) t.copy
    (agree.links link.0 l is).flight t.is_copy in
    let here : t.copy.round ≡ round = eqb-true t.copy.round round copy.1 in
    let sent = copy.0.round in
    let within = (at_element (IsLink run.design) run.design.links link.0 l rules.design.links.each is).source.node_is in
    let most = count_most run s l.source.0 agree within few in
    let all = sent_most (node_at s l.source.0).sent (node_at s l.source.0).count in
    omega arith

event_fits : (run : Run) (clocks : Clocks) (journal : List JournalEntry) (s : BusState) (e : BusEvent) → IsRunOf run
    → run.rounds ≤ ROUNDS → AreReadings clocks → Runs run clocks journal s → KeepsTo run clocks s e
    → All (IsEntryIn run.design) (entries run s e)
event_fits run clocks journal s (Start node reading) rules few readings runs keeps =
    start_fits run s node reading (missing_link run s node.0) (runs_agree run clocks journal s rules runs) few
    keeps.does.within (reading_fits run clocks journal s node reading _ rules few readings runs keeps.does) refl
event_fits run clocks journal s (Step node reading) rules few readings runs keeps =
    let agree = runs_agree run clocks journal s rules runs in
    let d = keeps.2 in
    let most = count_most run s node.0 agree d.within few in
    one run (entry.Step node (round_of (node_at s node.0)) (unwrap_or (next_step (node_at s node.0).phase) 0) reading) (
      (d.within, (omega arith), reading_fits run clocks journal s node reading _ rules few readings runs d),
      small_step run node.0 (node_at s node.0) (node_at s node.0).phase rules d.within
          (node_agrees run s node.0 agree d.within).phase,
    )
event_fits run clocks journal s (Finish node) rules few readings runs keeps =
    let most = count_most run s node.0 (runs_agree run clocks journal s rules runs) keeps few in
    one run (entry.Finish node (round_of (node_at s node.0))) (keeps, (omega arith), tt)
event_fits run clocks journal s (Send node reading) rules few readings runs keeps =
    let d = keeps.1 in
    let most = count_most run s node.0 (runs_agree run clocks journal s rules runs) d.within few in
    one run (entry.Send node (round_of (node_at s node.0)) reading)
    (d.within, (omega arith), reading_fits run clocks journal s node reading _ rules few readings runs d)
event_fits run clocks journal s (Arrive link round reading) rules few readings runs keeps =
    arrive_fits run link round reading (arrival run s link round) (
      keeps.within,
      round_fits run s link round clocks reading rules (runs_agree run clocks journal s rules runs) few
          keeps,
      reading_fits run clocks journal s (link_at run.design link.0).target reading _ rules few readings
          runs keeps.does,
    )
event_fits run clocks journal s (Drop link round) rules few readings runs keeps = absurd keeps
event_fits run clocks journal s (Repeat link round) rules few readings runs keeps = absurd keeps

pub entries_fit : (run : Run) (clocks : Clocks) (journal : List JournalEntry) (s : BusState) → IsRunOf run
    → run.rounds ≤ ROUNDS → AreReadings clocks → Runs run clocks journal s
    → All (IsEntryIn run.design) journal
entries_fit run clocks journal s rules few readings (opens clocks' begin) = All-nil (IsEntryIn run.design)
entries_fit run clocks journal s rules few readings (picks_for {clocks = before} {later = after'} j runs picks') =
    entries_fit run (Lists before) journal s rules few
    (λ node. subst (All (λ x. x ≤ READING))
    (same_lists run before after' s j node (many_clocks run (Lists before) journal s runs) picks')
    (readings node)) runs
entries_fit run clocks journal s rules few readings (goes_on {journal = before} {s = t} e runs keeps step) =
    All-append (IsEntryIn run.design) before (entries run t e) (entries_fit run clocks before t rules few readings runs)
    (event_fits run clocks before t e rules few readings runs keeps)
