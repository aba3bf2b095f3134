-- With list clocks each line that has a reading shows the next pick of its node.
use Rattle.std.proofs.Common.{◌≡◌, ℕ, ◌≤◌, List, [], ◌∷◌, ◌++◌, length, slice_get, Option, Some, None, refl, sym, ap}
use Rattle.std.proofs.Common.{ap₂, ◌∙◌, subst}
use Rattle.std.proofs.lemmas.Grind.{flat_map-append}
use Rattle.std.proofs.lemmas.List.{append-nil, append_assoc}
use Rattle.std.proofs.lemmas.Option.{same_Some}
use Rattle.pals_base.specs.declared.basic_types.NodeNo.{NodeNo}
use Rattle.pals_base.specs.declared.basic_types.LinkNo.{LinkNo}
use Rattle.pals_base.specs.ClockPicks.{picks}
use Rattle.pals_clock.specs.ClockStates.{ClockState}
use Rattle.pals_model.specs.declared.design.Link.{Link}
use Rattle.pals_runs.specs.declared.journal.Arrived.{Arrived}
use Rattle.pals_runs.specs.declared.journal.Arrived.TheVariants.{Kept, Ignored, Early}
use Rattle.pals_runs.specs.declared.journal.Stop.TheVariants as stop
use Rattle.pals_runs.specs.declared.journal.JournalEntry.{JournalEntry}
use Rattle.pals_runs.specs.declared.journal.JournalEntry.TheVariants as entry
use Rattle.bus_machine.specs.Plans.{plan_of, link_at}
use Rattle.std.specs.Option.{unwrap_or}
use Rattle.bus_machine.specs.Nodes.{round_of}
use Rattle.bus_machine.specs.NodeEvents.{next_step}
use Rattle.bus_machine.specs.BusStates.{BusState, node_at}
use Rattle.bus_machine.specs.RunParameters.{Run}
use Rattle.bus_machine.specs.MissedMessages.{missing_link}
use Rattle.bus_machine.specs.Machine.{BusEvent, Start, Step, Finish, Send, Arrive, Drop, Repeat, arrival, early_stop}
use Rattle.bus_machine.specs.Replay.{entries, start_entry, stop_entry}
use Rattle.bus_machine.specs.declared.node_action.NodeAction.{NodeAction}
use Rattle.bus_machine.specs.declared.node_action.NodeAction.TheVariants as action
use Rattle.bus_machine.specs.ActionsAndTargets.{actions, target, targets}
use Rattle.run_laws.specs.EntryEventsAndReadings.{Timed, timed}
use Rattle.bus_machine.specs.proof.AgreementLaws.{IsRunOf}
use Rattle.run_laws.specs.JournalReadings.{start_in, starts, act_in, acts}
use Rattle.pals_clock.specs.declared.clock.Clocks.{Clocks}
use Rattle.pals_clock.specs.declared.clock.Clocks.TheVariants.{Meet, Lists}
use Rattle.run_laws.specs.Runs.{clock_at, Does, KeepsTo, Runs, opens, picks_for, goes_on}
use Rattle.run_laws.specs.PicksAndJournalLines.{picks_of, coming_start, action_shown, ShowsPick, LinesAre}
use Rattle.run_laws.specs.proof.ListPicks.{LinesArePicks}
use Rattle.run_laws.proofs.NodePicksAndRunReplay.{many_clocks}
use Rattle.run_laws.proofs.MissedLinks.{missed_link}
use Rattle.run_laws.proofs.MeetingStopsAndBounds.{link_is}
use Rattle.run_laws.proofs.StartSendAndStopPicks.{next_pick, same_lists}
use Rattle.run_laws.proofs.JournalStartsAndSends.{rounds_are_shown}
use Rattle.run_laws.proofs.MeetingLines.{step_now}
use Rattle.run_laws.proofs.StartAndSendReadings.{send_round}

-- a line of a node's action, at this reading
abbrev LineIs : Run → List ClockState → List JournalEntry → JournalEntry → Type 0
LineIs run clocks front e = (t : Timed) → timed run.design e ≡ Some t → ShowsPick run clocks front e t

line_by : (run : Run) (clocks : List ClockState) (front : List JournalEntry) (e : JournalEntry) (j at : ℕ)
    (reading : Option ℕ) (action : NodeAction) → timed run.design e ≡ Some (record { node = j; reading = reading })
    → action_shown run.design front e ≡ Some action → reading ≡ Some at
    → slice_get (actions (plan_of run.design j) run.rounds) (length (acts j front)) ≡ Some action
    → slice_get (picks_of run clocks j) (length (acts j front)) ≡ Some at
    → target (plan_of run.design j) action ≤ at → LineIs run clocks front e
line_by run clocks front e j at reading action told shows is next pick least = λ t here.
    subst (ShowsPick run clocks front e) (same_Some (record { node = j; reading = reading }) t (sym told ∙ here))
    (record {
      action = action;
      at = at;
      shows = shows;
      reading_is = is;
      is_next = next;
      is_pick = pick;
      reached = least;
    })

untimed : (run : Run) (clocks : List ClockState) (front : List JournalEntry) (e : JournalEntry)
    → timed run.design e ≡ None → LineIs run clocks front e
untimed run clocks front e none = λ t is. absurd (let both : None ≡ Some t = sym none ∙ is in cc)

-- what a node does is the pick for its next action
record IsDone (run : Run) (clocks : List ClockState) (front : List JournalEntry) (j : ℕ) (reading : Option ℕ)
    (action : NodeAction) : Type 0 where
  pub at : ℕ
  pub reading_is : reading ≡ Some at
  pub is_next : slice_get (actions (plan_of run.design j) run.rounds) (length (acts j front)) ≡ Some action
  pub is_pick : slice_get (picks_of run clocks j) (length (acts j front)) ≡ Some at
  pub reached : target (plan_of run.design j) action ≤ at

does_line : (run : Run) (clocks : List ClockState) (journal : List JournalEntry) (s : BusState) (node : NodeNo)
    (reading : Option ℕ) (action : NodeAction) → IsRunOf run → Runs run (Lists clocks) journal s
    → Does run (Lists clocks) s node reading action → IsDone run clocks journal node.0 reading action
does_line run clocks journal s node reading action rules runs d =
    let next = next_pick run clocks journal s node reading action rules runs d in
    record { at = d.at; reading_is = d.reading_is; is_next = next.0; is_pick = next.1; reached = d.shows.1 }

done_line : (run : Run) (clocks : List ClockState) (front : List JournalEntry) (e : JournalEntry) (j : ℕ)
    (reading : Option ℕ) (action : NodeAction) → timed run.design e ≡ Some (record { node = j; reading = reading })
    → action_shown run.design front e ≡ Some action → IsDone run clocks front j reading action
    → LineIs run clocks front e
done_line run clocks front e j reading action told shows d =
    line_by run clocks front e j d.at reading action told shows d.reading_is d.is_next d.is_pick d.reached

-- the start that comes next
coming : (run : Run) (clocks : Clocks) (journal : List JournalEntry) (s : BusState) (link : LinkNo) (j : ℕ)
    → IsRunOf run → Runs run clocks journal s → (link_at run.design link.0).target.0 ≡ j
    → coming_start run.design journal link ≡ action.Start (node_at s j).count
coming run clocks journal s link j rules runs to =
    ap action.Start (ap (λ k. length (starts k journal)) to ∙ (rounds_are_shown run clocks journal s j rules runs).0)

start_lines : (run : Run) (clocks : List ClockState) (journal : List JournalEntry) (s : BusState) (node : NodeNo)
    (reading m : Option ℕ) → IsRunOf run → Runs run (Lists clocks) journal s
    → IsDone run clocks journal node.0 reading (action.Start (node_at s node.0).count) → missing_link run s node.0 ≡ m
    → LinesAre run clocks journal (start_entry run s node reading m ∷ [])
start_lines run clocks journal s node reading None rules runs d misses = (
  done_line run clocks journal (start_entry run s node reading None) node.0 reading
      (action.Start (node_at s node.0).count) refl refl d,
  tt,
)
start_lines run clocks journal s node reading (Some link) rules runs d misses =
    let missed = missed_link run s node.0 link misses in
    let here : (link_at run.design link).target.0 ≡ node.0 =
    ap (λ (l : Link). l.target.0) (link_is run link missed.the_link missed.is_link) ∙ missed.to_node in (
      done_line run clocks journal (start_entry run s node reading (Some link)) node.0 reading
          (action.Start (node_at s node.0).count)
          (ap (λ j. Some (record { node = j; reading = reading })) here)
          (ap Some (coming run (Lists clocks) journal s (record { 0 = link }) node.0 rules runs here)) d,
      tt,
    )

arrive_lines : (run : Run) (clocks : List ClockState) (front : List JournalEntry) (link : LinkNo) (round : ℕ)
    (reading : Option ℕ) (a : Arrived)
    → IsDone run clocks front (link_at run.design link.0).target.0 reading (coming_start run.design front link)
    → LinesAre run clocks front (entry.Arrive link round reading a ∷ stop_entry (early_stop link round reading a))
arrive_lines run clocks front link round reading Kept d = (
  done_line run clocks front (entry.Arrive link round reading Kept) (link_at run.design link.0).target.0 reading
      (coming_start run.design front link) refl refl d,
  tt,
)
arrive_lines run clocks front link round reading Ignored d = (
  done_line run clocks front (entry.Arrive link round reading Ignored) (link_at run.design link.0).target.0 reading
      (coming_start run.design front link) refl refl d,
  tt,
)
arrive_lines run clocks front link round reading Early d =
    let j = (link_at run.design link.0).target.0 in
    let e = entry.Arrive link round reading Early in
    let same : acts j (front ++ e ∷ []) ≡ acts j front = flat_map-append (act_in j) front (e ∷ [])
    ∙ append-nil (acts j front) in
    let begun : starts j (front ++ e ∷ []) ≡ starts j front = flat_map-append (start_in j) front (e ∷ [])
    ∙ append-nil (starts j front) in
    let action' = coming_start run.design front link in (
      done_line run clocks front e j reading action' refl refl d,
      (
        line_by run clocks (front ++ e ∷ []) (entry.Stopped (stop.Early link round reading)) j d.at reading action' refl
            (ap (λ xs. Some (action.Start (length xs))) begun) d.reading_is
            (ap (λ xs. slice_get (actions (plan_of run.design j) run.rounds) (length xs)) same ∙ d.is_next)
            (ap (λ xs. slice_get (picks_of run clocks j) (length xs)) same ∙ d.is_pick) d.reached,
        tt,
      ),
    )

event_lines : (run : Run) (clocks : List ClockState) (journal : List JournalEntry) (s : BusState) (e : BusEvent)
    → IsRunOf run → Runs run (Lists clocks) journal s → KeepsTo run (Lists clocks) s e
    → LinesAre run clocks journal (entries run s e)
event_lines run clocks journal s (Start node reading) rules runs keeps =
    start_lines run clocks journal s node reading (missing_link run s node.0) rules runs
    (does_line run clocks journal s node reading _ rules runs keeps.does) refl
event_lines run clocks journal s (Step node reading) rules runs keeps =
    let n = node_at s node.0 in
    let now = step_now (plan_of run.design node.0) n n.phase keeps.0 keeps.1 keeps.2.next in (
      done_line run clocks journal (entry.Step node (round_of n) (unwrap_or (next_step n.phase) 0) reading) node.0
          reading (action.Step keeps.0 keeps.1) refl (ap₂ (λ r i. Some (action.Step r i)) (sym now.0) (sym now.1))
          (does_line run clocks journal s node reading _ rules runs keeps.2),
      tt,
    )
event_lines run clocks journal s (Finish node) rules runs keeps =
    (untimed run clocks journal (entry.Finish node (round_of (node_at s node.0))) refl, tt)
event_lines run clocks journal s (Send node reading) rules runs keeps =
    let n = node_at s node.0 in
    let now = send_round (plan_of run.design node.0) n n.phase keeps.0 keeps.1.next in (
      done_line run clocks journal (entry.Send node (round_of n) reading) node.0 reading (action.Send keeps.0) refl
          (ap (λ r. Some (action.Send r)) (sym now))
          (does_line run clocks journal s node reading _ rules runs keeps.1),
      tt,
    )
event_lines run clocks journal s (Arrive link round reading) rules runs keeps =
    let j = (link_at run.design link.0).target in
    arrive_lines run clocks journal link round reading (arrival run s link round)
    (subst (IsDone run clocks journal j.0 reading) (sym (coming run (Lists clocks) journal s link j.0 rules runs refl))
    (does_line run clocks journal s j reading _ rules runs keeps.does))
event_lines run clocks journal s (Drop link round) rules runs keeps = absurd keeps
event_lines run clocks journal s (Repeat link round) rules runs keeps = absurd keeps

lines_append : (run : Run) (clocks : List ClockState) (front xs ys : List JournalEntry) → LinesAre run clocks front xs
    → LinesAre run clocks (front ++ xs) ys → LinesAre run clocks front (xs ++ ys)
lines_append run clocks front [] ys first second = subst (λ f. LinesAre run clocks f ys) (append-nil front) second
lines_append run clocks front (x ∷ xs) ys first second = (
  first.0,
  lines_append run clocks (front ++ x ∷ []) xs ys first.1
      (subst (λ f. LinesAre run clocks f ys) (sym (append_assoc front (x ∷ []) xs)) second),
)

later_lines : (run : Run) (before later : List ClockState) (front xs : List JournalEntry)
    → ((k : ℕ) → (clock_at later k).readings ≡ (clock_at before k).readings) → LinesAre run before front xs
    → LinesAre run later front xs
later_lines run before later front [] same lines = tt
later_lines run before later front (x ∷ xs) same lines = (
  (λ t is.
      let old = lines.0 t is in
      record {
        action = old.action;
        at = old.at;
        shows = old.shows;
        reading_is = old.reading_is;
        is_next = old.is_next;
        is_pick =
            ap (λ rs. slice_get (picks rs (targets (plan_of run.design t.node) run.rounds))
            (length (acts t.node front))) (same t.node) ∙ old.is_pick;
        reached = old.reached;
      }),
  later_lines run before later (front ++ x ∷ []) xs same lines.1,
)

abbrev LinesIn : Run → Clocks → List JournalEntry → Type 0
LinesIn run Meet journal = Unit {0}
LinesIn run (Lists clocks) journal = LinesAre run clocks [] journal

opens_lines : (run : Run) (clocks : Clocks) → LinesIn run clocks []
opens_lines run Meet = tt
opens_lines run (Lists clocks) = tt

goes_lines : (run : Run) (clocks : Clocks) (journal : List JournalEntry) (s : BusState) (e : BusEvent) → IsRunOf run
    → Runs run clocks journal s → KeepsTo run clocks s e → LinesIn run clocks journal
    → LinesIn run clocks (journal ++ entries run s e)
goes_lines run Meet journal s e rules runs keeps before = tt
goes_lines run (Lists clocks) journal s e rules runs keeps before =
    lines_append run clocks [] journal (entries run s e) before (event_lines run clocks journal s e rules runs keeps)

lines_in : (run : Run) (clocks : Clocks) (journal : List JournalEntry) (s : BusState) → IsRunOf run
    → Runs run clocks journal s → LinesIn run clocks journal
lines_in run clocks journal s rules (opens clocks' begin) = opens_lines run clocks
lines_in run clocks journal s rules (picks_for {clocks = before} {later = after'} j runs picks') =
    later_lines run before after' [] journal
    (λ k. same_lists run before after' s j k (many_clocks run (Lists before) journal s runs) picks')
    (lines_in run (Lists before) journal s rules runs)
lines_in run clocks journal s rules (goes_on {journal = before} {s = t} e runs keeps step) =
    goes_lines run clocks before t e rules runs keeps (lines_in run clocks before t rules runs)

pub lines_are_picks : LinesArePicks
lines_are_picks run clocks journal s rules runs = lines_in run (Lists clocks) journal s rules runs
