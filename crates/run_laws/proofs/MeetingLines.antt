-- In virtual time each line that has a reading shows the target of its action.
use Rattle.std.proofs.Common.{◌≡◌, ℕ, ◌+◌, ◌*◌, nat_lt, Bool, true, false, cond, List, [], ◌∷◌, ◌++◌, length, Option}
use Rattle.std.proofs.Common.{Some, None, refl, sym, ap, ap₂, ◌∙◌, subst}
use Rattle.std.specs.Option.{unwrap_or}
use Rattle.std.proofs.lemmas.Grind.{flat_map-append}
use Rattle.std.proofs.lemmas.List.{append-nil, append_assoc}
use Rattle.std.proofs.lemmas.Option.{same_Some}
use Rattle.pals_base.specs.declared.basic_types.NodeNo.{NodeNo}
use Rattle.pals_base.specs.declared.basic_types.LinkNo.{LinkNo}
use Rattle.pals_base.specs.PeriodBoundAndReleases.{alarm}
use Rattle.pals_model.specs.declared.design.Link.{Link}
use Rattle.pals_runs.specs.declared.phase.Phase.{Phase}
use Rattle.pals_runs.specs.declared.phase.Phase.TheVariants.{Waiting, Running, Between, Holding, Done}
use Rattle.pals_runs.specs.declared.journal.Arrived.{Arrived}
use Rattle.pals_runs.specs.declared.journal.Arrived.TheVariants.{Kept, Ignored, Early}
use Rattle.pals_runs.specs.declared.journal.JournalEntry.{JournalEntry}
use Rattle.pals_runs.specs.declared.journal.JournalEntry.TheVariants as entry
use Rattle.bus_machine.specs.declared.plan.Plan.{Plan}
use Rattle.bus_machine.specs.Plans.{plan_of, link_at}
use Rattle.bus_machine.specs.Nodes.{NodeState, round_of}
use Rattle.bus_machine.specs.NodeEvents.{next_step}
use Rattle.bus_machine.specs.BusStates.{BusState, node_at}
use Rattle.bus_machine.specs.RunParameters.{Run}
use Rattle.bus_machine.specs.MissedMessages.{missing_link}
use Rattle.bus_machine.specs.Machine.{BusEvent, Start, Step, Finish, Send, Arrive, Drop, Repeat, arrival, early_stop}
use Rattle.bus_machine.specs.Replay.{entries, start_entry, stop_entry}
use Rattle.bus_machine.specs.declared.node_action.NodeAction.{NodeAction}
use Rattle.bus_machine.specs.declared.node_action.NodeAction.TheVariants as action
use Rattle.bus_machine.specs.ActionsAndTargets.{Progress, target, send_is_next, next_in}
use Rattle.bus_machine.specs.proof.AgreementLaws.{IsRunOf}
use Rattle.run_laws.specs.JournalReadings.{start_in, starts}
use Rattle.pals_clock.specs.declared.clock.Clocks.{Clocks}
use Rattle.pals_clock.specs.declared.clock.Clocks.TheVariants.{Meet, Lists}
use Rattle.run_laws.specs.Runs.{Does, KeepsTo, Runs, opens, picks_for, goes_on}
use Rattle.run_laws.specs.Meetings.{AtNext, ShowTargets}
use Rattle.run_laws.specs.proof.MeetingLaws.{MeetingsShowTargets}
use Rattle.run_laws.proofs.MissedLinks.{missed_link}
use Rattle.run_laws.proofs.JournalStartsAndSends.{rounds_are_shown}
use Rattle.run_laws.proofs.StartAndSendReadings.{send_round}
use Rattle.run_laws.proofs.MeetingStopsAndBounds.{link_is}

at_target : (run : Run) (s : BusState) (node : NodeNo) (reading : Option ℕ) (action : NodeAction)
    (d : Does run Meet s node reading action) → reading ≡ Some (target (plan_of run.design node.0) action)
at_target run s node reading action d = d.reading_is ∙ ap Some d.shows.0

step_by : (plan : Plan) (p : Progress) (round step : ℕ) (send more : Bool)
    → cond send (action.Send p.round) (cond more (action.Step p.round p.steps) (action.Start (p.round + 1)))
    ≡ action.Step round step → (round ≡ p.round) × (step ≡ p.steps)
step_by plan p round step true more is = absurd (cc)
step_by plan p round step false true is = (cc, cc)
step_by plan p round step false false is = absurd (cc)

pub step_now : (plan : Plan) (n : NodeState) (p : Phase) (round step : ℕ)
    → next_in plan n p ≡ Some (action.Step round step) → (round ≡ round_of n) × (step ≡ unwrap_or (next_step p) 0)
step_now plan n Waiting round step is =
    absurd (let both : action.Start n.count ≡ action.Step round step = same_Some _ _ is in cc)
step_now plan n (Running i) round step is = absurd (cc)
step_now plan n (Between i) round step is =
    let p : Progress = record { round = round_of n; steps = i; sent = n.sent } in
    step_by plan p round step (send_is_next plan p) (nat_lt i plan.rate) (same_Some _ _ is)
step_now plan n Holding round step is =
    absurd (let both : action.Send (round_of n) ≡ action.Step round step = same_Some _ _ is in cc)
step_now plan n Done round step is = absurd (cc)

start_shows : (run : Run) (front : List JournalEntry) (s : BusState) (node : NodeNo) (reading m : Option ℕ)
    → reading ≡ Some (alarm run.design.period (node_at s node.0).count)
    → ((k : ℕ) → length (starts k front) ≡ (node_at s k).count) → missing_link run s node.0 ≡ m
    → ShowTargets run front (start_entry run s node reading m ∷ [])
start_shows run front s node reading None shows sizes misses = (shows, tt)
start_shows run front s node reading (Some link) shows sizes misses =
    let missed = missed_link run s node.0 link misses in
    let here : (link_at run.design link).target.0 ≡ node.0 =
    ap (λ (l : Link). l.target.0) (link_is run link missed.the_link missed.is_link) ∙ missed.to_node in (
      shows ∙ ap (λ n. Some (alarm run.design.period n))
          (sym (ap (λ k. length (starts k front)) here ∙ sizes node.0)),
      tt,
    )

arrive_shows : (run : Run) (front : List JournalEntry) (link : LinkNo) (round : ℕ) (reading : Option ℕ) (a : Arrived)
    → AtNext run front link reading
    → ShowTargets run front (entry.Arrive link round reading a ∷ stop_entry (early_stop link round reading a))
arrive_shows run front link round reading Kept shows = (shows, tt)
arrive_shows run front link round reading Ignored shows = (shows, tt)
arrive_shows run front link round reading Early shows =
    let j = (link_at run.design link.0).target.0 in
    let e = entry.Arrive link round reading Early in
    let same : starts j (front ++ e ∷ []) ≡ starts j front = flat_map-append (start_in j) front (e ∷ [])
    ∙ append-nil (starts j front) in
    (shows, (shows ∙ ap (λ xs. Some (alarm run.design.period (length xs))) (sym same), tt))

event_shows : (run : Run) (journal : List JournalEntry) (s : BusState) (e : BusEvent) → IsRunOf run
    → Runs run Meet journal s → KeepsTo run Meet s e → ShowTargets run journal (entries run s e)
event_shows run journal s (Start node reading) rules runs keeps =
    start_shows run journal s node reading (missing_link run s node.0) (at_target run s node reading _ keeps.does)
    (λ k. (rounds_are_shown run Meet journal s k rules runs).0) refl
event_shows run journal s (Step node reading) rules runs keeps =
    let n = node_at s node.0 in
    let now = step_now (plan_of run.design node.0) n n.phase keeps.0 keeps.1 keeps.2.next in (
      at_target run s node reading _ keeps.2
          ∙ ap₂ (λ r i. Some (alarm run.design.period r + i * (plan_of run.design node.0).step_period)) now.0 now.1,
      tt,
    )
event_shows run journal s (Finish node) rules runs keeps = (tt, tt)
event_shows run journal s (Send node reading) rules runs keeps =
    let n = node_at s node.0 in
    let now = send_round (plan_of run.design node.0) n n.phase keeps.0 keeps.1.next in (
      at_target run s node reading _ keeps.1
          ∙ ap (λ r. Some (alarm run.design.period r + (plan_of run.design node.0).release_offset)) now,
      tt,
    )
event_shows run journal s (Arrive link round reading) rules runs keeps =
    let j = (link_at run.design link.0).target in
    arrive_shows run journal link round reading (arrival run s link round)
    (at_target run s j reading _ keeps.does
    ∙ ap (λ n. Some (alarm run.design.period n)) (sym (rounds_are_shown run Meet journal s j.0 rules runs).0))
event_shows run journal s (Drop link round) rules runs keeps = absurd keeps
event_shows run journal s (Repeat link round) rules runs keeps = absurd keeps

show_append : (run : Run) (front xs ys : List JournalEntry) → ShowTargets run front xs
    → ShowTargets run (front ++ xs) ys → ShowTargets run front (xs ++ ys)
show_append run front [] ys first second = subst (λ f. ShowTargets run f ys) (append-nil front) second
show_append run front (x ∷ xs) ys first second = (
  first.0,
  show_append run (front ++ x ∷ []) xs ys first.1
      (subst (λ f. ShowTargets run f ys) (sym (append_assoc front (x ∷ []) xs)) second),
)

abbrev ShowIn : Run → Clocks → List JournalEntry → Type 0
ShowIn run Meet journal = ShowTargets run [] journal
ShowIn run (Lists clocks) journal = Unit {0}

opens_show : (run : Run) (clocks : Clocks) → ShowIn run clocks []
opens_show run Meet = tt
opens_show run (Lists clocks) = tt

goes_show : (run : Run) (clocks : Clocks) (journal : List JournalEntry) (s : BusState) (e : BusEvent) → IsRunOf run
    → Runs run clocks journal s → KeepsTo run clocks s e → ShowIn run clocks journal
    → ShowIn run clocks (journal ++ entries run s e)
goes_show run Meet journal s e rules runs keeps before =
    show_append run [] journal (entries run s e) before (event_shows run journal s e rules runs keeps)
goes_show run (Lists clocks) journal s e rules runs keeps before = tt

show_in : (run : Run) (clocks : Clocks) (journal : List JournalEntry) (s : BusState) → IsRunOf run
    → Runs run clocks journal s → ShowIn run clocks journal
show_in run clocks journal s rules (opens clocks' begin) = opens_show run clocks
show_in run clocks journal s rules (picks_for {later = after'} j runs picks') = tt
show_in run clocks journal s rules (goes_on {journal = before} {s = t} e runs keeps step) =
    goes_show run clocks before t e rules runs keeps (show_in run clocks before t rules runs)

pub meetings_show_targets : MeetingsShowTargets
meetings_show_targets run journal s rules runs = show_in run Meet journal s rules runs
