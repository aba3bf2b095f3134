-- With list clocks: at the end each round is in time; a node is done if its picks reach its last target, and otherwise
-- they end before its next target; and the cause of a stop.
use Rattle.std.proofs.Common.{◌≡◌, inl, inr, ℕ, suc, ◌+◌, ◌-◌, ◌*◌, ◌<◌, ◌≤◌, true, List, [], ◌∷◌, length, slice_get}
use Rattle.std.proofs.Common.{Option, Some, None, refl, sym, ap, ◌∙◌, subst, arith, length-append}
use Rattle.std.specs.Prelude.{◌≢◌, IfSome}
use Rattle.std.proofs.lemmas.Option.{same_Some, slice_get_within, slice_get-get_or}
use Rattle.pals_base.specs.ClockPicks.{remaining_from, picked, picks}
use Rattle.pals_clock.specs.ClockStates.{ClockState}
use Rattle.pals_model.specs.declared.design.Link.{Link}
use Rattle.pals_model.specs.Delays.{delay_of}
use Rattle.pals_runs.specs.declared.phase.Phase.TheVariants.{Waiting, Done}
use Rattle.pals_runs.specs.declared.journal.Cause.{Cause}
use Rattle.pals_runs.specs.declared.journal.Cause.TheVariants.{NotSent, InTransit, Lost}
use Rattle.pals_runs.specs.declared.journal.Stop.{Stop}
use Rattle.pals_runs.specs.declared.journal.Stop.TheVariants as stop
use Rattle.pals_runs.specs.declared.journal.JournalEntry.{JournalEntry}
use Rattle.bus_machine.specs.declared.plan.Plan.{Plan}
use Rattle.bus_machine.specs.Plans.{plan_of, component_at, link_at, no_link}
use Rattle.bus_machine.specs.Nodes.{NodeState}
use Rattle.bus_machine.specs.BusStates.{BusState, node_at}
use Rattle.bus_machine.specs.RunParameters.{Run}
use Rattle.bus_machine.specs.Agreement.{PhaseAgrees}
use Rattle.bus_machine.specs.proof.AgreementLaws.{IsRunOf}
use Rattle.bus_machine.specs.declared.node_action.NodeAction.{NodeAction}
use Rattle.bus_machine.specs.declared.node_action.NodeAction.TheVariants as action
use Rattle.bus_machine.specs.ActionsAndTargets.{targets, target}
use Rattle.run_laws.specs.JournalReadings.{sends, acts}
use Rattle.run_laws.specs.NodeActions.{turn, progress_in, Follows}
use Rattle.pals_clock.specs.declared.clock.Clocks.TheVariants.{Lists}
use Rattle.run_laws.specs.Runs.{clock_at, HasEnded, Runs}
use Rattle.run_laws.specs.proof.LinkTiming.{due_of}
use Rattle.run_laws.specs.proof.ReadingsAndStopCauses.{CauseFits, StopFits}
use Rattle.run_laws.specs.PicksAndJournalLines.{picks_of, IsPickFor}
use Rattle.run_laws.specs.ListRunEndsAndStops.{IsOver, PicksAll, ListStop}
use Rattle.run_laws.specs.proof.ListRunEndsAndStops.{EndsAreTimely, DoneArePicked, EndedPicksEnd, ListsStop}
use Rattle.run_laws.proofs.NodeActions.{IsPlan, length-targets, sized, size}
use Rattle.run_laws.proofs.TargetPicks.{picks_end}
use Rattle.run_laws.proofs.NodePicksAndRunReplay.{runs_agree, nodes_pick, next_target, plan_rules, node_agrees}
use Rattle.run_laws.proofs.NodePicksAndRunReplay.{readings_are_picks}
use Rattle.run_laws.proofs.JournalStartsAndSends.{rounds_are_shown}
use Rattle.run_laws.proofs.LinkTimingPreservation.{due_if_sent, sent_of}
use Rattle.run_laws.proofs.LinkTiming.{links_timed}
use Rattle.run_laws.proofs.StopCauses.{stops_fit}
use Rattle.run_laws.proofs.MeetingStopsAndBounds.{link_is, source_within, target_within}
use Rattle.run_laws.proofs.StartAndSendIndices.{start_place, start_done, send_place, send_done}
use Rattle.run_laws.proofs.StartSendAndStopPicks.{StopAt, StopPicked, both_chosen, stop_picked}

-- ---- one pick for an action
same_pick : (run : Run) (clocks : List ClockState) (k : ℕ) (one two : NodeAction) (a b : ℕ)
    → (x : IsPickFor run clocks k one a) → (y : IsPickFor run clocks k two b) → x.place ≡ y.place → a ≡ b
same_pick run clocks k one two a b x y same =
    same_Some _ _ (sym x.is_pick ∙ ap (slice_get (picks_of run clocks k)) same ∙ y.is_pick)

one_start : (run : Run) (clocks : List ClockState) (k round a b : ℕ) → IsRunOf run → k < length run.design.components
    → IsPickFor run clocks k (action.Start round) a → IsPickFor run clocks k (action.Start round) b → a ≡ b
one_start run clocks k round a b rules within x y =
    same_pick run clocks k (action.Start round) (action.Start round) a b x y
    (start_place (plan_of run.design k) run.rounds x.place round (plan_rules run k rules within) x.is_action
    ∙ sym (start_place (plan_of run.design k) run.rounds y.place round (plan_rules run k rules within)
    y.is_action))

one_send : (run : Run) (clocks : List ClockState) (k round a b : ℕ) → IsPickFor run clocks k (action.Send round) a
    → IsPickFor run clocks k (action.Send round) b → a ≡ b
one_send run clocks k round a b x y =
    same_pick run clocks k (action.Send round) (action.Send round) a b x y
    (send_place (plan_of run.design k) run.rounds x.place y.place round x.is_action y.is_action)

-- ---- a clock that has ended
ended_picks : (run : Run) (clocks : List ClockState) (journal : List JournalEntry) (s : BusState) (k : ℕ) → IsRunOf run
    → Runs run (Lists clocks) journal s → (within : k < length run.design.components) → HasEnded run clocks s k
    → picks_of run clocks k ≡ acts k journal
ended_picks run clocks journal s k rules runs within ended =
    let p = nodes_pick run clocks journal s k rules runs within in
    picks_end (plan_of run.design k) run.rounds (clock_at clocks k) (node_at s k) (acts k journal) p
    (target (plan_of run.design k) ended.0)
    (next_target run s k p.done ended.0 rules (runs_agree run (Lists clocks) journal s rules runs) within p.follows
    ended.1) ended.2

pick_done : (run : Run) (clocks : List ClockState) (journal : List JournalEntry) (s : BusState) (k place at : ℕ)
    → (rules : IsRunOf run) → (runs : Runs run (Lists clocks) journal s) → (within : k < length run.design.components)
    → HasEnded run clocks s k → slice_get (picks_of run clocks k) place ≡ Some at
    → place < (nodes_pick run clocks journal s k rules runs within).done
pick_done run clocks journal s k place at rules runs within ended is =
    let p = nodes_pick run clocks journal s k rules runs within in
    let below = slice_get_within (picks_of run clocks k) place at is in
    let size' : length (picks_of run clocks k) ≡ p.done =
    ap length (ended_picks run clocks journal s k rules runs within ended) ∙ p.count in
    omega arith

waits_sent : (run : Run) (k : ℕ) (n : NodeState) → PhaseAgrees run k (component_at run.design k) n n.phase
    → n.phase ≡ Waiting → n.sent ≡ true
waits_sent run k n agree is = (subst (PhaseAgrees run k (component_at run.design k) n) is agree).0.sent

done_sent : (run : Run) (k : ℕ) (n : NodeState) → PhaseAgrees run k (component_at run.design k) n n.phase
    → n.phase ≡ Done → n.sent ≡ true
done_sent run k n agree is = (subst (PhaseAgrees run k (component_at run.design k) n) is agree).0.sent

-- ---- ends
over_count : (run : Run) (clocks : List ClockState) (journal : List JournalEntry) (s : BusState) (k round at : ℕ)
    → IsRunOf run → Runs run (Lists clocks) journal s → (within : k < length run.design.components)
    → IsOver run clocks s k → round < run.rounds → IsPickFor run clocks k (action.Start round) at
    → round < (node_at s k).count
over_count run clocks journal s k round at rules runs within (inl done) more x =
    let agree = runs_agree run (Lists clocks) journal s rules runs in
    let all =
    (subst (PhaseAgrees run k (component_at run.design k) (node_at s k)) done
    (node_agrees run s k agree within).phase).1 in
    omega arith
over_count run clocks journal s k round at rules runs within (inr ended) more x =
    let p = nodes_pick run clocks journal s k rules runs within in
    start_done (plan_of run.design k) run.rounds x.place round p.done (node_at s k) (plan_rules run k rules within)
    x.is_action (pick_done run clocks journal s k x.place at rules runs within ended x.is_pick) p.follows

pub ends_are_timely : EndsAreTimely
ends_are_timely run clocks journal s rules runs over number number_within round = λ start more x.
    let l = link_at run.design number in
    let is : slice_get run.design.links number ≡ Some l =
    slice_get-get_or run.design.links number no_link number_within in
    let within = target_within run number l rules is in
    let past =
    over_count run clocks journal s l.target.0 (round + 1) start rules runs within
    (over l.target.0 within) more x in
    let in_time = (links_timed run (Lists clocks) journal s number l rules runs is).taken_in round past in
    let begun =
    (both_chosen run (Lists clocks) journal s l.target.0 rules runs).0 (round + 1) in_time.at in_time.at_is in
    let same : in_time.at ≡ start = one_start run clocks l.target.0 (round + 1) in_time.at start rules within begun x in
    let sent = sent_of (delay_of run.delays number) (sends l.source.0 journal) round in_time.due in_time.due_is in
    let due = sent.2 in
    let before = in_time.before in
    (sent.0, (both_chosen run (Lists clocks) journal s l.source.0 rules runs).1 round sent.0 sent.1, omega arith)

-- ---- stops
-- if its source has not sent a round and has reached its clock's end, the source's picks end before its send
never_picked : (run : Run) (clocks : List ClockState) (journal : List JournalEntry) (s : BusState)
    (k number round at : ℕ) → IsRunOf run → Runs run (Lists clocks) journal s → k < length run.design.components
    → HasEnded run clocks s k
    → due_of (delay_of run.delays number) (sends k journal) round ≡ None
    → IsPickFor run clocks k (action.Send round) at → ⊥
never_picked run clocks journal s k number round at rules runs within ended none x =
    let p = nodes_pick run clocks journal s k rules runs within in
    let agree = (node_agrees run s k (runs_agree run (Lists clocks) journal s rules runs) within).phase in
    let sent =
    send_done (plan_of run.design k) run.rounds x.place round p.done (node_at s k) x.is_action
    (pick_done run clocks journal s k x.place at rules runs within ended x.is_pick)
    (waits_sent run k (node_at s k) agree) (done_sent run k (node_at s k) agree) p.follows in
    let size' = (rounds_are_shown run (Lists clocks) journal s k rules runs).1 in
    let due = due_if_sent (delay_of run.delays number) (sends k journal) round (omega arith) in
    let both : None ≡ Some due.0 = sym none ∙ due.1 in
    absurd (cc)

late_by : (run : Run) (clocks : List ClockState) (journal : List JournalEntry) (s : BusState) (number round : ℕ)
    (l : Link) (at : ℕ) (cause : Cause) → IsRunOf run → Runs run (Lists clocks) journal s
    → slice_get run.design.links number ≡ Some l
    → CauseFits run (Lists clocks) s l.source.0
    (due_of (delay_of run.delays number) (sends l.source.0 journal) round) at cause
    → (send : ℕ) → IsPickFor run clocks l.source.0 (action.Send round) send
    → send + delay_of run.delays number round ≤ at → ⊥
late_by run clocks journal s number round l at NotSent rules runs is fits send x most =
    never_picked run clocks journal s l.source.0 number round send rules runs (source_within run number l rules is)
    fits.1 fits.0 x
late_by run clocks journal s number round l at InTransit rules runs is fits send x most =
    let sent = sent_of (delay_of run.delays number) (sends l.source.0 journal) round fits.0 fits.1 in
    let same : send ≡ sent.0 =
    one_send run clocks l.source.0 round send sent.0 x
    ((both_chosen run (Lists clocks) journal s l.source.0 rules runs).1 round sent.0 sent.1) in
    let due = sent.2 in
    let late = fits.2 in
    omega arith
late_by run clocks journal s number round l at Lost rules runs is fits send x most = fits

none_by : (run : Run) (clocks : List ClockState) (journal : List JournalEntry) (s : BusState) (number round : ℕ)
    (l : Link) (at : ℕ) (cause : Cause) → IsRunOf run → Runs run (Lists clocks) journal s
    → slice_get run.design.links number ≡ Some l
    → CauseFits run (Lists clocks) s l.source.0 (due_of (delay_of run.delays number) (sends l.source.0 journal) round)
    at cause → cause ≡ NotSent → (send : ℕ) → IsPickFor run clocks l.source.0 (action.Send round) send → ⊥
none_by run clocks journal s number round l at NotSent rules runs is fits same send x =
    never_picked run clocks journal s l.source.0 number round send rules runs (source_within run number l rules is)
    fits.1 fits.0 x
none_by run clocks journal s number round l at InTransit rules runs is fits same send x = absurd (cc)
none_by run clocks journal s number round l at Lost rules runs is fits same send x = absurd (cc)

none_lost : (run : Run) (clocks : List ClockState) (s : BusState) (node : ℕ) (due : Option ℕ) (at : ℕ) (cause : Cause)
    → CauseFits run (Lists clocks) s node due at cause → cause ≢ Lost
none_lost run clocks s node due at NotSent fits = λ is. absurd (cc)
none_lost run clocks s node due at InTransit fits = λ is. absurd (cc)
none_lost run clocks s node due at Lost fits = λ is. fits

stop_by : (run : Run) (clocks : List ClockState) (journal : List JournalEntry) (s : BusState) (why : Option Stop)
    → IsRunOf run → Runs run (Lists clocks) journal s → s.stop ≡ why → StopFits run (Lists clocks) journal s why
    → IfSome why (ListStop run clocks s)
stop_by run clocks journal s None rules runs is fits = tt
stop_by run clocks journal s (Some (stop.Missed link round reading cause)) rules runs is fits =
    let x = fits.0 in
    let here = link_is run link.0 x.link x.is_link in
    let picked' : StopAt run clocks s link.0 reading =
    subst (λ (w : Option Stop). StopPicked run (Lists clocks) s w) is
    (stop_picked run (Lists clocks) journal s rules runs) in
    let at_same : x.at ≡ picked'.0 = same_Some _ _ (sym x.reading_is ∙ picked'.1) in
    let next : (node_at s (link_at run.design link.0).target.0).count ≡ round + 1 =
    ap (λ (l : Link). (node_at s l.target.0).count) here ∙ fits.1 in
    let start : IsPickFor run clocks (link_at run.design link.0).target.0 (action.Start (round + 1)) picked'.0 =
    subst (λ c. IsPickFor run clocks (link_at run.design link.0).target.0 (action.Start c) picked'.0) next
    picked'.2 in
    let begins = x.begins in
    record {
      stands = record { start = picked'.0; reading_is = picked'.1; is_pick = start };
      late = λ timely.
          let count = fits.1 in
          let t = timely picked'.0 (omega arith) start in
          let most = t.2 in
          late_by run clocks journal s link.0 round x.link x.at cause rules runs x.is_link fits.2 t.0
          (subst (λ (l : Link). IsPickFor run clocks l.source.0 (action.Send round) t.0) here t.1) (omega arith);
      not_lost =
          none_lost run clocks s x.link.source.0
          (due_of (delay_of run.delays link.0) (sends x.link.source.0 journal) round) x.at cause fits.2;
      unsent =
          λ unsent at y. none_by run clocks journal s link.0 round x.link x.at cause rules runs x.is_link fits.2 unsent
          at (subst (λ (l : Link). IsPickFor run clocks l.source.0 (action.Send round) at) here y);
    }
stop_by run clocks journal s (Some (stop.Early link round reading)) rules runs is fits =
    let x = fits.0 in
    let here = link_is run link.0 x.link x.is_link in
    let picked' : StopAt run clocks s link.0 reading =
    subst (λ (w : Option Stop). StopPicked run (Lists clocks) s w) is
    (stop_picked run (Lists clocks) journal s rules runs) in
    let at_same : x.at ≡ picked'.0 = same_Some _ _ (sym x.reading_is ∙ picked'.1) in
    let sent = sent_of (delay_of run.delays link.0) (sends x.link.source.0 journal) round fits.2.0 fits.2.1 in
    let due = sent.2 in
    let most = fits.2.2 in
    record {
      stands = record { start = picked'.0; reading_is = picked'.1; is_pick = picked'.2 };
      not_before = subst (λ (l : Link). (node_at s l.target.0).count ≤ round) (sym here) fits.1;
      send = sent.0;
      sent =
          subst (λ (l : Link). IsPickFor run clocks l.source.0 (action.Send round) sent.0) (sym here)
          ((both_chosen run (Lists clocks) journal s x.link.source.0 rules runs).1 round sent.0 sent.1);
      due = omega arith;
    }

pub lists_stop : ListsStop
lists_stop run clocks journal s rules runs =
    stop_by run clocks journal s s.stop rules runs refl (stops_fit run (Lists clocks) journal s rules runs)

-- ---- where picks end
picked_most : (rs answers : List ℕ) (n : ℕ) → length answers ≤ n → length (picked rs answers) ≤ suc n
picked_most [] answers n most = omega arith
picked_most (r ∷ rs) answers n most = omega arith

picks_most : (readings ts : List ℕ) → length (picks readings ts) ≤ length ts
picks_most readings [] = omega arith
picks_most readings (t ∷ ts) =
    picked_most (remaining_from readings t) (picks (remaining_from readings t) ts) (length ts)
    (picks_most (remaining_from readings t) ts)

all_done : (plan : Plan) (rounds done : ℕ) (n : NodeState) → IsPlan plan → Follows plan done n → n.phase ≡ Done
    → n.count ≡ rounds → done ≡ rounds * (plan.rate + 1)
all_done plan rounds done n rules (inl first) is all = absurd (let both : Waiting ≡ Done = sym first.phase ∙ is in cc)
all_done plan rounds done n rules (inr some) is all =
    let has = (sized plan some.before rules).size_is in
    let here : size plan (progress_in plan n Done) ≡ done =
    ap (size plan) (sym (ap (progress_in plan n) is) ∙ sym some.progress)
    ∙ ap (λ k. size plan (turn plan k).before) some.done_is ∙ has ∙ sym some.done_is in
    let one : n.count ≡ (n.count - 1) + 1 = let before = some.count in omega arith in
    let whole : n.count * (plan.rate + 1) ≡ (n.count - 1) * (plan.rate + 1) + (plan.rate + 1) =
    ap (λ c. c * (plan.rate + 1)) one ∙ omega arith in
    let end' : n.count * (plan.rate + 1) ≡ rounds * (plan.rate + 1) = ap (λ c. c * (plan.rate + 1)) all in
    omega arith

done_picked : (run : Run) (clocks : List ClockState) (journal : List JournalEntry) (s : BusState) (node : ℕ)
    → IsRunOf run → Runs run (Lists clocks) journal s → node < length run.design.components
    → (node_at s node).phase ≡ Done → PicksAll run clocks node
done_picked run clocks journal s node rules runs within done =
    let plan = plan_of run.design node in
    let agree = runs_agree run (Lists clocks) journal s rules runs in
    let p = nodes_pick run clocks journal s node rules runs within in
    let all =
    (subst (PhaseAgrees run node (component_at run.design node) (node_at s node)) done
    (node_agrees run s node agree within).phase).1 in
    let prefix = readings_are_picks run clocks journal s node rules runs within in
    let size' : length (picks_of run clocks node) ≡ length (acts node journal) + length prefix.0 = ap length prefix.1
    ∙ length-append (acts node journal) prefix.0 in
    let count = p.count in
    let every =
    all_done plan run.rounds p.done (node_at s node) (plan_rules run node rules within) p.follows done all in
    let targets' = length-targets plan run.rounds in
    let most = picks_most (clock_at clocks node).readings (targets plan run.rounds) in
    omega arith

pub ended_picks_end : EndedPicksEnd
ended_picks_end run clocks journal s rules runs node within ended =
    let plan = plan_of run.design node in
    let agree = runs_agree run (Lists clocks) journal s rules runs in
    let p = nodes_pick run clocks journal s node rules runs within in
    let size' : length (picks_of run clocks node) ≡ p.done =
    ap length (ended_picks run clocks journal s node rules runs within ended) ∙ p.count in
    ap (slice_get (targets plan run.rounds)) size'
    ∙ next_target run s node p.done ended.0 rules agree within p.follows ended.1

picked_done : (run : Run) (clocks : List ClockState) (journal : List JournalEntry) (s : BusState) (node : ℕ)
    → IsRunOf run → Runs run (Lists clocks) journal s → node < length run.design.components
    → IsOver run clocks s node → PicksAll run clocks node → (node_at s node).phase ≡ Done
picked_done run clocks journal s node rules runs within (inl done) all = done
picked_done run clocks journal s node rules runs within (inr ended) all =
    let here = ended_picks_end run clocks journal s rules runs node within ended in
    let more =
    slice_get_within (targets (plan_of run.design node) run.rounds) (length (picks_of run clocks node))
    (target (plan_of run.design node) ended.0) here in
    absurd (omega arith)

pub done_are_picked : DoneArePicked
done_are_picked run clocks journal s rules runs node within over = (
  done_picked run clocks journal s node rules runs within,
  picked_done run clocks journal s node rules runs within over,
)
