-- Runs in time have no stop, and the ends of runs depend only on the readings of their lists.
use Rattle.std.proofs.Common.{◌≡◌, ◌⊎◌, inl, inr, ℕ, zero, suc, ◌-◌, ◌<◌, ◌≤◌, Bool, true, false, cond, List, [], ◌∷◌}
use Rattle.std.proofs.Common.{length, map, slice_get, slice_index_or, Option, Some, None, refl, sym, ap, ◌∙◌, subst}
use Rattle.std.proofs.Common.{arith}
use Rattle.std.specs.Prelude.{IfSome}
use Rattle.std.proofs.lemmas.Bool.{cases_order}
use Rattle.std.proofs.lemmas.Option.{same_Some, slice_get_within, slice_get-get_or}
use Rattle.pals_base.specs.ClockPicks.{picks}
use Rattle.pals_clock.specs.ClockStates.{ClockState}
use Rattle.pals_clock.specs.declared.clock.Clocks.{Clocks}
use Rattle.pals_clock.specs.declared.clock.Clocks.TheVariants.{Meet, Lists}
use Rattle.pals_model.specs.declared.design.Link.{Link}
use Rattle.pals_model.specs.Delays.{delay_of}
use Rattle.pals_runs.specs.declared.phase.Phase.{Phase}
use Rattle.pals_runs.specs.declared.phase.Phase.TheVariants.{Done}
use Rattle.pals_runs.specs.declared.journal.JournalEntry.{JournalEntry}
use Rattle.pals_runs.specs.declared.journal.Stop.{Stop}
use Rattle.pals_runs.specs.declared.journal.Stop.TheVariants as stop
use Rattle.bus_machine.specs.declared.node_action.NodeAction.{NodeAction}
use Rattle.bus_machine.specs.proof.AgreementLaws.{IsRunOf}
use Rattle.bus_machine.specs.Plans.{plan_of, link_at, no_link}
use Rattle.bus_machine.specs.BusStates.{BusState, node_at}
use Rattle.bus_machine.specs.RunParameters.{Run}
use Rattle.bus_machine.specs.Nodes.{sent_rounds}
use Rattle.bus_machine.specs.ActionsAndTargets.{targets, target, next_in}
use Rattle.run_laws.specs.JournalReadings.{sends}
use Rattle.run_laws.specs.Runs.{clock_at, lists_in, HasEnded, Runs}
use Rattle.run_laws.specs.PicksAndJournalLines.{picks_of, IsPickFor}
use Rattle.run_laws.specs.proof.LinkTiming.{due_of}
use Rattle.run_laws.specs.TimelyMessages.{IsTimely}
use Rattle.run_laws.specs.ListRunEndsAndStops.{PicksAll, PicksEndAt, ListStop, AllAtEnd}
use Rattle.run_laws.specs.Meetings.{AllDone, MeetingStop}
use Rattle.run_laws.specs.proof.ReadingsAndStopCauses.{StopFits}
use Rattle.run_laws.specs.proof.RunTermination.{IsFirstEnded}
use Rattle.run_laws.specs.proof.TimelyRunsAndEnds.{InTime, NoneStops, BoundsAreInTime, EndsFirst, EndsAgree}
use Rattle.run_laws.specs.proof.TimelyRunsAndEnds.{PickedAreDone}
use Rattle.run_laws.proofs.NodePicksAndRunReplay.{runs_agree, node_agrees}
use Rattle.run_laws.proofs.JournalStartsAndSends.{rounds_are_shown}
use Rattle.run_laws.proofs.StopCauses.{stops_fit}
use Rattle.run_laws.proofs.MeetingStopsAndBounds.{source_within, bounds, meetings_stop}
use Rattle.run_laws.proofs.ListRunEndsAndStops.{done_are_picked, ended_picks_end, lists_stop}
use Rattle.run_laws.proofs.RunTermination.{ends_are_named}
use Rattle.run_laws.proofs.LinkTimingPreservation.{sent_of}

-- ---- the parts that depend only on the readings of lists
readings_at : (node : ℕ) (clocks : List ClockState)
    → (clock_at clocks node).readings ≡ slice_index_or (map (λ (c : ClockState). c.readings) clocks) node []
readings_at node [] = refl
readings_at zero (c ∷ clocks) = refl
readings_at (suc node) (c ∷ clocks) = readings_at node clocks

pub readings_same : (one two : List ClockState) → lists_in (Lists one) ≡ lists_in (Lists two) → (node : ℕ)
    → (clock_at one node).readings ≡ (clock_at two node).readings
readings_same one two same node =
    readings_at node one ∙ ap (λ rs. slice_index_or rs node []) (same_Some _ _ same) ∙ sym (readings_at node two)

module _ (run : Run) (one two : List ClockState) (same : lists_in (Lists one) ≡ lists_in (Lists two)) where
  picks_same : (node : ℕ) → picks_of run one node ≡ picks_of run two node
  picks_same node = ap (λ rs. picks rs (targets (plan_of run.design node) run.rounds)) (readings_same one two same node)

  pick_same : (node : ℕ) (action : NodeAction) (at : ℕ) → IsPickFor run one node action at
      → IsPickFor run two node action at
  pick_same node action at x =
      record {
        place = x.place;
        is_action = x.is_action;
        is_pick = ap (λ ps. slice_get ps x.place) (sym (picks_same node)) ∙ x.is_pick;
      }

timely_same : (run : Run) (one two : List ClockState) (number round : ℕ) → lists_in (Lists one) ≡ lists_in (Lists two)
    → IsTimely run two number round → IsTimely run one number round
timely_same run one two number round same timely = λ start more x.
    let t = timely start more (pick_same run one two same _ _ start x) in
    (t.0, pick_same run two one (sym same) _ _ t.0 t.1, t.2)

-- ---- no stop
lists_none : (run : Run) (later clocks : List ClockState) (journal : List JournalEntry) (s : BusState)
    (why : Option Stop) → lists_in (Lists later) ≡ lists_in (Lists clocks) → InTime run (Lists clocks)
    → StopFits run (Lists later) journal s why → IfSome why (ListStop run later s) → why ≡ None
lists_none run later clocks journal s None same in_time fits is = refl
lists_none run later clocks journal s (Some (stop.Missed link round reading cause)) same in_time fits is =
    let t = in_time link.0 (slice_get_within run.design.links link.0 fits.0.link fits.0.is_link) round in
    absurd (is.late (timely_same run later clocks link.0 round same t.0))
lists_none run later clocks journal s (Some (stop.Early link round reading)) same in_time fits is =
    let t = in_time link.0 (slice_get_within run.design.links link.0 fits.0.link fits.0.is_link) round in
    let stands = is.stands in
    let begins = (node_at s (link_at run.design link.0).target.0).count in
    let after' =
    t.1 begins stands.start is.send is.not_before (pick_same run later clocks same _ _ stands.start stands.is_pick)
    (pick_same run later clocks same _ _ is.send is.sent) in
    let due = is.due in
    absurd (omega (arith, after', due))

sent_most : (b : Bool) (count rounds : ℕ) → count ≤ rounds → cond b count (count - 1) ≤ rounds
sent_most true count rounds most = most
sent_most false count rounds most = omega arith

-- an early message belongs to a round of the run
early_within : (run : Run) (journal : List JournalEntry) (s : BusState) (number round d : ℕ) (link : Link) → IsRunOf run
    → Runs run Meet journal s → slice_get run.design.links number ≡ Some link
    → due_of (delay_of run.delays number) (sends link.source.0 journal) round ≡ Some d → round < run.rounds
early_within run journal s number round d link rules runs is due =
    let source = link.source.0 in
    let n = node_at s source in
    let sent = sent_of (delay_of run.delays number) (sends source journal) round d due in
    let below = slice_get_within (sends source journal) round sent.0 sent.1 in
    let many = (rounds_are_shown run Meet journal s source rules runs).1 in
    let count =
    (node_agrees run s source (runs_agree run Meet journal s rules runs)
    (source_within run number link rules is)).rounds in
    let most : sent_rounds n ≤ run.rounds = sent_most n.sent n.count run.rounds count in
    omega arith

meeting_none : (run : Run) (journal : List JournalEntry) (s : BusState) (why : Option Stop) → IsRunOf run
    → Runs run Meet journal s → InTime run Meet → StopFits run Meet journal s why → IfSome why (MeetingStop run)
    → why ≡ None
meeting_none run journal s None rules runs in_time fits is = refl
meeting_none run journal s (Some (stop.Missed link round reading cause)) rules runs in_time fits is =
    absurd ((in_time link.0 is.0.within round).0 is.0)
meeting_none run journal s (Some (stop.Early link round reading)) rules runs in_time fits is =
    let x = fits.0 in
    let after' =
    (in_time link.0 (slice_get_within run.design.links link.0 x.link x.is_link) round).1
    (early_within run journal s link.0 round fits.2.0 x.link rules runs x.is_link fits.2.1) in
    absurd (omega (arith, after', is.0))

pub none_stops : NoneStops
none_stops run Meet journal s rules runs Meet same in_time =
    meeting_none run journal s s.stop rules runs in_time (stops_fit run Meet journal s rules runs)
    (meetings_stop run journal s rules runs)
none_stops run Meet journal s rules runs (Lists clocks) same in_time = absurd (cc)
none_stops run (Lists later) journal s rules runs Meet same in_time = absurd (cc)
none_stops run (Lists later) journal s rules runs (Lists clocks) same in_time =
    lists_none run later clocks journal s s.stop same in_time (stops_fit run (Lists later) journal s rules runs)
    (lists_stop run later journal s rules runs)

-- delays within the bounds are in time
pub bounds_are_in_time : BoundsAreInTime
bounds_are_in_time run rules fits number within round =
    let l = link_at run.design number in
    let there : slice_get run.design.links number ≡ Some l = slice_get-get_or run.design.links number no_link within in
    let b = bounds run l.source.0 rules (source_within run number l rules there) in
    let delay = fits number round within in
    let skew = rules.design.gamma.skew.0 in
    let early = b.early in
    let release = b.release in (
      (λ late. let over = late.late in absurd (omega (arith, delay.1, over, release))),
      (λ more. omega (arith, delay.0, early, skew)),
    )

-- ---- ends
-- a node that is done has not reached its list's end
pub done_or_ended : (run : Run) (clocks : List ClockState) (s : BusState) (node : ℕ) → (node_at s node).phase ≡ Done
    → HasEnded run clocks s node → ⊥
done_or_ended run clocks s node done ended =
    let both : None ≡ Some ended.0 = sym (ap (λ (p : Phase). next_in (plan_of run.design node) (node_at s node) p) done)
    ∙ ended.1 in
    absurd (cc)

-- what ends first at a state is one
pub one_first : (run : Run) (clocks : Clocks) (s : BusState) (node other goal end : ℕ)
    → EndsFirst run clocks s node goal → EndsFirst run clocks s other end → (node ≡ other) × (goal ≡ end)
one_first run Meet s node other goal end x y = absurd x
one_first run (Lists clocks) s node other goal end x y = elim (cases_order node other) [
  | inl same ↦
      let mine =
      subst (λ k. next_in (plan_of run.design k) (node_at s k) (node_at s k).phase ≡ Some x.0.ended.0) same
      x.0.ended.1 in
      let action : x.0.ended.0 ≡ y.0.ended.0 = same_Some _ _ (sym mine ∙ y.0.ended.1) in (
        same,
        sym x.1 ∙ ap (λ k. target (plan_of run.design k) x.0.ended.0) same
            ∙ ap (target (plan_of run.design other)) action ∙ y.1,
      )
  | inr apart ↦ elim apart [
    | inl below ↦ absurd (done_or_ended run clocks s node (y.0.before node below) x.0.ended)
    | inr above ↦ absurd (done_or_ended run clocks s other (x.0.before other above) y.0.ended)
  ]
]

-- it is the first whose picks do not reach its last target
picked_all : (run : Run) (one two : List ClockState) (node : ℕ) → lists_in (Lists one) ≡ lists_in (Lists two)
    → PicksAll run one node → PicksAll run two node
picked_all run one two node same all = ap length (sym (picks_same run one two same node)) ∙ all

end_same : (run : Run) (one two : List ClockState) (node goal : ℕ) → lists_in (Lists one) ≡ lists_in (Lists two)
    → PicksEndAt run one node goal → PicksEndAt run two node goal
end_same run one two node goal same ends =
    ap (λ ps. slice_get (targets (plan_of run.design node) run.rounds) (length ps))
    (sym (picks_same run one two same node)) ∙ ends

module _ (run : Run) (one two : List ClockState) (journal more : List JournalEntry) (s t : BusState)
    (rules : IsRunOf run) (runs : Runs run (Lists one) journal s)
    (others : Runs run (Lists two) more t) (same : lists_in (Lists one) ≡ lists_in (Lists two)) where
  -- a node that is done in the one is done in the other
  done_too : (node : ℕ) → node < length run.design.components → AllAtEnd run (Lists one) s → AllAtEnd run (Lists two) t
      → (node_at s node).phase ≡ Done → (node_at t node).phase ≡ Done
  done_too node within over end done =
      let all = (done_are_picked run one journal s rules runs node within (over node within)).0 done in
      (done_are_picked run two more t rules others node within (end node within)).1
      (picked_all run one two node same all)

-- the node waits for the same target in both runs
one_goal : (run : Run) (one two : List ClockState) (journal more : List JournalEntry) (s t : BusState) (node other : ℕ)
    → IsRunOf run → Runs run (Lists one) journal s → Runs run (Lists two) more t
    → lists_in (Lists one) ≡ lists_in (Lists two) → node ≡ other → (x : IsFirstEnded run one s node)
    → (y : IsFirstEnded run two t other)
    → target (plan_of run.design node) x.ended.0 ≡ target (plan_of run.design other) y.ended.0
one_goal run one two journal more s t node other rules runs others same place x y =
    let mine = end_same run one two node _ same (ended_picks_end run one journal s rules runs node x.within x.ended) in
    let its = ended_picks_end run two more t rules others other y.within y.ended in
    same_Some _ _ (sym (subst (λ k. PicksEndAt run two k (target (plan_of run.design node) x.ended.0)) place
    mine) ∙ its)

both_first : (run : Run) (one two : List ClockState) (journal more : List JournalEntry) (s t : BusState)
    (node other : ℕ) → IsRunOf run → Runs run (Lists one) journal s → Runs run (Lists two) more t
    → lists_in (Lists one) ≡ lists_in (Lists two) → AllAtEnd run (Lists one) s → AllAtEnd run (Lists two) t
    → IsFirstEnded run one s node → IsFirstEnded run two t other
    → (node goal : ℕ) × EndsFirst run (Lists one) s node goal × EndsFirst run (Lists two) t node goal
both_first run one two journal more s t node other rules runs others same over end x y = elim (cases_order node other) [
  | inl place ↦
      let goal = target (plan_of run.design node) x.ended.0 in (
        node,
        goal,
        (x, refl),
        subst (λ k. EndsFirst run (Lists two) t k goal) (sym place)
            (y, sym (one_goal run one two journal more s t node other rules runs others same place x y)),
      )
  | inr apart ↦ elim apart [
    | inl below ↦ absurd (done_or_ended run one s node
        (done_too run two one more journal t s rules others runs (sym same) node x.within end over
        (y.before node below)) x.ended)
    | inr above ↦ absurd (done_or_ended run two t other
        (done_too run one two journal more s t rules runs others same other y.within over end
        (x.before other above)) y.ended)
  ]
]

lists_end : (run : Run) (one two : List ClockState) (journal more : List JournalEntry) (s t : BusState) → IsRunOf run
    → Runs run (Lists one) journal s → Runs run (Lists two) more t
    → lists_in (Lists one) ≡ lists_in (Lists two) → AllAtEnd run (Lists one) s → AllAtEnd run (Lists two) t
    → (AllDone run s × AllDone run t)
    ⊎ ((node goal : ℕ) × EndsFirst run (Lists one) s node goal × EndsFirst run (Lists two) t node goal)
lists_end run one two journal more s t rules runs others same over end =
    elim (ends_are_named run one journal s rules runs over) [
      | inl done ↦ inl (
        done,
        λ node within.
            done_too run one two journal more s t rules runs others same node within over end (done node within),
      )
      | inr x ↦ elim (ends_are_named run two more t rules others end) [
        | inl done ↦ absurd (done_or_ended run one s x.0
            (done_too run two one more journal t s rules others runs (sym same) x.0 x.1.within end over
            (done x.0 x.1.within)) x.1.ended)
        | inr y ↦ inr (both_first run one two journal more s t x.0 y.0 rules runs others same over end x.1 y.1)
      ]
    ]

pub ends_are_one : EndsAgree
ends_are_one run Meet Meet journal more s t rules runs others same over end = inl (over, end)
ends_are_one run Meet (Lists two) journal more s t rules runs others same over end = absurd (cc)
ends_are_one run (Lists one) Meet journal more s t rules runs others same over end = absurd (cc)
ends_are_one run (Lists one) (Lists two) journal more s t rules runs others same over end =
    lists_end run one two journal more s t rules runs others same over end

pub picked_are_done : PickedAreDone
picked_are_done run Meet journal s rules runs clocks same all over = over
picked_are_done run (Lists later) journal s rules runs Meet same all over = absurd (cc)
picked_are_done run (Lists later) journal s rules runs (Lists clocks) same all over = λ node within.
    (done_are_picked run later journal s rules runs node within (over node within)).1
    (picked_all run clocks later node (sym same) (all node within))
