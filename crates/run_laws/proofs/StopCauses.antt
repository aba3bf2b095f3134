-- The cause of each stop of a run: the cause of a missed start, and that in virtual time the source has sent. The
-- claim StopsFit.
use Rattle.std.proofs.Common.{◌≡◌, inl, inr, ℕ, ◌+◌, ◌-◌, ◌<◌, ◌≤◌, nat_eq, nat_le, nat_lt, Bool, true, false, cond}
use Rattle.std.proofs.Common.{◌&&◌, List, [], ◌∷◌, ◌++◌, length, slice_get, All, Option, Some, None, refl, sym, ap, ap₂}
use Rattle.std.proofs.Common.{◌∙◌, subst, arith}
use Rattle.std.specs.Prelude.{is_some, is_none, if◌then◌else◌}
use Rattle.std.specs.Option.{option_map, option_map_or, unwrap_or}
use Rattle.std.proofs.lemmas.Bool.{cases_eq, cases_lt, ltb-true, ltb-false, leb-true, eqb-true, false≢true}
use Rattle.std.proofs.lemmas.Grind.{common_steps, flat_map-append, get_or-set_at}
use Rattle.std.proofs.lemmas.List.{append-nil, get_or-set_other}
use Rattle.std.proofs.lemmas.Option.{same_Some, slice_get_past, get_or_from_slice_get, slice_get-get_or}
use Rattle.list_lemmas.proofs.Options.{some_by_test, none_unless_some}
use Rattle.pals_base.specs.declared.basic_types.NodeNo.{NodeNo}
use Rattle.pals_base.specs.declared.basic_types.LinkNo.{LinkNo}
use Rattle.pals_base.specs.declared.basic_types.PortValue.{PortValue}
use Rattle.pals_base.specs.PeriodBoundAndReleases.{alarm}
use Rattle.pals_base.specs.ClockPicks.{remaining_from}
use Rattle.pals_clock.specs.ClockStates.{ClockState, standing_at}
use Rattle.pals_model.specs.declared.design.Link.{Link}
use Rattle.pals_model.specs.declared.flight_copy.FlightCopy.{FlightCopy}
use Rattle.pals_model.specs.Delays.{delay_of}
use Rattle.pals_model.specs.Flights.{is_of, oldest}
use Rattle.pals_model.specs.DesignRules.{IsLink}
use Rattle.pals_model.proofs.FirstMatches.{at_element}
use Rattle.pals_runs.specs.declared.journal.Arrived.{Arrived}
use Rattle.pals_runs.specs.declared.journal.Arrived.TheVariants.{Kept, Ignored, Early}
use Rattle.pals_runs.specs.declared.journal.Cause.{Cause}
use Rattle.pals_runs.specs.declared.journal.Cause.TheVariants.{NotSent, InTransit, Lost}
use Rattle.pals_runs.specs.declared.journal.Stop.{Stop}
use Rattle.pals_runs.specs.declared.journal.Stop.TheVariants as stop
use Rattle.pals_runs.specs.declared.journal.JournalEntry.{JournalEntry}
use Rattle.pals_runs.specs.declared.journal.JournalEntry.TheVariants as entry
use Rattle.bus_machine.specs.Plans.{plan_of, component_at, link_at, no_link}
use Rattle.bus_machine.specs.Nodes.{NodeState, round_of, sent_rounds}
use Rattle.bus_machine.specs.NodeEvents.{is_waiting, next_step, running_step, stepped, finished, slot_at, arrived}
use Rattle.bus_machine.specs.NodeEvents.{received}
use Rattle.bus_machine.specs.LinkEvents.{is_in_flight, arriving}
use Rattle.bus_machine.specs.BusStates.{BusState, node_at, flight_at, with_node}
use Rattle.bus_machine.specs.RunParameters.{Run}
use Rattle.bus_machine.specs.MissedMessages.{missing_link, cause_of}
use Rattle.bus_machine.specs.Machine.{BusEvent, Start, Step, Finish, Send, Arrive, Drop, Repeat, is_allowed, after}
use Rattle.bus_machine.specs.Machine.{after_start, after_arrive, arrival, early_stop, missed_stop}
use Rattle.bus_machine.specs.Replay.{entries, start_entry, stop_entry}
use Rattle.bus_machine.specs.Agreement.{PhaseAgrees, Agrees}
use Rattle.bus_machine.specs.proof.AgreementLaws.{IsRunOf}
use Rattle.bus_machine.specs.ActionsAndTargets.{target}
use Rattle.run_laws.specs.TraceRules.{is_due}
use Rattle.bus_machine.proofs.ListsAndOldestCopies.{oldest_is_one}
use Rattle.bus_machine.proofs.NodeEventBusAgreement.{is_waiting_phase, on_step_stop}
use Rattle.bus_machine.proofs.NodeReplacement.{keeps_at}
use Rattle.run_laws.specs.JournalReadings.{send_in, sends}
use Rattle.run_laws.specs.NodeActions.{upcoming}
use Rattle.pals_clock.specs.declared.clock.Clocks.{Clocks}
use Rattle.pals_clock.specs.declared.clock.Clocks.TheVariants.{Meet, Lists}
use Rattle.run_laws.specs.Runs.{no_clock, clock_at, Shows, HasEnded, IsAwaited, Begins, Takes, KeepsTo, Picks, Runs}
use Rattle.run_laws.specs.Runs.{opens, picks_for, goes_on}
use Rattle.run_laws.specs.proof.LinkTiming.{view, early_on, due_of, one_if, copies, Whereabouts, in_flight, in_slot}
use Rattle.run_laws.specs.proof.LinkTiming.{was_taken, came_early, IsDueCopy}
use Rattle.run_laws.specs.proof.ReadingsAndStopCauses.{IsFor, StopsAtStart, NeverSent, CauseFits, StopFits, StopsFit}
use Rattle.run_laws.proofs.NodePicksAndRunReplay.{runs_agree, node_agrees, many_clocks}
use Rattle.run_laws.proofs.JournalStartsAndSends.{rounds_are_shown}
use Rattle.run_laws.proofs.LinkTimingPreservation.{arriving_tells, due_if_sent}
use Rattle.run_laws.proofs.MissedLinks.{missed_link}
use Rattle.run_laws.proofs.LinkViews.{TimedIn}
use Rattle.run_laws.proofs.LinkTiming.{links_timed, with_message_count}
use Rattle.run_laws.proofs.TargetPicks.{reached_again}
use Rattle.run_laws.proofs.StartAndSendReadings.{shown_for}
use Rattle.run_laws.proofs.SentBeforeStart.{meeting_sent}

-- ---- the cause of a missed start
none_flying_by : (round : ℕ) (c : FlightCopy) (cs : List FlightCopy) (b : Bool) → is_of round c ≡ b
    → cond b (Some c) (oldest round cs) ≡ None → (oldest round cs ≡ None → copies round cs ≡ 0)
    → one_if (is_of round c) + copies round cs ≡ 0
none_flying_by round c cs true is none rest = absurd (cc)
none_flying_by round c cs false is none rest = let others = rest none in
    let zero' : one_if (is_of round c) ≡ 0 = ap one_if is in omega arith

none_flying : (round : ℕ) (flight : List FlightCopy) → oldest round flight ≡ None → copies round flight ≡ 0
none_flying round [] none = refl
none_flying round (c ∷ cs) none = none_flying_by round c cs (is_of round c) refl none (none_flying round cs)

not_lost : (round count flying : ℕ) (slot : Option (List PortValue)) (taken : Option ℕ) → taken ≡ None → flying ≡ 0
    → count ≡ round + 1 → slot ≡ None → Whereabouts round count slot flying taken → ⊥
not_lost round count flying slot taken going none here empty (in_flight one most free) = omega arith
not_lost round count flying slot taken going none here empty (in_slot zero' next full) =
    false≢true (sym (ap is_some empty) ∙ full)
not_lost round count flying slot taken going none here empty (was_taken zero' past) = omega arith
not_lost round count flying slot taken going none here empty (came_early zero' early) = let both : None ≡ Some round =
    sym going ∙ early in absurd (cc)

not_due : (due : Option ℕ) (at d : ℕ) → option_map_or (λ x. nat_le x (unwrap_or (Some at) 0)) due false ≡ false
    → due ≡ Some d → at < d
not_due due at d is same =
    let here : nat_le d at ≡ false =
    sym (ap (λ o. option_map_or (λ x. nat_le x (unwrap_or (Some at) 0)) o false) same) ∙ is in
    elim (cases_lt at d) [
      | inl below ↦ below
      | inr past ↦ absurd (false≢true
          (sym here ∙ (let yes' : nat_le d at ≡ true = grind (arith, common_steps) in yes')))
    ]

-- the facts about a start that misses a link's message
record Missing (run : Run) (clocks : Clocks) (journal : List JournalEntry) (s : BusState) (number : ℕ) (l : Link)
    (round at : ℕ) : Type 0 where
  pub is_link : slice_get run.design.links number ≡ Some l
  pub next : (node_at s l.target.0).count ≡ round + 1
  pub more : (node_at s l.target.0).count < run.rounds
  pub empty : slot_at (node_at s l.target.0) l.in_port ≡ None
  pub none_due : All (λ copy. is_due (Some at) copy ≡ false) (flight_at s number)
  pub never : sent_rounds (node_at s l.source.0) ≤ round → NeverSent run clocks s l.source.0

cause_by : (run : Run) (clocks : Clocks) (journal : List JournalEntry) (s : BusState) (number : ℕ) (l : Link)
    (round at : ℕ) (sent flies : Bool) → s.stop ≡ None → TimedIn run s journal number l
    → length (sends l.source.0 journal) ≡ sent_rounds (node_at s l.source.0)
    → Missing run clocks journal s number l round at → nat_lt round (sent_rounds (node_at s l.source.0)) ≡ sent
    → is_in_flight round (flight_at s number) ≡ flies
    → CauseFits run clocks s l.source.0 (due_of (delay_of run.delays number) (sends l.source.0 journal) round) at
    (if sent then (if flies then InTransit else Lost) else NotSent)
cause_by run clocks journal s number l round at false flies going timed size missing is_sent flying =
    let few = ltb-false round (sent_rounds (node_at s l.source.0)) is_sent in (
      ap (option_map (λ x. x + delay_of run.delays number round))
          (slice_get_past (sends l.source.0 journal) round (omega arith)),
      missing.never few,
    )
cause_by run clocks journal s number l round at true true going timed size missing is_sent flying =
    let copy = some_by_test (oldest round (flight_at s number)) flying in
    let one =
    oldest_is_one (IsDueCopy (delay_of run.delays number) (sends l.source.0 journal)) round (flight_at s number)
    copy.0 timed.flights copy.1 in
    let here : copy.0.round ≡ round = eqb-true copy.0.round round one.1 in
    let late =
    (oldest_is_one (λ c. is_due (Some at) c ≡ false) round (flight_at s number) copy.0 missing.none_due copy.1).0 in
    let sent' = ltb-true round (sent_rounds (node_at s l.source.0)) is_sent in
    let due = due_if_sent (delay_of run.delays number) (sends l.source.0 journal) round (omega arith) in (
      due.0,
      due.1,
      not_due copy.0.due at due.0 late
          (one.0.due ∙ ap (due_of (delay_of run.delays number) (sends l.source.0 journal)) here ∙ due.1),
    )
cause_by run clocks journal s number l round at true false going timed size missing is_sent flying =
    let sent' = ltb-true round (sent_rounds (node_at s l.source.0)) is_sent in
    let none = none_flying round (flight_at s number) (none_unless_some (oldest round (flight_at s number)) flying) in
    not_lost round (node_at s l.target.0).count (copies round (flight_at s number))
    (slot_at (node_at s l.target.0) l.in_port) _ (ap (early_on number) going) none missing.next missing.empty
    (timed.places round (omega arith))

-- ---- the wait of a start
never_by : (run : Run) (clocks : Clocks) (s : BusState) (node : ℕ) (number : ℕ) (l : Link) (round at : ℕ) → IsRunOf run
    → Agrees run s → slice_get run.design.links number ≡ Some l → l.target.0 ≡ node → (node_at s node).count ≡ round + 1
    → round < run.rounds
    → Shows run clocks s node (alarm run.design.period (round + 1)) at → IsAwaited run clocks s node
    → sent_rounds (node_at s l.source.0) ≤ round → NeverSent run clocks s l.source.0
never_by run Meet s node number l round at rules agree is to_node next more shows awaited few =
    let rule = at_element (IsLink run.design) run.design.links number l rules.design.links.each is in
    meeting_sent run s l.source.0 round at rules agree rule.source.node_is shows.1 shows.0 more few
never_by run (Lists clocks) s node number l round at rules agree is to_node next more shows awaited few =
    elim (awaited number l is to_node) [
      | inl enough ↦ absurd (omega arith)
      | inr ended ↦ ended
    ]

-- the stop itself changes nothing of it
never_still : (run : Run) (clocks : Clocks) (s : BusState) (why : Option Stop) (k : ℕ) → NeverSent run clocks s k
    → NeverSent run clocks (record s { stop = why }) k
never_still run Meet s why k never = never
never_still run (Lists clocks) s why k never = never

cause_still : (run : Run) (clocks : Clocks) (s : BusState) (why : Option Stop) (k : ℕ) (due : Option ℕ) (at : ℕ)
    (cause : Cause) → CauseFits run clocks s k due at cause
    → CauseFits run clocks (record s { stop = why }) k due at cause
cause_still run clocks s why k due at NotSent fits = (fits.0, never_still run clocks s why k fits.1)
cause_still run clocks s why k due at InTransit fits = fits
cause_still run clocks s why k due at Lost fits = fits

-- ---- a missed start
waits_more : (run : Run) (s : BusState) (j : ℕ) → Agrees run s → j < length run.design.components
    → is_waiting (node_at s j).phase ≡ true → (node_at s j).count < run.rounds
waits_more run s j agree within waits =
    (subst (PhaseAgrees run j (component_at run.design j) (node_at s j)) (is_waiting_phase (node_at s j).phase waits)
    (node_agrees run s j agree within).phase).1

missed_fits : (run : Run) (clocks : Clocks) (journal : List JournalEntry) (s : BusState) (node : NodeNo)
    (reading : Option ℕ) (link : ℕ) → IsRunOf run → Runs run clocks journal s → Begins run clocks s node reading
    → is_waiting (node_at s node.0).phase ≡ true → s.stop ≡ None
    → missing_link run s node.0 ≡ Some link
    → StopFits run clocks journal (record s { stop = Some (missed_stop run s node reading link) })
    (Some (missed_stop run s node reading link))
missed_fits run clocks journal s node reading link rules runs begins waits going misses =
    let agree = runs_agree run clocks journal s rules runs in
    let missed = missed_link run s node.0 link misses in
    let l = missed.the_link in
    let n = node_at s node.0 in
    let round = round_of n in
    let some = missed.begun in
    let does = begins.does in
    let at = does.at in
    let there : node_at s l.target.0 ≡ n = ap (node_at s) missed.to_node in
    let count : (node_at s l.target.0).count ≡ n.count = ap (λ (k : NodeState). k.count) there in
    let more = waits_more run s node.0 agree does.within waits in
    let next : n.count ≡ round + 1 = omega arith in
    let here : link_at run.design link ≡ l = get_or_from_slice_get run.design.links link l no_link missed.is_link in
    let is_missing : Missing run clocks journal s link l round at = record {
      is_link = missed.is_link;
      next = count ∙ next;
      more = omega arith;
      empty = ap (λ (k : NodeState). slot_at k l.in_port) there ∙ missed.empty;
      none_due =
          subst (λ o. All (λ copy. is_due o copy ≡ false) (flight_at s link)) does.reading_is
          (begins.taken link l missed.is_link missed.to_node);
      never =
          never_by run clocks s node.0 link l round at rules agree missed.is_link missed.to_node next (omega arith)
          (subst (λ c. Shows run clocks s node.0 (alarm run.design.period c) at) next does.shows) begins.awaited;
    } in
    let cause =
    cause_by run clocks journal s link l round at (nat_lt round (sent_rounds (node_at s l.source.0)))
    (is_in_flight round (flight_at s link)) going
    (links_timed run clocks journal s link l rules runs missed.is_link)
    (rounds_are_shown run clocks journal s l.source.0 rules runs).1 is_missing refl refl in (
      record {
        link = l;
        is_link = missed.is_link;
        at = at;
        reading_is = does.reading_is;
        begins = omega arith;
        shown =
            subst (λ c. IsFor clocks (alarm run.design.period c) at) (sym count)
            (shown_for run clocks s node.0 (alarm run.design.period n.count) at does.shows);
      },
      count ∙ next,
      cause_still run clocks s (Some (missed_stop run s node reading link)) l.source.0
          (due_of (delay_of run.delays link) (sends l.source.0 journal) round) at (cause_of run s link round)
          (subst (λ (k : Link). CauseFits run clocks s l.source.0
          (due_of (delay_of run.delays link) (sends l.source.0 journal) round) at
          (if nat_lt round (sent_rounds (node_at s k.source.0)) then
          (if is_in_flight round (flight_at s link) then InTransit else Lost) else NotSent)) (sym here) cause),
    )

-- ---- an early arrival
early_count : (n : NodeState) (port round : ℕ) → arrived n port round ≡ Early → n.count ≤ round
early_count n port round is = by (nat_le n.count round) (nat_eq (round + 1) n.count && is_none (slot_at n port)) refl is
  where
    by : (late kept : Bool) → nat_le n.count round ≡ late
        → (if late then Early else if kept then Kept else Ignored) ≡ Early → n.count ≤ round
    by true kept late is' = leb-true n.count round late
    by false true late is' = absurd (cc)
    by false false late is' = absurd (cc)

early_fits : (run : Run) (clocks : Clocks) (journal : List JournalEntry) (s : BusState) (link : LinkNo) (round : ℕ)
    (reading : Option ℕ) → IsRunOf run → Runs run clocks journal s → Takes run clocks s link round reading
    → arrival run s link round ≡ Early
    → StopFits run clocks journal (after_arrive run s link round reading) (Some (stop.Early link round reading))
early_fits run clocks journal s link round reading rules runs takes early =
    let agree = runs_agree run clocks journal s rules runs in
    let l = link_at run.design link.0 in
    let is : slice_get run.design.links link.0 ≡ Some l =
    slice_get-get_or run.design.links link.0 no_link takes.within in
    let n = node_at s l.target.0 in
    let does = takes.does in
    let at = does.at in
    let a = arrival run s link round in
    let tuple = arriving round (flight_at s link.0) in
    let count : (node_at (after_arrive run s link round reading) l.target.0).count ≡ n.count =
    keeps_at (λ (k : NodeState). k.count) s l.target.0 l.target.0 (received n l.in_port round tuple)
    (with_message_count n l.in_port tuple a) in
    let more = waits_more run s l.target.0 agree does.within takes.waits in
    let due' = subst (λ o. is_due o takes.copy ≡ true) does.reading_is takes.due in
    let tells =
    arriving_tells (delay_of run.delays link.0) (view run s journal link.0 l) round at takes.copy
    (links_timed run clocks journal s link.0 l rules runs is) (takes.is_copy, due') in
    let most = early_count n l.in_port round early in (
      record {
        link = l;
        is_link = is;
        at = at;
        reading_is = does.reading_is;
        begins = omega arith;
        shown =
            subst (λ c. IsFor clocks (alarm run.design.period c) at) (sym count)
            (shown_for run clocks s l.target.0 (alarm run.design.period n.count) at does.shows);
      },
      (omega arith),
      (tells.due, tells.due_is, tells.before),
    )

-- ---- more entries, and other clocks
told_fits : (run : Run) (clocks : Clocks) (journal told : List JournalEntry) (s : BusState) (why : Option Stop)
    → ((k : ℕ) → sends k told ≡ []) → StopFits run clocks journal s why → StopFits run clocks (journal ++ told) s why
told_fits run clocks journal told s None nothing fits = tt
told_fits run clocks journal told s (Some (stop.Missed link round reading cause)) nothing fits =
    let k = fits.0.link.source.0 in
    let same : sends k (journal ++ told) ≡ sends k journal = flat_map-append (send_in k) journal told
    ∙ ap (λ xs. sends k journal ++ xs) (nothing k) ∙ append-nil (sends k journal) in (
      fits.0,
      fits.1,
      subst (λ xs.
          CauseFits run clocks s k (due_of (delay_of run.delays link.0) xs round) fits.0.at cause) (sym same) fits.2,
    )
told_fits run clocks journal told s (Some (stop.Early link round reading)) nothing fits =
    let k = fits.0.link.source.0 in
    let same : sends k (journal ++ told) ≡ sends k journal = flat_map-append (send_in k) journal told
    ∙ ap (λ xs. sends k journal ++ xs) (nothing k) ∙ append-nil (sends k journal) in
    (fits.0, fits.1, (fits.2.0, ap (λ xs. due_of (delay_of run.delays link.0) xs round) same ∙ fits.2.1, fits.2.2))

pub ended_still : (run : Run) (before later : List ClockState) (s : BusState) (j k : ℕ)
    → length before ≡ length run.design.components → Picks run before s j later → HasEnded run before s k
    → HasEnded run later s k
ended_still run before later s j k many picks ended =
    let within = picks.within in
    let t = target (plan_of run.design j) picks.action in
    let new = standing_at (clock_at before j) (remaining_from (clock_at before j).left t) in
    let own = target (plan_of run.design k) ended.0 in
    let left : remaining_from (clock_at later k).left own ≡ [] =
    ap (λ cs. remaining_from (clock_at cs k).left own) picks.clocks_are
    ∙ elim (cases_eq k j) [
      | inl same ↦
          let action : picks.action ≡ ended.0 =
          same_Some _ _ (sym picks.next ∙ ap (λ i. upcoming (plan_of run.design i) (node_at s i)) (sym same)
          ∙ ended.1) in
          let targets_same : t ≡ own = ap₂ (λ i a. target (plan_of run.design i) a) (sym same) action in
          ap (λ (c : ClockState). remaining_from c.left own) (get_or-set_at before j k new no_clock same (omega arith))
          ∙ ap (λ x. remaining_from (remaining_from (clock_at before j).left x) own) targets_same
          ∙ reached_again (clock_at before j).left own
          ∙ ap (λ i. remaining_from (clock_at before i).left own) (sym same) ∙ ended.2
      | inr other ↦ ap (λ (c : ClockState). remaining_from c.left own)
          (get_or-set_other before j k new no_clock other) ∙ ended.2
    ] in
    (ended.0, ended.1, left)

picked_cause : (run : Run) (before later : List ClockState) (s : BusState) (k at : ℕ) (due : Option ℕ) (cause : Cause)
    → (HasEnded run before s k → HasEnded run later s k) → CauseFits run (Lists before) s k due at cause
    → CauseFits run (Lists later) s k due at cause
picked_cause run before later s k at due NotSent still fits = (fits.0, still fits.1)
picked_cause run before later s k at due InTransit still fits = fits
picked_cause run before later s k at due Lost still fits = fits

abbrev picked_at : (run : Run) (before later : List ClockState) (s : BusState) (number : ℕ) (reading : Option ℕ)
    → StopsAtStart run (Lists before) s number reading → StopsAtStart run (Lists later) s number reading
picked_at run before later s number reading x =
    record {
      link = x.link;
      is_link = x.is_link;
      at = x.at;
      reading_is = x.reading_is;
      begins = x.begins;
      shown = x.shown;
    }

picked_fits : (run : Run) (before later : List ClockState) (journal : List JournalEntry) (s : BusState)
    (why : Option Stop) → ((k : ℕ) → HasEnded run before s k → HasEnded run later s k)
    → StopFits run (Lists before) journal s why → StopFits run (Lists later) journal s why
picked_fits run before later journal s None still fits = tt
picked_fits run before later journal s (Some (stop.Missed link round reading cause)) still fits = (
  picked_at run before later s link.0 reading fits.0,
  fits.1,
  picked_cause run before later s fits.0.link.source.0 fits.0.at _ cause (still fits.0.link.source.0) fits.2,
)
picked_fits run before later journal s (Some (stop.Early link round reading)) still fits =
    (picked_at run before later s link.0 reading fits.0, fits.1, fits.2)

-- ---- each event
goes : (run : Run) (clocks : Clocks) (journal : List JournalEntry) (t : BusState) (why : Option Stop) → why ≡ None
    → StopFits run clocks journal t why
goes run clocks journal t why none = subst (StopFits run clocks journal t) (sym none) tt

start_stop : (run : Run) (clocks : Clocks) (journal : List JournalEntry) (s : BusState) (node : NodeNo)
    (reading m : Option ℕ) → IsRunOf run → Runs run clocks journal s → Begins run clocks s node reading
    → is_waiting (node_at s node.0).phase ≡ true → s.stop ≡ None → missing_link run s node.0 ≡ m
    → StopFits run clocks (journal ++ start_entry run s node reading m ∷ []) (after_start run s node reading m)
    (after_start run s node reading m).stop
start_stop run clocks journal s node reading None rules runs begins waits going misses =
    goes run clocks (journal ++ start_entry run s node reading None ∷ []) (after_start run s node reading None)
    s.stop going
start_stop run clocks journal s node reading (Some link) rules runs begins waits going misses =
    told_fits run clocks journal (start_entry run s node reading (Some link) ∷ [])
    (after_start run s node reading (Some link)) (Some (missed_stop run s node reading link)) (λ k. refl)
    (missed_fits run clocks journal s node reading link rules runs begins waits going misses)

arrive_stop : (run : Run) (clocks : Clocks) (journal : List JournalEntry) (s : BusState) (link : LinkNo) (round : ℕ)
    (reading : Option ℕ) (a : Arrived) → IsRunOf run → Runs run clocks journal s → Takes run clocks s link round reading
    → arrival run s link round ≡ a
    → StopFits run clocks (journal ++ entry.Arrive link round reading a ∷ stop_entry (early_stop link round reading a))
    (after_arrive run s link round reading) (early_stop link round reading a)
arrive_stop run clocks journal s link round reading Kept rules runs takes is = tt
arrive_stop run clocks journal s link round reading Ignored rules runs takes is = tt
arrive_stop run clocks journal s link round reading Early rules runs takes is =
    told_fits run clocks journal
    (entry.Arrive link round reading Early ∷ stop_entry (early_stop link round reading Early))
    (after_arrive run s link round reading) (Some (stop.Early link round reading)) (λ k. refl)
    (early_fits run clocks journal s link round reading rules runs takes is)

event_stop : (run : Run) (clocks : Clocks) (journal : List JournalEntry) (s : BusState) (e : BusEvent) → IsRunOf run
    → Runs run clocks journal s → KeepsTo run clocks s e → is_allowed run s e ≡ true → s.stop ≡ None
    → StopFits run clocks (journal ++ entries run s e) (after run s e) (after run s e).stop
event_stop run clocks journal s (Start node reading) rules runs keeps may going =
    start_stop run clocks journal s node reading (missing_link run s node.0) rules runs keeps may going refl
event_stop run clocks journal s (Step node reading) rules runs keeps may going =
    goes run clocks (journal ++ entries run s (Step node reading)) (after run s (Step node reading))
    (after run s (Step node reading)).stop
    (on_step_stop (next_step (node_at s node.0).phase) s (λ i. with_node s node.0 (stepped i (node_at s node.0)))
    (λ i. refl) ∙ going)
event_stop run clocks journal s (Finish node) rules runs keeps may going =
    goes run clocks (journal ++ entries run s (Finish node)) (after run s (Finish node))
    (after run s (Finish node)).stop
    (on_step_stop (running_step (node_at s node.0).phase) s
    (λ i. with_node s node.0 (finished (plan_of run.design node.0) run.rounds i (node_at s node.0)))
    (λ i. refl) ∙ going)
event_stop run clocks journal s (Send node reading) rules runs keeps may going =
    goes run clocks (journal ++ entries run s (Send node reading)) (after run s (Send node reading)) s.stop going
event_stop run clocks journal s (Arrive link round reading) rules runs keeps may going =
    arrive_stop run clocks journal s link round reading (arrival run s link round) rules runs keeps refl
event_stop run clocks journal s (Drop link round) rules runs keeps may going = absurd keeps
event_stop run clocks journal s (Repeat link round) rules runs keeps may going = absurd keeps

pub stops_fit : StopsFit
stops_fit run clocks journal s rules (opens clocks' begin) = tt
stops_fit run clocks journal s rules (picks_for {clocks = before} {later = after'} j runs picks) =
    picked_fits run before after' journal s s.stop
    (λ k. ended_still run before after' s j k (many_clocks run (Lists before) journal s runs) picks)
    (stops_fit run (Lists before) journal s rules runs)
stops_fit run clocks journal s rules (goes_on {journal = before} {s = t} e runs keeps step) =
    subst (λ u. StopFits run clocks (before ++ entries run t e) u u.stop) (sym step.state)
    (event_stop run clocks before t e rules runs keeps step.allowed step.going)
