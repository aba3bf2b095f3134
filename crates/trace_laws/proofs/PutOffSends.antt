-- A send: each link from the node has one more copy, of the next round, in the world and in the history.
use Rattle.std.proofs.Common.{◌≡◌, ◌≢◌, inl, inr, ℕ, ◌+◌, ◌-◌, ◌*◌, ◌<◌, ◌≤◌, Bool, true, false, List, [], ◌∷◌}
use Rattle.std.proofs.Common.{◌++◌, length, max, All, Option, Some, None, refl, sym, ap, ap₂, ◌∙◌, subst, arith}
use Rattle.std.specs.Prelude.{is_some, slice_index_or, if◌then◌else◌}
use Rattle.std.proofs.lemmas.Bool.{cases_eq, eq-eqb, ne_eqb, false≢true}
use Rattle.std.proofs.lemmas.Grind.{get_or-set_at}
use Rattle.std.proofs.lemmas.List.{length-append}
use Rattle.std.proofs.lemmas.List.Elements.{All-append, All-cons, All-nil}
use Rattle.std.proofs.Math.Seq.{get_or-append_seam}
use Rattle.pals_base.specs.declared.basic_types.NodeNo.{NodeNo}
use Rattle.pals_base.specs.declared.basic_types.PortValue.{PortValue}
use Rattle.pals_base.specs.declared.limits.TheConstants.{ROUNDS}
use Rattle.pals_base.specs.PeriodBoundAndReleases.{alarm, backoff}
use Rattle.pals_base.specs.UpwardNumbers.{upwards}
use Rattle.pals_model.specs.declared.design.Link.{Link}
use Rattle.pals_model.specs.declared.flight_copy.FlightCopy.{FlightCopy}
use Rattle.pals_model.specs.Delays.{delay_of}
use Rattle.pals_runs.specs.declared.phase.Phase.TheVariants.{Done}
use Rattle.pals_runs.specs.declared.journal.JournalEntry.{JournalEntry}
use Rattle.bus_machine.specs.AlarmsAndReleases.{release_reading}
use Rattle.bus_machine.specs.LinkEvents.{sent_copy}
use Rattle.bus_machine.specs.Nodes.{NodeState, round_of, sent_rounds, finished_steps}
use Rattle.bus_machine.specs.NodeEvents.{slot_at, may_send, message_from, sent_from}
use Rattle.bus_machine.specs.BusStates.{BusState, node_at, flight_at}
use Rattle.bus_machine.specs.MissedMessages.{rounds_sent_on}
use Rattle.bus_machine.specs.Plans.{plan_of, link_at}
use Rattle.bus_machine.specs.RunParameters.{Run}
use Rattle.bus_machine.specs.Machine.{Send, after_send, flight_after_send}
use Rattle.bus_machine.specs.Agreement.{SlotAgrees}
use Rattle.bus_machine.specs.proof.AgreementLaws.{IsRunOf}
use Rattle.bus_machine.proofs.ListsAndOldestCopies.{numbered_at}
use Rattle.bus_machine.proofs.NodeReplacement.{keeps_at}
use Rattle.bus_machine.proofs.StateChangeAgreement.{node_stays}
use Rattle.run_laws.specs.EntriesOfDesigns.{IsEntryIn}
use Rattle.run_laws.specs.HistoriesAndTraces.{History, goes_on}
use Rattle.run_laws.specs.Worlds.{World, reading_at, sendings, world_after}
use Rattle.run_laws.specs.proof.WorldInvariant.{KeepsTime, IsSentAt}
use Rattle.run_laws.proofs.FaultlessEventConditions.{FaultlessSend}
use Rattle.run_laws.proofs.LinkTiming.{unsent_round}
use Rattle.run_laws.proofs.WorldLinkTiming.{link_is}
use Rattle.run_laws.proofs.WorldNodeTiming.{fits_at, may_is}
use Rattle.trace_laws.specs.WorldTraces.{recorded, IsCarriedInTime}
use Rattle.trace_laws.specs.proof.PutOffArrivals.{emptied, flying, rounds_of, IsDueBetween, LinksArePutOff, IsPutOff}
use Rattle.trace_laws.proofs.CopyRounds.{started_are_sent, in_slot_is_sent, rounds_push, length_rounds, flying_push}
use Rattle.trace_laws.proofs.DueReadings.{due_between, alarm_after}
use Rattle.trace_laws.proofs.EmptiedNodes.{emptied_at, emptied_set}
use Rattle.trace_laws.proofs.JournalReadings.{one_more_at_most}
use Rattle.trace_laws.proofs.PutOffSteps.{count_in_range, reading_in_range}
use Rattle.pals_runs.specs.declared.events_and_faults.Event.TheVariants as event
use Rattle.pals_runs.specs.declared.journal.JournalEntry.TheVariants as entry

-- a message in a slot belongs to a round that its target has started
pub slot_counts : (run : Run) (number count : ℕ) (slot : Option (List PortValue)) → SlotAgrees run number count slot
    → is_some slot ≡ true → 1 ≤ count
slot_counts run number count None agrees full = absurd (false≢true full)
slot_counts run number count (Some tuple) agrees full = let last = agrees.1 in omega (arith, last)

module _ (run : Run) (w : World) (journal : List JournalEntry) (t : BusState) (rules : IsRunOf run)
    (few : run.rounds ≤ ROUNDS) (carried : IsCarriedInTime run) (keeps : KeepsTime run w)
    (put : IsPutOff run w journal t)
    (node : NodeNo) (fine : FaultlessSend run w node) (later : KeepsTime run (world_after run w (event.Send node)))
  where
    abbrev here : NodeState
    here = node_at w.bus node.0

    abbrev reading : ℕ
    reading = reading_at w node.0

    abbrev sent_bus : BusState
    sent_bus = after_send run w.bus node (Some reading)

    abbrev held_bus : BusState
    held_bus = after_send run t node (Some reading)

    abbrev copy_of : NodeState → ℕ → Link → FlightCopy
    copy_of n number link =
        sent_copy (round_of n) (Some reading) (delay_of run.delays number (round_of n))
        (message_from (plan_of run.design node.0) n link.out_port)

    at : node_at t node.0 ≡ emptied here
    at = emptied_at w.bus t node.0 put.nodes

    unsent : here.sent ≡ false
    unsent = (may_is (plan_of run.design node.0) here fine.may).unsent

    -- ---- rounds
    moments_after : sendings (world_after run w (event.Send node)) node.0 ≡ sendings w node.0 ++ w.time ∷ []
    moments_after =
        let size = keeps.moments.sent_at in let within = fine.within in
        get_or-set_at w.sent_at node.0 node.0 (sendings w node.0 ++ w.time ∷ []) [] refl (omega (arith, size, within))

    sent_before : sent_rounds here ≡ round_of here
    sent_before = unsent_round here unsent

    one_more : sent_rounds (node_at sent_bus node.0) ≡ sent_rounds here + 1
    one_more =
        let before = (keeps.sends node.0 fine.within).each in
        let after = (later.sends node.0 fine.within).each in
        let size : length (sendings (world_after run w (event.Send node)) node.0) ≡ length (sendings w node.0) + 1 =
        ap length moments_after ∙ length-append (sendings w node.0) (w.time ∷ []) in
        omega (arith, before, after, size)

    -- ---- flights
    flight_is : (s : BusState) (number : ℕ) → number < length run.design.links
        → flight_at (after_send run s node (Some reading)) number
        ≡ flight_after_send run s node (Some reading) number (link_at run.design number)
    flight_is s number within =
        numbered_at (λ (numbered : ℕ × Link). flight_after_send run s node (Some reading) numbered.0 numbered.1)
        run.design.links number (link_at run.design number) [] (link_is run number within)

    flight_more : (s : BusState) (number : ℕ) → number < length run.design.links
        → (link_at run.design number).source.0 ≡ node.0
        → flight_at (after_send run s node (Some reading)) number
        ≡ flight_at s number ++ copy_of (node_at s node.0) number (link_at run.design number) ∷ []
    flight_more s number within from =
        flight_is s number within
        ∙ ap (λ (b : Bool). if b then flight_at s number ++ copy_of (node_at s node.0) number (link_at run.design number)
        ∷ [] else flight_at s number) (eq-eqb (link_at run.design number).source.0 node.0 from)

    flight_same : (s : BusState) (number : ℕ) → number < length run.design.links
        → (link_at run.design number).source.0 ≢ node.0
        → flight_at (after_send run s node (Some reading)) number ≡ flight_at s number
    flight_same s number within from =
        flight_is s number within
        ∙ ap (λ (b : Bool). if b then flight_at s number ++ copy_of (node_at s node.0) number (link_at run.design number)
        ∷ [] else flight_at s number) (ne_eqb (link_at run.design number).source.0 node.0 from)

    -- ---- the new copy
    prompt : w.time < alarm run.design.period (round_of here) + run.design.gamma.eps
        + max (backoff run.design.gamma)
        (((plan_of run.design node.0).sent_steps - 1) * (plan_of run.design node.0).step_period +
        run.design.gamma.alpha_max)
    prompt =
        let g = run.design.gamma in
        let plan = plan_of run.design node.0 in
        let moments = sendings w node.0 in
        let v = world_after run w (event.Send node) in
        let each : length moments ≡ sent_rounds here = (keeps.sends node.0 fine.within).each in
        let round : length moments ≡ round_of here = each ∙ sent_before in
        let size : length (sendings v node.0) ≡ length moments + 1 = ap length moments_after
        ∙ length-append moments (w.time ∷ []) in
        let moment = (later.sends node.0 fine.within).sent (length moments) (omega (arith, size)) in
        let time : slice_index_or (sendings v node.0) (length moments) 0 ≡ w.time =
        ap (λ ms. slice_index_or ms (length moments) 0) moments_after ∙ get_or-append_seam moments w.time [] 0 in
        let found : IsSentAt g plan (length moments) v.time w.time =
        subst (λ m. IsSentAt g plan (length moments) v.time m) time moment in
        subst (λ r. w.time < alarm plan.period r + g.eps + max (backoff g)
        ((plan.sent_steps - 1) * plan.step_period + g.alpha_max))
        round found.prompt

    new_is_due : (number : ℕ) → number < length run.design.links
        → IsDueBetween run (copy_of here number (link_at run.design number))
    new_is_due number within =
        let plan = plan_of run.design node.0 in
        let delay = delay_of run.delays number (round_of here) in
        let some = carried number (round_of here) within in
        let clock = keeps.clocks node.0 fine.within in
        let both =
        due_between run.design.gamma.eps run.design.gamma.alpha_max run.design.gamma.mu_min run.design.gamma.mu_max
        run.design.period plan.rate plan.step_period plan.sent_steps plan.release_offset
        (fits_at run node.0 rules fine.within) (alarm run.design.period (round_of here)) w.time reading delay
        fine.due clock.fast prompt some.0 some.1 in
        let next = alarm_after run.design.period (round_of here) in
        let late = both.0 in
        let soon = both.1 in
        record { due = reading + delay; due_is = refl; late = late; early = omega (arith, soon, next) }

    -- ---- links
    -- if a message is in the slot, its copy is in flight in the history
    some_fly : (number : ℕ) → number < length run.design.links
        → is_some (slot_at (node_at w.bus (link_at run.design number).target.0) (link_at run.design number).in_port)
        ≡ true
        → 1 ≤ length (flight_at t number)
    some_fly number within full =
        let link : Link = link_at run.design number in
        let n : NodeState = node_at w.bus link.target.0 in
        let sent : ℕ = rounds_sent_on run w.bus number in
        let size = length_rounds (flight_at t number) (n.count - 1) (sent - (n.count - 1))
        (put.links number within).rounds in
        let some = slot_counts run number n.count (slot_at n link.in_port)
        (keeps.agrees.links number link (link_is run number within)).slot full in
        let is_sent = in_slot_is_sent n.count (slot_at n link.in_port) sent (flight_at w.bus number)
        (keeps.links number within).once full some in
        omega (arith, size, some, is_sent)

    links_sent : LinksArePutOff run sent_bus held_bus
    links_sent number within =
        let link : Link = link_at run.design number in
        let source : ℕ = link.source.0 in
        let target : ℕ = link.target.0 in
        let port : ℕ = link.in_port in
        let before = put.links number within in
        let count : (node_at sent_bus target).count ≡ (node_at w.bus target).count =
        keeps_at (λ (n : NodeState). n.count) w.bus node.0 target (sent_from run.rounds here) refl in
        let slot : slot_at (node_at sent_bus target) port ≡ slot_at (node_at w.bus target) port =
        keeps_at (λ (n : NodeState). slot_at n port) w.bus node.0 target (sent_from run.rounds here) refl in
        let once = (keeps.links number within).once in
        let first : ℕ = (node_at w.bus target).count - 1 in
        let sent : ℕ = sent_rounds (node_at w.bus source) in
        elim (cases_eq source node.0) [
          | inl from ↦
              let one : sent_rounds (node_at sent_bus source) ≡ sent + 1 =
              subst (λ k. sent_rounds (node_at sent_bus k) ≡ sent_rounds (node_at w.bus k) + 1) (sym from) one_more in
              let copy : FlightCopy = copy_of here number link in
              let of_round : copy.round ≡ sent = sym sent_before ∙ ap (λ k. sent_rounds (node_at w.bus k)) (sym from) in
              let flies : flight_at held_bus number ≡ flight_at t number ++ copy ∷ [] =
              flight_more t number within from
              ∙ ap (λ (n : NodeState). flight_at t number ++ copy_of n number link ∷ []) at in
              let flew : flight_at sent_bus number ≡ flight_at w.bus number ++ copy ∷ [] =
              flight_more w.bus number within from in
              let from_first : first ≤ sent =
              started_are_sent (node_at w.bus target).count (slot_at (node_at w.bus target) port) sent
              (flight_at w.bus number) once in
              record {
                rounds = ap rounds_of flies
                    ∙ rounds_push (flight_at t number) copy first sent from_first before.rounds of_round
                    ∙ ap₂ (λ c s. upwards (c - 1) (s - (c - 1))) (sym count) (sym one);
                flight = flew ∙ ap (λ f. f ++ copy ∷ []) before.flight
                    ∙ sym (flying_push (slot_at (node_at w.bus target) port) (flight_at t number) copy
                    (some_fly number within))
                    ∙ ap₂ flying (sym slot) (sym flies);
                due =
                    subst (All (IsDueBetween run)) (sym flies)
                    (All-append (IsDueBetween run) (flight_at t number) (copy ∷ []) before.due
                    (All-cons (IsDueBetween run) copy [] (new_is_due number within) (All-nil (IsDueBetween run))));
              }
          | inr other ↦
              let same : sent_rounds (node_at sent_bus source) ≡ sent =
              ap sent_rounds (node_stays w.bus node.0 source (sent_from run.rounds here) other) in
              let flies : flight_at held_bus number ≡ flight_at t number = flight_same t number within other in
              let flew : flight_at sent_bus number ≡ flight_at w.bus number = flight_same w.bus number within other in
              record {
                rounds = ap rounds_of flies ∙ before.rounds
                    ∙ ap₂ (λ c s. upwards (c - 1) (s - (c - 1))) (sym count) (sym same);
                flight = flew ∙ before.flight ∙ ap₂ flying (sym slot) (sym flies);
                due = subst (All (IsDueBetween run)) (sym flies) before.due;
              }
        ]

    -- ---- the whole
    busy : here.phase ≢ Done
    busy done =
        let may = may_is (plan_of run.design node.0) here fine.may in
        absurd (let none : None ≡ Some may.steps =
        sym (ap (finished_steps (plan_of run.design node.0).rate) done) ∙ may.finished in cc)

    pub send_put_off : (u : BusState)
        × IsPutOff run (world_after run w (event.Send node)) (journal ++ recorded run w (event.Send node)) u
    send_put_off =
        let plan = plan_of run.design node.0 in
        let x : JournalEntry = entry.Send node (round_of here) (Some reading) in
        let count = count_in_range run w rules few keeps node.0 fine.within in (
          held_bus,
          record {
            history =
                subst (λ (n : NodeState). History run (journal ++ entry.Send node (round_of n) (Some reading) ∷ [])
                held_bus) at
                (goes_on (Send node (Some reading)) put.history
                (record {
                  going = put.going;
                  allowed = ap (may_send plan) at ∙ fine.may;
                  state = refl;
                })
                (record {
                  at = reading;
                  reading_is = refl;
                  rises = put.read node.0 fine.within;
                  from_then = subst (λ (n : NodeState). release_reading plan n ≤ reading) (sym at) fine.due;
                }));
            of_design = All-append (IsEntryIn run.design) journal (x ∷ []) put.of_design
                (All-cons (IsEntryIn run.design) x [] (
                  fine.within,
                  (let fewer : here.count - 1 ≤ ROUNDS = omega (arith, count) in fewer),
                  reading_in_range run w rules few keeps node.0 fine.within busy,
                ) (All-nil (IsEntryIn run.design)));
            going = put.going;
            nodes =
                emptied_set w.bus t node.0 (sent_from run.rounds (node_at t node.0)) (sent_from run.rounds here) put.nodes
                (ap (sent_from run.rounds) at);
            links = links_sent;
            read = λ k within. one_more_at_most run.design (reading_at w) journal x k (put.read k within) refl;
          },
        )
