-- A send without a fault maintains the timing invariant of a world: its messages enter flight no later than the bounds
-- allow.
use Rattle.std.proofs.Common.{◌≡◌, ◌≢◌, inl, inr, ℕ, suc, ◌+◌, ◌-◌, ◌<◌, ◌≤◌, nat_eq, Bool, true, false, List, [], ◌∷◌}
use Rattle.std.proofs.Common.{◌++◌, length, Option, Some, refl, sym, ap, ◌∙◌, subst, arith, length-append}
use Rattle.std.specs.Prelude.{max, nat_lt, if◌then◌else◌, slice_index_or, slice_set}
use Rattle.std.proofs.lemmas.Bool.{eqb-true, eq-eqb, ne_eqb, lt-ltb, le-ltb, cases_eq, cases_lt, cases_order}
use Rattle.std.proofs.lemmas.Bool.{false≢true}
use Rattle.std.proofs.lemmas.Grind.{get_or-set_at}
use Rattle.std.proofs.lemmas.List.{length-set, get_or-set_other, get_or_append_left}
use Rattle.std.proofs.Math.Seq.{get_or-append_seam}
use Rattle.std.proofs.lemmas.Option.{none-some}
use Rattle.pals_base.specs.declared.basic_types.NodeNo.{NodeNo}
use Rattle.pals_base.specs.declared.basic_types.PortValue.{PortValue}
use Rattle.pals_base.specs.PeriodBoundAndReleases.{alarm}
use Rattle.pals_model.specs.declared.design.Link.{Link}
use Rattle.pals_model.specs.declared.flight_copy.FlightCopy.{FlightCopy}
use Rattle.pals_model.specs.Delays.{delay_of}
use Rattle.pals_model.specs.Flights.{is_of}
use Rattle.pals_runs.specs.declared.events_and_faults.Event.TheVariants as event
use Rattle.pals_runs.specs.declared.phase.Phase.{Phase}
use Rattle.pals_runs.specs.declared.phase.Phase.TheVariants.{Waiting, Running, Between, Holding, Done}
use Rattle.bus_machine.specs.declared.plan.Plan.{Plan}
use Rattle.bus_machine.specs.Plans.{plan_of, component_at, link_at}
use Rattle.bus_machine.specs.Nodes.{NodeState, round_of, finished_steps, at_rest, sent_rounds}
use Rattle.bus_machine.specs.NodeEvents.{may_send, sent_from, after_send, message_from, slot_at}
use Rattle.bus_machine.specs.LinkEvents.{is_in_flight, sent_copy}
use Rattle.bus_machine.specs.AlarmsAndReleases.{start_alarm, step_alarm, release_reading}
use Rattle.bus_machine.specs.BusStates.{BusState, node_at, flight_at}
use Rattle.bus_machine.specs.RunParameters.{Run}
use Rattle.bus_machine.specs.Machine.{flight_after_send}
use Rattle.bus_machine.specs.Machine as machine
use Rattle.bus_machine.specs.proof.AgreementLaws.{IsRunOf}
use Rattle.run_laws.specs.Deadlines.{last_before, lesser}
use Rattle.run_laws.specs.Worlds.{World, reading_at, since_at, ready_at, sendings, moved, is_held, world_after}
use Rattle.bus_machine.proofs.ListsAndOldestCopies.{numbered_at}
use Rattle.bus_machine.proofs.NodeEventLocalAgreement.{MaySend, may_send_of}
use Rattle.bus_machine.proofs.StateChangeAgreement.{node_set, node_stays}
use Rattle.bus_machine.proofs.NodeEventBusAgreement.{send_keeps}
use Rattle.bus_machine.proofs.NodeReplacement.{keeps_at}
use Rattle.run_laws.specs.proof.WorldInvariant.{KeepsDeadline, RunsSince, IsSentAt, IsOnce, copies, waits, taken}
use Rattle.run_laws.specs.proof.WorldInvariant.{one_if}
use Rattle.run_laws.specs.proof.WorldInvariant.{KeepsLink, KeepsTime}
use Rattle.run_laws.proofs.TimeArithmetic.{sent_prompt}
use Rattle.run_laws.proofs.Lists.{count_more}
use Rattle.run_laws.proofs.WorldNodeTiming.{fits_at, MayBe, may_is, Stands, stands_at, left_in_time, both_in_time}
use Rattle.run_laws.proofs.WorldNodeTiming.{send_in_time, phase_last, send_last, late}
use Rattle.run_laws.proofs.WorldLinkTiming.{link_is, one_of_true, one_of_false, in_flight_counts, counts_in_flight}
use Rattle.run_laws.proofs.WorldLinkTiming.{under_way, one_true}
use Rattle.run_laws.proofs.LocalWorldChanges.{changed, stands_put, keeps_again, moved_here, moved_length, moved_other}
use Rattle.run_laws.proofs.FaultlessEventConditions.{FaultlessSend}
use Rattle.run_laws.proofs.NodePicksAndRunReplay.{component_is}

-- ---- a round of a link from the node
-- the message of the first unsent round enters flight
send_once : (count : ℕ) (slot : Option (List PortValue)) (sent : ℕ) (flight : List FlightCopy) (r : ℕ)
    (copy : FlightCopy) → copy.round ≡ sent
    → IsOnce count slot sent flight r → IsOnce count slot (suc sent) (flight ++ copy ∷ []) r
send_once count slot sent flight r copy is once =
    let before : copies r flight + one_if (waits count slot r) + one_if (taken count r) ≡ one_if (nat_lt r sent) =
    once in
    let more : copies r (flight ++ copy ∷ []) ≡ copies r flight + one_if (is_of r copy) =
    count_more (is_of r) flight copy in
    elim (cases_order r sent) [
      | inl same ↦
          let this : one_if (is_of r copy) ≡ 1 = one_of_true (is_of r copy) (eq-eqb copy.round r (is ∙ sym same)) in
          let not_yet : one_if (nat_lt r sent) ≡ 0 = one_of_false (nat_lt r sent) (le-ltb r sent (omega arith)) in
          let now : one_if (nat_lt r (suc sent)) ≡ 1 =
          one_of_true (nat_lt r (suc sent)) (lt-ltb r (suc sent) (omega arith)) in
          let after : copies r (flight ++ copy ∷ []) + one_if (waits count slot r) + one_if (taken count r)
          ≡ one_if (nat_lt r (suc sent)) = omega arith in
          after
      | inr apart ↦
          let this : one_if (is_of r copy) ≡ 0 =
          one_of_false (is_of r copy)
          (ne_eqb copy.round r (λ e. elim apart [ inl less ↦ omega arith | inr above ↦ omega arith ])) in
          elim apart [
            | inl less ↦
                let already : one_if (nat_lt r sent) ≡ 1 = one_of_true (nat_lt r sent) (lt-ltb r sent less) in
                let still : one_if (nat_lt r (suc sent)) ≡ 1 =
                one_of_true (nat_lt r (suc sent)) (lt-ltb r (suc sent) (omega arith)) in
                let after : copies r (flight ++ copy ∷ []) + one_if (waits count slot r) + one_if (taken count r)
                ≡ one_if (nat_lt r (suc sent)) = omega arith in
                after
            | inr above ↦
                let not_yet : one_if (nat_lt r sent) ≡ 0 = one_of_false (nat_lt r sent) (le-ltb r sent (omega arith)) in
                let nor_now : one_if (nat_lt r (suc sent)) ≡ 0 =
                one_of_false (nat_lt r (suc sent)) (le-ltb r (suc sent) (omega arith)) in
                let after : copies r (flight ++ copy ∷ []) + one_if (waits count slot r) + one_if (taken count r)
                ≡ one_if (nat_lt r (suc sent)) = omega arith in
                after
          ]
    ]

-- ---- the node's phase
rest_finished : (rate : ℕ) (all : Bool) (k : ℕ) → finished_steps rate (at_rest all) ≡ Some k → ⊥
rest_finished rate true k is = none-some k is
rest_finished rate false k is = none-some k is

finished_before : (rate count rounds : ℕ) (p : Phase) (k : ℕ) → finished_steps rate (after_send count rounds p) ≡ Some k
    → finished_steps rate p ≡ Some k
finished_before rate count rounds Waiting k is = is
finished_before rate count rounds (Running step) k is = is
finished_before rate count rounds (Between steps) k is = is
finished_before rate count rounds Holding k is = absurd (rest_finished rate (nat_eq count rounds) k is)
finished_before rate count rounds Done k is = is

rest_runs : (all : Bool) (step : ℕ) → at_rest all ≡ Running step → ⊥
rest_runs true step is = let both : Done ≡ Running step = is in cc
rest_runs false step is = let both : Waiting ≡ Running step = is in cc

pub runs_before : (count rounds : ℕ) (p : Phase) (step : ℕ) → after_send count rounds p ≡ Running step
    → p ≡ Running step
runs_before count rounds Waiting step is = is
runs_before count rounds (Running k) step is = is
runs_before count rounds (Between k) step is = is
runs_before count rounds Holding step is = absurd (rest_runs (nat_eq count rounds) step is)
runs_before count rounds Done step is = is

module _ (run : Run) (w : World) (rules : IsRunOf run) (keeps : KeepsTime run w) (node : NodeNo)
    (fine : FaultlessSend run w node) where
  abbrev pub here : NodeState
  here = node_at w.bus node.0

  abbrev pub the_plan : Plan
  the_plan = plan_of run.design node.0

  abbrev pub after : NodeState
  after = sent_from run.rounds here

  abbrev pub since_after : ℕ
  since_after = if is_held here.phase then w.time else since_at w node.0

  abbrev pub moments : List ℕ
  moments = sendings w node.0

  pub in_bus : node.0 < length w.bus.nodes
  in_bus = let count = keeps.agrees.node_count in let within = fine.within in omega arith

  may : MayBe the_plan here
  may = may_is the_plan here fine.may

  pub begun : (round : ℕ) × (here.count ≡ suc round)
  begun =
      let is_c = component_is run node.0 fine.within in
      let m : MaySend run node.0 (component_at run.design node.0) here =
      may_send_of run node.0 (component_at run.design node.0) here
      (keeps.agrees.nodes node.0 (component_at run.design node.0) is_c) fine.may in
      (m.under_way.round, m.under_way.count)

  pub sent_before : sent_rounds here ≡ round_of here
  sent_before = ap (λ (b : Bool). if b then here.count else round_of here) may.unsent

  pub many : length moments ≡ round_of here
  many = (keeps.sends node.0 fine.within).each ∙ sent_before

  busy : (p : Phase) → here.phase ≡ p → finished_steps the_plan.rate p ≡ Some may.steps
  busy p is = ap (finished_steps the_plan.rate) (sym is) ∙ may.finished

  abbrev last_times : Phase → Option ℕ
  last_times p =
      lesser (phase_last run.design.gamma the_plan here (since_at w node.0) p)
      (send_last run.design.gamma the_plan here (ready_at w node.0))

  last_at : (p : Phase) → here.phase ≡ p → KeepsDeadline w.time (last_times p)
  last_at p is = subst (λ q. KeepsDeadline w.time (last_times q)) is (stands_at run w node.0 keeps fine.within).in_time

  rest_in_time : (all : Bool) → w.time < start_alarm the_plan here + run.design.gamma.eps
      → KeepsDeadline w.time (phase_last run.design.gamma the_plan after w.time (at_rest all))
  rest_in_time true before = tt
  rest_in_time false before = let in_time : w.time ≤ last_before (start_alarm the_plan after) run.design.gamma.eps =
      omega arith in in_time

  phase_in_time : (p : Phase) → here.phase ≡ p
      → KeepsDeadline w.time (phase_last run.design.gamma the_plan after
      (if is_held p then w.time else since_at w node.0)
      (after_send here.count run.rounds p))
  phase_in_time Waiting is = absurd (none-some may.steps (busy Waiting is))
  phase_in_time (Running step) is =
      left_in_time w.time (since_at w node.0 + run.design.gamma.alpha_max)
      (send_last run.design.gamma the_plan here (ready_at w node.0)) (last_at (Running step) is)
  phase_in_time (Between steps) is =
      left_in_time w.time (last_before (step_alarm the_plan here steps) run.design.gamma.eps)
      (send_last run.design.gamma the_plan here (ready_at w node.0)) (last_at (Between steps) is)
  phase_in_time Holding is =
      rest_in_time (nat_eq here.count run.rounds)
      (late run w rules keeps node.0 fine.within (λ done. let both : Holding ≡ Done = sym is ∙ done in cc))
  phase_in_time Done is = absurd (none-some may.steps (busy Done is))

  -- ---- the moment of the send
  sent_now : IsSentAt run.design.gamma the_plan (round_of here) w.time w.time
  sent_now =
      let g = run.design.gamma in
      let fit = fits_at run node.0 rules fine.within in
      let before = stands_at run w node.0 keeps fine.within in
      let clock = before.clock in
      let due = fine.due in
      let ready = before.keeps.unsent fine.may in
      let last : w.time ≤ max (ready_at w node.0) (release_reading the_plan here + g.eps - 1) =
      send_in_time w.time (max (ready_at w node.0) (last_before (release_reading the_plan here) g.eps))
      (phase_last g the_plan here (since_at w node.0) here.phase) (may_send the_plan here) fine.may
      before.in_time in
      record {
        due = omega arith;
        prompt = sent_prompt fit (alarm run.design.period (round_of here)) w.time (ready_at w node.0) ready.prompt last;
        past = omega arith;
      }

  moment_at : (round : ℕ) → round < length (moments ++ w.time ∷ [])
      → IsSentAt run.design.gamma the_plan round w.time (slice_index_or (moments ++ w.time ∷ []) round 0)
  moment_at round within =
      let size = length-append moments (w.time ∷ []) in
      elim (cases_lt round (length moments)) [
        | inl before ↦
            subst (λ k. IsSentAt run.design.gamma the_plan round w.time k)
            (sym (get_or_append_left moments (w.time ∷ []) 0 round before))
            ((keeps.sends node.0 fine.within).sent round before)
        | inr last ↦
            let this : round ≡ length moments = omega arith in
            let at : slice_index_or (moments ++ w.time ∷ []) round 0 ≡ w.time =
            ap (λ k. slice_index_or (moments ++ w.time ∷ []) k 0) this ∙ get_or-append_seam moments w.time [] 0 in
            subst (λ k. IsSentAt run.design.gamma the_plan round w.time k) (sym at)
            (subst (λ k. IsSentAt run.design.gamma the_plan k w.time w.time) (sym (this ∙ many)) sent_now)
      ]

  after_stands : Stands run.design.gamma the_plan after (reading_at w node.0) w.time since_after (ready_at w node.0)
      (moments ++ w.time ∷ [])
  after_stands =
      let g = run.design.gamma in
      let before = stands_at run w node.0 keeps fine.within in
      record {
        clock = before.clock;
        in_time =
            both_in_time w.time (phase_last g the_plan after since_after after.phase)
            (send_last g the_plan after (ready_at w node.0)) (phase_in_time here.phase refl) tt;
        keeps = record {
          started = before.keeps.started;
          finished =
              λ step is. before.keeps.finished step
              (finished_before the_plan.rate here.count run.rounds here.phase (suc step) is);
          running = λ step is.
              let runs : here.phase ≡ Running step = runs_before here.count run.rounds here.phase step is in
              let stays : since_after ≡ since_at w node.0 =
              ap (λ p. if is_held p then w.time else since_at w node.0) runs in
              subst (λ k. RunsSince g (step_alarm the_plan after step) w.time k) (sym stays)
              (before.keeps.running step runs);
          unsent = λ again. absurd (false≢true again);
        };
        sends = record {
          each =
              (let size = length-append moments (w.time ∷ []) in let count = begun.1 in let number = many in
              omega arith);
          sent = moment_at;
        };
      }

  -- ---- the bus
  abbrev pub reading : Option ℕ
  reading = Some (reading_at w node.0)

  abbrev pub bus_sent : BusState
  bus_sent = machine.after_send run w.bus node reading

  abbrev pub sent_at_after : List (List ℕ)
  sent_at_after = slice_set w.sent_at node.0 (moments ++ w.time ∷ [])

  abbrev pub world_sent : World
  world_sent = changed w bus_sent (moved (is_held here.phase) w.since node.0 w.time) w.ready sent_at_after

  abbrev pub new_copy : ℕ → Link → FlightCopy
  new_copy number link =
      sent_copy (round_of here) reading (delay_of run.delays number (round_of here))
      (message_from the_plan here link.out_port)

  flight_is : (number : ℕ) → number < length run.design.links
      → flight_at bus_sent number ≡ flight_after_send run w.bus node reading number (link_at run.design number)
  flight_is number within =
      numbered_at (λ (numbered : ℕ × Link). flight_after_send run w.bus node reading numbered.0 numbered.1)
      run.design.links number (link_at run.design number) [] (link_is run number within)

  pub flight_here : (number : ℕ) → number < length run.design.links → (link_at run.design number).source.0 ≡ node.0
      → flight_at bus_sent number ≡ flight_at w.bus number ++ new_copy number (link_at run.design number) ∷ []
  flight_here number within from =
      flight_is number within
      ∙ ap (λ (b : Bool). if b then flight_at w.bus number ++ new_copy number (link_at run.design number)
      ∷ [] else flight_at w.bus number)
      (eq-eqb (link_at run.design number).source.0 node.0 from)

  pub flight_there : (number : ℕ) → number < length run.design.links → (link_at run.design number).source.0 ≢ node.0
      → flight_at bus_sent number ≡ flight_at w.bus number
  flight_there number within from =
      flight_is number within
      ∙ ap (λ (b : Bool). if b then flight_at w.bus number ++ new_copy number (link_at run.design number)
      ∷ [] else flight_at w.bus number)
      (ne_eqb (link_at run.design number).source.0 node.0 from)

  count_stays : (k : ℕ) → (node_at bus_sent k).count ≡ (node_at w.bus k).count
  count_stays k = keeps_at (λ (n : NodeState). n.count) w.bus node.0 k after refl

  slots_stay : (k port : ℕ) → slot_at (node_at bus_sent k) port ≡ slot_at (node_at w.bus k) port
  slots_stay k port = keeps_at (λ (n : NodeState). slot_at n port) w.bus node.0 k after refl

  pub long_sent : node.0 < length w.sent_at
  long_sent = let size = keeps.moments.sent_at in let within = fine.within in omega arith

  pub moments_after : slice_index_or sent_at_after node.0 [] ≡ moments ++ w.time ∷ []
  moments_after = get_or-set_at w.sent_at node.0 node.0 (moments ++ w.time ∷ []) [] refl long_sent

  -- a copy in flight after the send was in flight before, or is the new one
  in_time_here : (number r : ℕ) → number < length run.design.links → (link_at run.design number).source.0 ≡ node.0
      → is_in_flight r (flight_at bus_sent number) ≡ true
      → w.time ≤ slice_index_or (moments ++ w.time ∷ []) r 0 + run.design.gamma.mu_max
  in_time_here number r within from flies =
      let link = link_at run.design number in
      let flight = flight_at w.bus number in
      let target = node_at w.bus link.target.0 in
      let some : 1 ≤ copies r (flight ++ new_copy number link ∷ []) =
      in_flight_counts r (flight ++ new_copy number link ∷ [])
      (subst (λ f. is_in_flight r f ≡ true) (flight_here number within from) flies) in
      let more : copies r (flight ++ new_copy number link ∷ [])
      ≡ copies r flight + one_if (is_of r (new_copy number link)) =
      count_more (is_of r) flight (new_copy number link) in
      elim (cases_lt 0 (copies r flight)) [
        | inl old ↦
            let u =
            under_way target.count (slot_at target link.in_port) (sent_rounds (node_at w.bus link.source.0)) flight
            r ((keeps.links number within).once r) old in
            let sent : sent_rounds (node_at w.bus link.source.0) ≡ length moments =
            ap (λ k. sent_rounds (node_at w.bus k)) from ∙ sent_before ∙ sym many in
            let is_sent = u.is_sent in
            let at : slice_index_or (moments ++ w.time ∷ []) r 0 ≡ slice_index_or moments r 0 =
            get_or_append_left moments (w.time ∷ []) 0 r (omega arith) in
            let before : w.time ≤ slice_index_or (sendings w link.source.0) r 0 + run.design.gamma.mu_max =
            (keeps.links number within).in_time r (counts_in_flight r flight old) in
            let same : slice_index_or (sendings w link.source.0) r 0 ≡ slice_index_or moments r 0 =
            ap (λ k. slice_index_or (sendings w k) r 0) from in
            omega arith
        | inr none ↦
            let this : is_of r (new_copy number link) ≡ true =
            one_true (is_of r (new_copy number link)) (omega arith) in
            let is : round_of here ≡ r = eqb-true (round_of here) r this in
            let here_at : r ≡ length moments = sym is ∙ sym many in
            let at : slice_index_or (moments ++ w.time ∷ []) r 0 ≡ w.time =
            ap (λ k. slice_index_or (moments ++ w.time ∷ []) k 0) here_at
            ∙ get_or-append_seam moments w.time [] 0 in
            omega arith
      ]

  link_from : (number : ℕ) → number < length run.design.links → (link_at run.design number).source.0 ≡ node.0
      → KeepsLink run world_sent number (link_at run.design number).target.0 (link_at run.design number).in_port
  link_from number within from =
      let link = link_at run.design number in
      let flight = flight_at w.bus number in
      let n = node_at w.bus link.target.0 in
      let m = node_at bus_sent link.target.0 in
      let before = keeps.links number within in
      let was : sent_rounds (node_at w.bus link.source.0) ≡ round_of here = ap (λ k. sent_rounds (node_at w.bus k)) from
      ∙ sent_before in
      let all : here.count ≡ suc (round_of here) = let count = begun.1 in omega arith in
      let now : sent_rounds (node_at bus_sent link.source.0) ≡ suc (round_of here) =
      ap (λ k. sent_rounds (node_at bus_sent k)) from
      ∙ ap (λ (x : NodeState). sent_rounds x) (node_set w.bus node.0 after in_bus) ∙ all in
      record {
        once = λ r.
            let zero_ : IsOnce n.count (slot_at n link.in_port) (round_of here) flight r =
            subst (λ k. IsOnce n.count (slot_at n link.in_port) k flight r) was (before.once r) in
            let one : IsOnce n.count (slot_at n link.in_port) (suc (round_of here))
            (flight ++ new_copy number link ∷ []) r =
            send_once n.count (slot_at n link.in_port) (round_of here) flight r (new_copy number link) refl zero_ in
            let two : IsOnce m.count (slot_at n link.in_port) (suc (round_of here))
            (flight ++ new_copy number link ∷ []) r =
            subst (λ k. IsOnce k (slot_at n link.in_port) (suc (round_of here)) (flight ++ new_copy number link ∷ []) r)
            (sym (count_stays link.target.0)) one in
            let three : IsOnce m.count (slot_at m link.in_port) (suc (round_of here))
            (flight ++ new_copy number link ∷ []) r =
            subst (λ o. IsOnce m.count o (suc (round_of here)) (flight ++ new_copy number link ∷ []) r)
            (sym (slots_stay link.target.0 link.in_port)) two in
            let four : IsOnce m.count (slot_at m link.in_port) (sent_rounds (node_at bus_sent link.source.0))
            (flight ++ new_copy number link ∷ []) r =
            subst (λ k. IsOnce m.count (slot_at m link.in_port) k (flight ++ new_copy number link ∷ []) r)
            (sym now) three in
            subst (λ f. IsOnce m.count (slot_at m link.in_port) (sent_rounds (node_at bus_sent link.source.0)) f r)
            (sym (flight_here number within from)) four;
        in_time = λ r flies.
            subst (λ l. w.time ≤ slice_index_or l r 0 + run.design.gamma.mu_max)
            (sym (ap (λ k. slice_index_or sent_at_after k []) from ∙ moments_after))
            (in_time_here number r within from flies);
      }

  link_elsewhere : (number : ℕ) → number < length run.design.links → (link_at run.design number).source.0 ≢ node.0
      → KeepsLink run world_sent number (link_at run.design number).target.0 (link_at run.design number).in_port
  link_elsewhere number within from =
      let link = link_at run.design number in
      let flight = flight_at w.bus number in
      let n = node_at w.bus link.target.0 in
      let m = node_at bus_sent link.target.0 in
      let before = keeps.links number within in
      let now : sent_rounds (node_at bus_sent link.source.0) ≡ sent_rounds (node_at w.bus link.source.0) =
      ap (λ (x : NodeState). sent_rounds x) (node_stays w.bus node.0 link.source.0 after from) in
      record {
        once = λ r.
            let one : IsOnce m.count (slot_at n link.in_port) (sent_rounds (node_at w.bus link.source.0)) flight r =
            subst (λ k. IsOnce k (slot_at n link.in_port) (sent_rounds (node_at w.bus link.source.0)) flight r)
            (sym (count_stays link.target.0)) (before.once r) in
            let two : IsOnce m.count (slot_at m link.in_port) (sent_rounds (node_at w.bus link.source.0)) flight r =
            subst (λ o. IsOnce m.count o (sent_rounds (node_at w.bus link.source.0)) flight r)
            (sym (slots_stay link.target.0 link.in_port)) one in
            let three : IsOnce m.count (slot_at m link.in_port) (sent_rounds (node_at bus_sent link.source.0)) flight
            r =
            subst (λ k. IsOnce m.count (slot_at m link.in_port) k flight r) (sym now) two in
            subst (λ f. IsOnce m.count (slot_at m link.in_port) (sent_rounds (node_at bus_sent link.source.0)) f r)
            (sym (flight_there number within from)) three;
        in_time = λ r flies.
            subst (λ l. w.time ≤ slice_index_or l r 0 + run.design.gamma.mu_max)
            (sym (get_or-set_other w.sent_at node.0 link.source.0 (moments ++ w.time ∷ []) [] from))
            (before.in_time r (subst (λ f. is_in_flight r f ≡ true) (flight_there number within from) flies));
      }

  pub send_keeps_time : KeepsTime run (world_after run w (event.Send node))
  send_keeps_time =
      let sizes = keeps.moments in
      let within = fine.within in
      let long : node.0 < length w.since = let size = sizes.since in omega arith in
      let since = moved (is_held here.phase) w.since node.0 w.time in
      keeps_again run w bus_sent since w.ready sent_at_after keeps node.0
      keeps.going
      (send_keeps run w.bus node reading rules keeps.agrees fine.may)
      (record {
        readings = sizes.readings;
        since = moved_length (is_held here.phase) w.since node.0 w.time ∙ sizes.since;
        ready = sizes.ready;
        sent_at = length-set w.sent_at node.0 (moments ++ w.time ∷ []) ∙ sizes.sent_at;
      })
      (record {
        nodes = λ k other. node_stays w.bus node.0 k after other;
        since_stays = λ k other. moved_other (is_held here.phase) w.since node.0 k w.time other;
        ready_stays = λ k other. refl;
        sent_stays = λ k other. get_or-set_other w.sent_at node.0 k (moments ++ w.time ∷ []) [] other;
      })
      (stands_put run w bus_sent since w.ready sent_at_after keeps node.0 after since_after (ready_at w node.0)
      (moments ++ w.time ∷ []) after_stands
      (node_set w.bus node.0 after in_bus) (moved_here (is_held here.phase) w.since node.0 w.time long) refl
      moments_after)
      (λ number inside. elim (cases_eq (link_at run.design number).source.0 node.0) [
        | inl from ↦ link_from number inside from
        | inr other ↦ link_elsewhere number inside other
      ])
