-- An arrival in the world: nothing happens in the history, where the copy stays in flight.
use Rattle.std.proofs.Common.{◌≡◌, ◌≢◌, inl, inr, ℕ, suc, ◌-◌, ◌<◌, List, [], ◌++◌, length, map, drop}
use Rattle.std.proofs.Common.{Some, None, refl, sym, ap, ap₂, ◌∙◌, subst, arith}
use Rattle.std.proofs.lemmas.Bool.{cases_eq}
use Rattle.std.proofs.lemmas.Grind.{get_or-set_at}
use Rattle.std.proofs.lemmas.List.{append-nil, get_or-set_other}
use Rattle.std.proofs.Math.Seq.{map-set_same}
use Rattle.pals_base.specs.declared.basic_types.LinkNo.{LinkNo}
use Rattle.pals_base.specs.UpwardNumbers.{upwards}
use Rattle.pals_model.specs.declared.design.Link.{Link}
use Rattle.pals_model.specs.Flights.{without_oldest}
use Rattle.pals_model.specs.PortKindsAndRates.{ins_in}
use Rattle.pals_model.proofs.SourceLaws.{same_link}
use Rattle.pals_runs.specs.declared.journal.Arrived.TheVariants.{Kept}
use Rattle.pals_runs.specs.declared.journal.JournalEntry.{JournalEntry}
use Rattle.bus_machine.specs.MissedMessages.{rounds_sent_on}
use Rattle.bus_machine.specs.Nodes.{NodeState}
use Rattle.bus_machine.specs.NodeEvents.{slot_at}
use Rattle.bus_machine.specs.BusStates.{BusState, no_node, node_at, flight_at}
use Rattle.bus_machine.specs.Plans.{link_at, component_at}
use Rattle.bus_machine.specs.RunParameters.{Run}
use Rattle.bus_machine.specs.proof.AgreementLaws.{IsRunOf}
use Rattle.bus_machine.proofs.NodeReplacement.{keeps_at}
use Rattle.bus_machine.proofs.StateChangeAgreement.{node_set, node_stays}
use Rattle.run_laws.specs.Worlds.{World, world_after}
use Rattle.run_laws.specs.proof.WorldInvariant.{KeepsTime}
use Rattle.run_laws.proofs.FaultlessEventConditions.{FaultlessArrival}
use Rattle.run_laws.proofs.NodePicksAndRunReplay.{component_is}
use Rattle.run_laws.proofs.WorldInvariantAfterArrivals.{target, port, here, tuple, holds, bus_arrived, arrival_is_kept}
use Rattle.run_laws.proofs.WorldInvariantAfterArrivals.{in_bus}
use Rattle.run_laws.proofs.WorldInvariantAfterArrivals.{in_flights, sent_stays}
use Rattle.run_laws.proofs.WorldLinkTiming.{in_flight_counts, under_way, link_is, rule_of, comes_in_time, ComesInTime}
use Rattle.trace_laws.specs.WorldTraces.{recorded}
use Rattle.trace_laws.specs.proof.PutOffArrivals.{no_message, emptied, flying, rounds_of, LinkIsPutOff, LinksArePutOff}
use Rattle.trace_laws.specs.proof.PutOffArrivals.{IsPutOff}
use Rattle.trace_laws.proofs.CopyRounds.{first_copy}
use Rattle.pals_runs.specs.declared.events_and_faults.Event.TheVariants as event

module _ (run : Run) (w : World) (journal : List JournalEntry) (t : BusState) (rules : IsRunOf run)
    (keeps : KeepsTime run w) (put : IsPutOff run w journal t) (link : LinkNo) (round : ℕ)
    (fine : FaultlessArrival run w link round) where
  abbrev to : ℕ
  to = target run w rules keeps link round fine

  abbrev into : ℕ
  into = port run w rules keeps link round fine

  abbrev n : NodeState
  n = here run w rules keeps link round fine

  abbrev m : NodeState
  m = holds run w rules keeps link round fine

  abbrev bus : BusState
  bus = bus_arrived run w rules keeps link round fine Kept

  comes : ComesInTime run w rules keeps link.0 round
  comes = comes_in_time run w rules keeps link.0 round fine.within fine.flies fine.carried

  bus_is : (world_after run w (event.Arrive link round)).bus ≡ bus
  bus_is = ap (bus_arrived run w rules keeps link round fine) (arrival_is_kept run w rules keeps link round fine)

  -- ---- nodes
  same_emptied : emptied m ≡ emptied n
  same_emptied =
      ap (λ slots. record n { slots = slots })
      (map-set_same no_message n.slots into (Some (tuple run w rules keeps link round fine)) None refl)

  nodes_are : t.nodes ≡ map emptied bus.nodes
  nodes_are = put.nodes ∙ sym (map-set_same emptied w.bus.nodes to m no_node same_emptied)

  -- ---- the link of the message
  has_slot : into < length n.slots
  has_slot =
      let rule = (rule_of run link.0 rules fine.within).target in
      let is_c = component_is run to rule.node_is in
      let slots = (keeps.agrees.nodes to (component_at run.design to) is_c).slots in
      let below : into < length (component_at run.design to).behaviour.ins =
      subst (λ o. into < ins_in o) is_c rule.port_is in
      omega (arith, slots, below)

  counted : (k : ℕ) → (node_at bus k).count ≡ (node_at w.bus k).count
  counted k = keeps_at (λ (n : NodeState). n.count) w.bus to k m refl

  sent_same : (number : ℕ) → rounds_sent_on run bus number ≡ rounds_sent_on run w.bus number
  sent_same number = sent_stays run w rules keeps link round fine (link_at run.design number).source.0

  this_link : LinkIsPutOff run bus t link.0 to into
  this_link =
      let before = put.links link.0 fine.within in
      let sent : ℕ = rounds_sent_on run w.bus link.0 in
      let flew : flight_at w.bus link.0 ≡ flight_at t link.0 = before.flight
      ∙ ap (λ o. flying o (flight_at t link.0)) comes.empty in
      let message = under_way n.count (slot_at n into) sent (flight_at w.bus link.0) round
      ((keeps.links link.0 fine.within).once round) (in_flight_counts round (flight_at w.bus link.0) fine.flies) in
      let last = comes.last in
      let is_sent = message.is_sent in
      let from : n.count - 1 ≡ round = omega (arith, last) in
      let many : sent - (n.count - 1) ≡ suc (sent - round - 1) = omega (arith, last, is_sent) in
      let rounds : rounds_of (flight_at t link.0) ≡ upwards round (suc (sent - round - 1)) = before.rounds
      ∙ ap₂ upwards from many in
      let first = first_copy (flight_at t link.0) round (sent - round - 1) rounds in
      let slot : slot_at (node_at bus to) into ≡ Some (tuple run w rules keeps link round fine) =
      ap (λ (k : NodeState). slot_at k into) (node_set w.bus to m (in_bus run w rules keeps link round fine))
      ∙ get_or-set_at n.slots into into (Some (tuple run w rules keeps link round fine)) None refl
      has_slot in
      let flies : flight_at bus link.0 ≡ without_oldest round (flight_at w.bus link.0) =
      get_or-set_at w.bus.flights link.0 link.0 (without_oldest round (flight_at w.bus link.0)) [] refl
      (in_flights run w rules keeps link round fine) in
      record {
        rounds = before.rounds ∙ ap₂ (λ c s. upwards (c - 1) (s - (c - 1))) (sym (counted to)) (sym (sent_same link.0));
        flight = flies ∙ ap (without_oldest round) flew ∙ first.without_is
            ∙ sym (ap (drop 1) first.flight_is) ∙ ap (λ o. flying o (flight_at t link.0)) (sym slot);
        due = before.due;
      }

  -- ---- the others
  slots_same : (number : ℕ) → number < length run.design.links → number ≢ link.0
      → slot_at (node_at bus (link_at run.design number).target.0) (link_at run.design number).in_port
      ≡ slot_at (node_at w.bus (link_at run.design number).target.0) (link_at run.design number).in_port
  slots_same number within other =
      let l : Link = link_at run.design number in
      elim (cases_eq l.target.0 to) [
        | inl same ↦
            let ports : l.in_port ≢ into =
            λ p. other (same_link run.design number link.0 l (link_at run.design link.0) rules.design
            (link_is run number within) (link_is run link.0 fine.within) same p) in
            ap (λ k. slot_at (node_at bus k) l.in_port) same
            ∙ ap (λ (k : NodeState). slot_at k l.in_port)
            (node_set w.bus to m (in_bus run w rules keeps link round fine))
            ∙ get_or-set_other n.slots into l.in_port (Some (tuple run w rules keeps link round fine)) None ports
            ∙ sym (ap (λ k. slot_at (node_at w.bus k) l.in_port) same)
        | inr apart ↦ ap (λ (k : NodeState). slot_at k l.in_port) (node_stays w.bus to l.target.0 m apart)
      ]

  links_are : LinksArePutOff run bus t
  links_are number within = elim (cases_eq number link.0) [
    | inl same ↦
        subst (λ k. LinkIsPutOff run bus t k (link_at run.design k).target.0 (link_at run.design k).in_port) (sym same)
        this_link
    | inr other ↦
        let l : Link = link_at run.design number in
        let before = put.links number within in
        let flies : flight_at bus number ≡ flight_at w.bus number =
        get_or-set_other w.bus.flights link.0 number (without_oldest round (flight_at w.bus link.0)) [] other in
        record {
          rounds = before.rounds
              ∙ ap₂ (λ c s. upwards (c - 1) (s - (c - 1))) (sym (counted l.target.0)) (sym (sent_same number));
          flight = flies ∙ before.flight ∙ ap (λ o. flying o (flight_at t number))
              (sym (slots_same number within other));
          due = before.due;
        }
  ]

  pub arrive_put_off : (u : BusState)
      × IsPutOff run (world_after run w (event.Arrive link round))
      (journal ++ recorded run w (event.Arrive link round)) u
  arrive_put_off = (
    t,
    subst (λ told. IsPutOff run (world_after run w (event.Arrive link round)) told t) (sym (append-nil journal))
        (record {
          history = put.history;
          of_design = put.of_design;
          going = put.going;
          nodes = nodes_are ∙ ap (λ (b : BusState). map emptied b.nodes) (sym bus_is);
          links = subst (λ b. LinksArePutOff run b t) (sym bus_is) links_are;
          read = put.read;
        }),
  )
