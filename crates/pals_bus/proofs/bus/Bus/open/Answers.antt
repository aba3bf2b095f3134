use Rattle.std.proofs.Common.{◌∙◌, None, false, map, length, refl, ap, subst}
use Rattle.pals_model.specs.declared.design.DesignParts.{DesignParts}
use Rattle.pals_model.specs.declared.design.Link.{Link}
use Rattle.pals_model.specs.DesignRules.{IsDesign}
use Rattle.pals_node.specs.proof.NodeAndJobValues.{NodeValue}
use Rattle.pals_bus.specs.declared.bus_fields.BusFields.{BusFields}
use Rattle.pals_bus.specs.proof.OutOfRangeDefaults.{no_flight, no_queue}
use Rattle.pals_bus.specs.proof.LinksFromNodes.{AreOutgoing}
use Rattle.pals_bus.specs.proof.StepCodesOfNodes.{codes_in}
use Rattle.pals_bus.proofs.Openings.{IsOpening, opening_keeps, opening_shows}
use Rattle.pals_bus.proofs.bus.Bus.open.Goals as goal

pub invariant_of-result : goal.invariant_of-result
invariant_of-result c =
    let f : BusFields = record {
      alloc = c.args.alloc;
      design = c.args.run.design;
      outgoing = c.in_ok-outgoing.outgoing;
      env = c.args.run.env;
      rounds = c.args.run.rounds;
      delays = c.args.run.delays;
      meeting = c.args.meeting;
      closed = false;
      nodes = c.args.nodes;
      flights = c.in_ok-flights.flights;
      queues = c.in_ok-queues.queues;
      stop = None;
      journal = c.new-2.result;
      values = c.in_ok-values.values;
    } in
    let is : IsOpening f (codes_in c.args.nodes) = record {
      design = subst IsDesign c.deref-2.ensures c.empty_flights.ensures.rules;
      outgoing =
          subst (λ (d : DesignParts). AreOutgoing (length d.components) d.links c.in_ok-outgoing.outgoing)
          c.deref.ensures c.in_ok-outgoing.ensures;
      rounds = (c.requires.some, c.requires.most);
      delays = c.requires.delays;
      values = c.in_ok-values.ensures;
      codes_are = c.requires.codes;
      nodes = c.requires.nodes;
      flights =
          c.in_ok-flights.ensures.flights
          ∙ ap (λ (d : DesignParts). map (λ (_ : Link). no_flight) d.links) c.deref-2.ensures;
      queues = c.in_ok-queues.ensures ∙ ap (map (λ (_ : NodeValue). no_queue)) c.as_slice.ensures;
      stop = refl;
      journal = c.new-2.ensures.items;
      closed = refl;
    } in
    opening_keeps f (codes_in c.args.nodes) is

pub returns : goal.returns
returns c =
    let f : BusFields = record {
      alloc = c.args.alloc;
      design = c.args.run.design;
      outgoing = c.in_ok-outgoing.outgoing;
      env = c.args.run.env;
      rounds = c.args.run.rounds;
      delays = c.args.run.delays;
      meeting = c.args.meeting;
      closed = false;
      nodes = c.args.nodes;
      flights = c.in_ok-flights.flights;
      queues = c.in_ok-queues.queues;
      stop = None;
      journal = c.new-2.result;
      values = c.in_ok-values.values;
    } in
    let is : IsOpening f (codes_in c.args.nodes) = record {
      design = subst IsDesign c.deref-2.ensures c.empty_flights.ensures.rules;
      outgoing =
          subst (λ (d : DesignParts). AreOutgoing (length d.components) d.links c.in_ok-outgoing.outgoing)
          c.deref.ensures c.in_ok-outgoing.ensures;
      rounds = (c.requires.some, c.requires.most);
      delays = c.requires.delays;
      values = c.in_ok-values.ensures;
      codes_are = c.requires.codes;
      nodes = c.requires.nodes;
      flights =
          c.in_ok-flights.ensures.flights
          ∙ ap (λ (d : DesignParts). map (λ (_ : Link). no_flight) d.links) c.deref-2.ensures;
      queues = c.in_ok-queues.ensures ∙ ap (map (λ (_ : NodeValue). no_queue)) c.as_slice.ensures;
      stop = refl;
      journal = c.new-2.ensures.items;
      closed = refl;
    } in
    opening_shows f (codes_in c.args.nodes) is
