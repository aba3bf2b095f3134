use Rattle.std.proofs.Common.{◌∙◌, ap, subst}
use Rattle.std.specs.Arc.{arc_value}
use Rattle.pals_model.specs.declared.design.DesignParts.{DesignParts}
use Rattle.triple_vote.specs.proof.ReplicaLayers.{tap_sizes}
use Rattle.triple_vote.specs.proof.VotedStates.{VotedState, voted_advanced}
use Rattle.triple_vote.specs.proof.ThreeLayers.{AreThree, HasReceivedSizes}
use Rattle.triple_vote.proofs.ProductStatesAndInvariant.{tables_stay, replicas_turn, state_advanced_by}
use Rattle.triple_vote.proofs.product.VoteProduct.advance.Goals as goal

pub invariant_of-self-2 : goal.invariant_of-self-2
invariant_of-self-2 c =
    let inside = c.self.inside in
    let design = arc_value inside.design in
    let layers = c.run_each.new.layers.items in
    let received_messages = c.receive_each.new.received_messages.items in (
      tables_stay design inside.replicated inside.sources inside.stages.items c.run_each.new.stages.items
          c.self.invariant.0 c.in_ok-run_each.ensures.stages,
      replicas_turn design inside.replicated inside.layers.items layers c.swap_each.new.layers.items
          inside.received_messages.items
          received_messages inside.shown c.show_each.new.shown
          c.self.invariant.1 c.in_ok-run_each.ensures.stay
          (subst (λ (d : DesignParts). AreThree d layers) c.deref-2.ensures c.in_ok-run_each.ensures.layers)
          c.swap_each.ensures (subst (λ (d : DesignParts). HasReceivedSizes d received_messages) c.deref-3.ensures
          c.receive_each.ensures.received_messages)
          (c.show_each.ensures.sizes ∙ ap tap_sizes c.deref-4.ensures),
    )

pub returns-clause-ok : goal.returns-clause-ok
returns-clause-ok c =
    let inside = c.self.inside in
    let design = arc_value inside.design in
    let values = c.args.values.now in
    let faults = c.args.faults.now in
    state_advanced_by design c.deref-2.result.now c.deref-3.result.now c.deref-4.result.now inside.replicated
    c.as_slice-replicated.result.now values faults
    inside.received_messages.items c.as_slice.result.now c.receive_each.new.received_messages.items inside.layers.items
    c.run_each.new.layers.items c.as_slice-layers.result.now
    c.swap_each.new.layers.items inside.shown c.show_each.new.shown c.deref-2.ensures c.deref-3.ensures
    c.deref-4.ensures c.as_slice-replicated.ensures.value
    c.as_slice.ensures.value c.as_slice-layers.ensures.value c.show_each.ensures.rules c.in_ok-run_each.ensures.layers
    c.self.invariant.1.layers_are
    c.in_ok-run_each.ensures.stay c.in_ok-run_each.ensures.made c.receive_each.ensures.received
    c.show_each.ensures.shown c.show_each.ensures.sizes c.swap_each.ensures
    ∙ ap (λ (s : VotedState). voted_advanced s values faults) c.self.view_is
