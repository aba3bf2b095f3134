use Rattle.std.proofs.Common.{◌∙◌, Bool, List, ap, sym, subst, length, map, replicate}
use Rattle.std.specs.Arc.{arc_value}
use Rattle.pals_base.specs.declared.basic_types.PortValue.{PortValue}
use Rattle.pals_base.specs.declared.basic_types.PortValue.TheVariants.{Absent}
use Rattle.pals_model.specs.declared.design.Tap.{Tap}
use Rattle.pals_model.specs.declared.design.DesignParts.{DesignParts}
use Rattle.pals_model.specs.ComponentInputs.{all_sources}
use Rattle.pals_model.specs.PortKindsAndRates.{rate_of}
use Rattle.pals_model.specs.Composition.{opening}
use Rattle.sync_product.specs.proof.ProductSizes.{stage_sizes}
use Rattle.triple_vote.specs.proof.VotedStates.{voted_begun}
use Rattle.triple_vote.specs.proof.ReplicaLayers.{lengths}
use Rattle.triple_vote.specs.proof.ThreeLayers.{AreOpened}
use Rattle.triple_vote.proofs.OpeningReplicas.{shown_fits, are_heard}
use Rattle.triple_vote.proofs.ProductStatesAndInvariant.{state_begun}
use Rattle.triple_vote.proofs.product.VoteProduct.new.Goals as goal

abbrev silent : DesignParts → List (List (List PortValue))
silent d = replicate 3 (opening d).messages

abbrev absent_taps : DesignParts → List (List PortValue)
absent_taps d = map (λ (tap : Tap). replicate (rate_of d tap.source.0) Absent) d.taps

pub invariant_of-result : goal.invariant_of-result
invariant_of-result c =
    let design = arc_value c.args.design in
    let marked = c.from_vec.result in
    let layers = c.in_ok-layers.layers.items in
    let opened : AreOpened design marked layers
    = subst (λ (r : List Bool). AreOpened design r layers) (c.as_slice.ensures.value ∙ sym c.from_vec.ensures)
    (subst (λ (d : DesignParts). AreOpened d c.as_slice.result.now layers) c.deref-3.ensures
    c.in_ok-layers.ensures) in (
      record {
        replicated_fit = ap length c.from_vec.ensures ∙ c.requires;
        sources_are = c.in_ok-sources.ensures ∙ ap all_sources c.deref.ensures;
        stages_fit = c.in_ok-stages.ensures ∙ ap stage_sizes c.deref-2.ensures;
      },
      record {
        layers_fit = opened.layers_fit;
        layers_are = opened.layers_are;
        heard_fit = are_heard design c.in_ok-received_messages.received_messages.items
            (c.in_ok-received_messages.ensures ∙ ap silent c.deref-4.ensures);
        shown_fit =
            ap lengths (c.in_ok-shown.ensures ∙ ap absent_taps c.deref-5.ensures) ∙ shown_fits design design.taps;
      },
    )

pub returns : goal.returns
returns c =
    let design = arc_value c.args.design in
    let marked = c.from_vec.result in
    let layers = c.in_ok-layers.layers.items in
    let opened : AreOpened design marked layers
    = subst (λ (r : List Bool). AreOpened design r layers) (c.as_slice.ensures.value ∙ sym c.from_vec.ensures)
    (subst (λ (d : DesignParts). AreOpened d c.as_slice.result.now layers) c.deref-3.ensures c.in_ok-layers.ensures) in
    state_begun design marked layers c.in_ok-received_messages.received_messages.items c.in_ok-shown.shown opened
    (c.in_ok-received_messages.ensures ∙ ap silent c.deref-4.ensures)
    (c.in_ok-shown.ensures ∙ ap absent_taps c.deref-5.ensures)
    ∙ ap (voted_begun design) c.from_vec.ensures
