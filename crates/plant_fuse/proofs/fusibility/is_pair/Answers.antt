use Rattle.std.proofs.Common.{◌≡◌, ◌∙◌, List, length, sym, ap, subst}
use Rattle.std.specs.List.{list_all}
use Rattle.pals_model.specs.declared.design.Link.{Link}
use Rattle.pals_model.specs.PortKindsAndRates.{rate_of}
use Rattle.plant_fuse.specs.proof.Fusibility.{AreTwo, stays_inside}
use Rattle.plant_fuse.proofs.FusiblePairs.{pair_by, all_inside}
use Rattle.plant_fuse.proofs.fusibility.is_pair.Goals as goal

pub returns : goal.returns
returns c =
    let design = c.args.design.now in
    let pair = c.args.pair.now in
    let two : AreTwo pair (length design.components) =
    subst (AreTwo pair) c.len.ensures (c.are_two.ensures.0 c.if-not-are_two.false) in
    let rates : rate_of design pair.plant.0 ≡ rate_of design pair.controller.0 = sym c.rate.ensures ∙ c.if-rate.false
    ∙ c.rate-2.ensures in
    let inside : c.all_stay_inside.result ≡ list_all (stays_inside pair) design.links =
    c.all_stay_inside.ensures
    ∙ ap (λ (links : List Link). list_all (stays_inside pair) links) c.as_slice.ensures.value in (
      λ is. pair_by design pair two rates (sym inside ∙ is),
      λ known. inside ∙ all_inside pair design.links known.from_plant known.to_plant,
    )
