use Rattle.std.proofs.Common.{◌≡◌, ◌∙◌, List, ap, sym, subst, subst₂, map}
use Rattle.std.specs.Arc.{arc_value}
use Rattle.pals_base.specs.declared.basic_types.PortValue.{PortValue}
use Rattle.pals_model.specs.declared.design.DesignParts.{DesignParts}
use Rattle.pals_model.specs.declared.part.Part.{Part}
use Rattle.pals_model.specs.DesignRules.{IsDesign}
use Rattle.sync_product.specs.declared.round_inputs.RoundInputs.{RoundInputs}
use Rattle.sync_product.specs.declared.component_stage.Stage.{Stage}
use Rattle.sync_product.specs.proof.ProductSizes.{part_size, part_sizes, stage_size, stage_sizes}
use Rattle.sync_product.specs.proof.Rounds.{frames_of}
use Rattle.plant_fuse.specs.FusedComposition.{ArePairs}
use Rattle.plant_fuse.specs.proof.Messages.{sent_on}
use Rattle.plant_fuse.specs.proof.FuseState.{FuseState, IsAdvanced}
use Rattle.sync_product.proofs.ComponentSizes.{count_of_parts}
use Rattle.plant_fuse.proofs.ProductAdvance.{standing, advanced_by}
use Rattle.plant_fuse.proofs.product.FuseProduct.advance.Goals as goal

pub returns-clause-ok : goal.returns-clause-ok
returns-clause-ok c =
    let inside = c.self.inside in
    let design = arc_value inside.design in
    let pairs = inside.tables.pairs in
    let here = c.deref.result.now in
    let values = c.args.values.now in
    let round : RoundInputs =
    record { design = c.deref.result; values = c.args.values; messages = c.as_slice.result } in
    let before = c.as_slice-2.result.now in
    let next = c.run_all.new.next in
    let stages = c.run_all.new.stages.items in
    let messages = c.send_all.new.messages in
    let same = c.deref-2.ensures ∙ sym c.deref.ensures in
    let rules : IsDesign here = subst IsDesign same c.send_all.ensures.rules in
    let are : ArePairs here pairs =
    subst (λ (d : DesignParts). ArePairs d pairs) (sym c.deref.ensures) c.self.invariant.0.pairs_fit in
    let fit : map stage_size stages ≡ stage_sizes here = c.in_ok-run_all.ensures.stages ∙ c.self.invariant.0.stages_fit
    ∙ ap stage_sizes (sym c.deref.ensures) in
    let next_fit : map part_size next ≡ part_sizes here = c.in_ok-run_all.ensures.parts ∙ c.self.invariant.2.parts_fit
    ∙ ap part_sizes (sym c.deref.ensures) in
    let count = count_of_parts here next next_fit in
    let sent : messages ≡ map (sent_on pairs stages) here.links =
    (c.send_all.ensures.sent
    ∙ ap (λ (ss : List Stage). map (sent_on pairs ss) c.deref-2.result.now.links) c.as_slice-3.ensures.value
    ∙ ap (λ (d : DesignParts). map (sent_on pairs stages) d.links) same) in
    let advanced =
    advanced_by round pairs are (frames_of before) next stages c.in_ok-run_all.ensures.run rules fit count messages
    before sent in
    let old_is =
    ap (λ (d : DesignParts). standing d pairs (frames_of before) c.as_slice.result.now before) c.deref.ensures
    ∙ ap (λ (ms : List (List PortValue)). standing design pairs (frames_of before) ms before) c.as_slice.ensures.value
    ∙ ap (λ (ps : List Part). standing design pairs (frames_of ps) inside.messages ps) c.as_slice-2.ensures.value
    ∙ c.self.view_is in
    let new_is =
    ap (λ (ps : List Part). standing design pairs (frames_of ps) c.swap-2.new.x ps) c.swap.ensures.x_after
    ∙ ap (λ (ms : List (List PortValue)). standing design pairs (frames_of next) ms next) c.swap-2.ensures.x_after
    ∙ ap (λ (d : DesignParts). standing d pairs (frames_of next) messages next) (sym c.deref.ensures) in
    subst₂ (λ (old new : FuseState). IsAdvanced old values new) old_is (sym new_is) advanced
