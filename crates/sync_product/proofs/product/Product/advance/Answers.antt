use Rattle.std.proofs.Common.{◌≡◌, ◌∙◌, ℕ, ap, sym, subst, length, map, arith}
use Rattle.std.specs.Arc.{arc_value}
use Rattle.list_lemmas.proofs.ListOperations.{length-map_enumerate_from}
use Rattle.pals_model.specs.declared.design.Component.{Component}
use Rattle.pals_model.specs.declared.design.DesignParts.{DesignParts}
use Rattle.pals_model.specs.DesignRules.{IsDesign}
use Rattle.sync_product.specs.declared.round_inputs.RoundInputs.{RoundInputs}
use Rattle.sync_product.specs.proof.ProductSizes.{part_size, part_size_of, part_sizes, stage_size, stage_sizes}
use Rattle.sync_product.specs.proof.ComponentWiring.{tap_ports}
use Rattle.sync_product.specs.proof.Rounds.{frames_of, sent_by}
use Rattle.sync_product.specs.proof.ProductStates.{ProductState, advanced}
use Rattle.sync_product.proofs.ComponentLists.{count_of_sized}
use Rattle.sync_product.proofs.ProductRounds.{standing, advanced-by}
use Rattle.sync_product.proofs.product.Product.advance.Goals as goal

pub returns-clause-ok : goal.returns-clause-ok
returns-clause-ok c =
    let inside = c.self.inside in
    let design = arc_value inside.design in
    let here = c.deref.result.now in
    let values = c.args.values.now in
    let round : RoundInputs =
    record { design = c.deref.result; values = c.args.values; messages = c.as_slice.result } in
    let before = c.as_slice-2.result.now in
    let next = c.run_all.new.next in
    let stages = c.run_all.new.stages.items in
    let messages = c.send_all.new.messages in
    let same = c.deref-2.ensures ∙ sym c.deref.ensures in
    let rules : IsDesign here = subst IsDesign same c.send_all.ensures.rules in
    let sizes =
    length-map_enumerate_from
    (λ (numbered : ℕ × Component). part_size_of numbered.1 (tap_ports design.taps numbered.0)) 0
    design.components in
    let components = ap (λ (d : DesignParts). length d.components) c.deref.ensures in
    let size : length before ≡ length here.components =
    omega (
      arith,
      c.as_slice-2.ensures.len,
      count_of_sized part_size inside.parts (part_sizes design) c.self.invariant.1.parts_fit,
    ) in
    let count : length next ≡ length here.components =
    omega (
      arith,
      count_of_sized part_size next (part_sizes design)
          (c.in_ok-run_all.ensures.parts ∙ c.self.invariant.2.parts_fit),
    ) in
    let fit : map stage_size stages ≡ stage_sizes here = c.in_ok-run_all.ensures.stages ∙ c.self.invariant.0.stages_fit
    ∙ ap stage_sizes (sym c.deref.ensures) in
    let are : messages ≡ map (sent_by stages) here.links =
    (c.send_all.ensures.sent
    ∙ ap (λ ss. map (sent_by ss) c.deref-2.result.now.links) c.as_slice-3.ensures.value
    ∙ ap (λ (d : DesignParts). map (sent_by stages) d.links) same) in
    ap (λ ps. standing design (frames_of ps) c.swap-2.new.x ps) c.swap.ensures.x_after
    ∙ ap (λ ms. standing design (frames_of next) ms next) c.swap-2.ensures.x_after
    ∙ ap (λ (d : DesignParts). standing d (frames_of next) messages next) (sym c.deref.ensures)
    ∙ advanced-by round before next stages messages rules size count c.in_ok-run_all.ensures.stepped fit are
    ∙ ap (λ (d : DesignParts). advanced (standing d (frames_of before) c.as_slice.result.now before) values)
    c.deref.ensures
    ∙ ap (λ ms. advanced (standing design (frames_of before) ms before) values) c.as_slice.ensures.value
    ∙ ap (λ ps. advanced (standing design (frames_of ps) inside.messages ps) values) c.as_slice-2.ensures.value
    ∙ ap (λ (s : ProductState). advanced s values) c.self.view_is
