use Rattle.std.proofs.Common.{◌≡◌, ◌∙◌, ℕ, List, [], ap, sym, length, map, set, slice_index_or, arith}
use Rattle.std.proofs.lemmas.List.{with_items_is, get_or_default}
use Rattle.std.specs.Vec.{with_items}
use Rattle.pals_base.specs.declared.basic_types.PortValue.{PortValue}
use Rattle.sync_product.specs.proof.ProductSizes.{FrameSize, StageSize, frame_size}
use Rattle.sync_product.proofs.SizePreservingWrites.{same_sizes}
use Rattle.sync_product.proofs.component_stage.Stage.make_step.Goals as goal

pub returns-clause-stage_size : goal.returns-clause-stage_size
returns-clause-stage_size c =
    let self = c.args.self.now in
    let step = c.args.step in
    let row = c.copy_from_slice.new.self in
    let size : ℕ → FrameSize → List ℕ → StageSize =
    λ o b r. record {
      sources = self.groups;
      inputs = length self.inputs;
      outs = o;
      before = b;
      rows = r;
      sent = self.sent;
    } in
    let width : length c.fire_into.new.outs ≡ self.outs.len = omega arith in
    let items = with_items_is self.outs c.fire_into.new.outs width in
    let outs : length (with_items self.outs c.fire_into.new.outs).items ≡ length self.outs.items = ap length items
    ∙ omega arith in
    let before : frame_size c.swap.new.x ≡ frame_size self.before = ap frame_size c.swap.ensures.x_after
    ∙ sym c.requires.frame in
    let old = slice_index_or self.rows step [] in
    let same : length row ≡ length old = ap length c.copy_from_slice.ensures ∙ omega (arith, c.requires.row) in
    let rows =
    same_sizes (λ (r : List PortValue). length r) self.rows step old row c.requires.step
    (get_or_default self.rows step [] old c.requires.step) same in
    ap (λ o. size o (frame_size c.swap.new.x) (map (λ (r : List PortValue). length r) (set self.rows step row))) outs
    ∙ ap (λ b. size (length self.outs.items) b (map (λ (r : List PortValue). length r) (set self.rows step row))) before
    ∙ ap (size (length self.outs.items) (frame_size self.before)) rows
