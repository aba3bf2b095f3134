use Rattle.std.proofs.Common.{◌∙◌, ◌<◌, sym, ap, length, slice_index_or, arith, rules}
use Rattle.std.proofs.lemmas.List.{get_or-map}
use Rattle.pals_model.specs.declared.part.Part.{Part}
use Rattle.pals_model.specs.Composition.{no_frame}
use Rattle.sync_product.specs.proof.ProductSizes.{frame_size, part_size, stage_size}
use Rattle.sync_product.proofs.SizePreservingWrites.{same_sizes}
use Rattle.sync_product.proofs.ComponentSizes.{count_of_parts, count_of_stages, fits_sources, fits_part, fits_frame}
use Rattle.sync_product.proofs.ComponentSizes.{fits_stage}
use Rattle.plant_fuse.proofs.RoundWork.{alone_is_run}
use Rattle.plant_fuse.proofs.round.run_one.Goals as goal

pub bounds-parts-node : goal.bounds-parts-node
bounds-parts-node c =
    omega (arith, c.requires.node, count_of_parts c.args.round.design.now c.args.parts.now c.requires.parts)

pub offset_bounds-parts-node : goal.offset_bounds-parts-node
offset_bounds-parts-node c =
    let within : c.args.node < length c.args.parts.now =
    omega (arith, c.requires.node, count_of_parts c.args.round.design.now c.args.parts.now c.requires.parts) in
    search rules

pub index_mut-requires : goal.index_mut-requires
index_mut-requires c =
    omega (
      arith,
      c.requires.node,
      count_of_stages c.args.round.design.now c.args.stages.now.items c.requires.stages,
      c.args.stages.now.ok.0,
    )

pub index_mut-requires-2 : goal.index_mut-requires-2
index_mut-requires-2 c =
    omega (arith, c.requires.node, count_of_parts c.args.round.design.now c.args.next.now c.requires.next)

pub run-requires-clause-stage : goal.run-requires-clause-stage
run-requires-clause-stage c =
    fits_stage c.args.round.design.now c.args.node c.component-wired.result c.component-wired.ensures
    c.args.stages.now.items c.index_mut.result.now c.requires.stages c.index_mut.ensures.value

pub run-requires-clause-sources : goal.run-requires-clause-sources
run-requires-clause-sources c =
    fits_sources c.args.round.design.now c.args.node c.component-wired.result c.component-wired.ensures

pub run-requires-clause-from : goal.run-requires-clause-from
run-requires-clause-from c =
    ap (λ (p : Part). frame_size p.frame) (sym c.index-parts-node.is)
    ∙ fits_frame c.args.round.design.now c.args.node c.component-wired.result c.component-wired.ensures
    c.args.parts.now c.index-parts-node.result c.requires.parts c.index-parts-node.is

pub run-requires-clause-part : goal.run-requires-clause-part
run-requires-clause-part c =
    fits_part c.args.round.design.now c.args.node c.component-wired.result c.component-wired.ensures
    c.args.next.now c.index_mut-2.result.now c.requires.next c.index_mut-2.ensures.value

pub returns-in_err-run-clause-parts : goal.returns-in_err-run-clause-parts
returns-in_err-run-clause-parts c =
    let next = c.args.next.now in
    let within : c.args.node < length next =
    omega (arith, c.requires.node, count_of_parts c.args.round.design.now next c.requires.next) in
    same_sizes part_size next c.args.node c.index_mut-2.result.now c.run.new.part within c.index_mut-2.ensures.value
    c.in_err-run.ensures.part_size

pub returns-in_err-run-clause-stages : goal.returns-in_err-run-clause-stages
returns-in_err-run-clause-stages c =
    let stages = c.args.stages.now.items in
    let within : c.args.node < length stages =
    omega (arith, c.requires.node, count_of_stages c.args.round.design.now stages c.requires.stages) in
    same_sizes stage_size stages c.args.node c.index_mut.result.now c.run.new.self within c.index_mut.ensures.value
    c.in_err-run.ensures.stage_size

pub returns : goal.returns
returns c =
    let design = c.args.round.design.now in
    let node = c.args.node in
    let parts = c.args.parts.now in
    let next = c.args.next.now in
    let stages = c.args.stages.now.items in
    let inside : node < length parts = omega (arith, c.requires.node, count_of_parts design parts c.requires.parts) in
    let in_next : node < length next = omega (arith, c.requires.node, count_of_parts design next c.requires.next) in
    let in_stages : node < length stages =
    omega (arith, c.requires.node, count_of_stages design stages c.requires.stages) in
    let from = (slice_index_or parts node c.index-parts-node.result).frame in
    let from_is =
    sym (get_or-map (λ (p : Part). p.frame) parts node c.index-parts-node.result no_frame inside) in
    let done = c.in_ok-run.ensures in
    record {
      run =
          alone_is_run c.args.round parts next stages node c.component-wired.result from c.run.new.part c.run.new.self
          c.component-wired.ensures from_is in_next in_stages done.frame done.rows done.outs;
      parts =
          same_sizes part_size next node c.index_mut-2.result.now c.run.new.part in_next c.index_mut-2.ensures.value
          done.part_size;
      stages =
          same_sizes stage_size stages node c.index_mut.result.now c.run.new.self in_stages c.index_mut.ensures.value
          done.stage_size;
    }
