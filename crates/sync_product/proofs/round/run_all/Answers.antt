use Rattle.std.proofs.Common.{◌∙◌, ◌<◌, ap, sym, length, slice_index_or, arith}
use Rattle.std.proofs.lemmas.List.{get_or_default}
use Rattle.std.proofs.lemmas.Option.{slice_get_within}
use Rattle.pals_model.specs.declared.part.Part.{Part}
use Rattle.sync_product.specs.proof.ProductSizes.{frame_size, part_size, stage_size}
use Rattle.sync_product.proofs.SizePreservingWrites.{same_sizes}
use Rattle.sync_product.proofs.ComponentSizes.{count_of_parts, count_of_stages, fits_sources, fits_part, fits_frame}
use Rattle.sync_product.proofs.ComponentSizes.{fits_stage}
use Rattle.sync_product.proofs.ComponentSteps.{stepped_more, rows_by, part_by}
use Rattle.sync_product.proofs.round.run_all.Goals as goal

pub bounds-parts-node : goal.bounds-parts-node
bounds-parts-node c =
    omega (
      arith,
      c.loop-node-test.true,
      ap length c.components-node-end.ensures.value,
      count_of_parts c.args.round.design.now c.args.parts.now c.requires.parts,
    )

pub index_mut-requires : goal.index_mut-requires
index_mut-requires c =
    omega (
      arith,
      c.loop-node-test.true,
      ap length c.components-node-end.ensures.value,
      count_of_stages c.args.round.design.now c.loop-node.stages.items
          (c.loop-node.invariant.stages ∙ c.requires.stages),
      c.loop-node.stages.ok.0,
    )

pub index_mut-requires-in-loop-node : goal.index_mut-requires-in-loop-node
index_mut-requires-in-loop-node c =
    omega (
      arith,
      c.loop-node-test.true,
      ap length c.components-node-end.ensures.value,
      count_of_parts c.args.round.design.now c.loop-node.next (c.loop-node.invariant.parts ∙ c.requires.next),
    )

pub run-requires-clause-stage : goal.run-requires-clause-stage
run-requires-clause-stage c =
    fits_stage c.args.round.design.now c.loop-node.node c.component-wired.result c.component-wired.ensures
    c.loop-node.stages.items c.index_mut.result.now (c.loop-node.invariant.stages ∙ c.requires.stages)
    c.index_mut.ensures.value

pub run-requires-clause-sources : goal.run-requires-clause-sources
run-requires-clause-sources c =
    fits_sources c.args.round.design.now c.loop-node.node c.component-wired.result c.component-wired.ensures

pub run-requires-clause-from : goal.run-requires-clause-from
run-requires-clause-from c =
    ap (λ (p : Part). frame_size p.frame) (sym c.index-parts-node.is)
    ∙ fits_frame c.args.round.design.now c.loop-node.node c.component-wired.result c.component-wired.ensures
    c.args.parts.now c.index-parts-node.result c.requires.parts c.index-parts-node.is

pub run-requires-clause-part : goal.run-requires-clause-part
run-requires-clause-part c =
    fits_part c.args.round.design.now c.loop-node.node c.component-wired.result c.component-wired.ensures
    c.loop-node.next c.index_mut-in-loop-node.result.now (c.loop-node.invariant.parts ∙ c.requires.next)
    c.index_mut-in-loop-node.ensures.value

pub returns-in_err-run-clause-parts : goal.returns-in_err-run-clause-parts
returns-in_err-run-clause-parts c =
    let fit = c.loop-node.invariant.parts ∙ c.requires.next in
    let count = count_of_parts c.args.round.design.now c.loop-node.next fit in
    let within : c.loop-node.node < length c.loop-node.next =
    omega (arith, count, c.loop-node-test.true, ap length c.components-node-end.ensures.value) in
    same_sizes part_size c.loop-node.next c.loop-node.node c.index_mut-in-loop-node.result.now c.run.new.part within
    c.index_mut-in-loop-node.ensures.value c.in_err-run.ensures.part_size ∙ c.loop-node.invariant.parts

pub returns-in_err-run-clause-stages : goal.returns-in_err-run-clause-stages
returns-in_err-run-clause-stages c =
    let stages = c.loop-node.stages.items in
    let count = count_of_stages c.args.round.design.now stages (c.loop-node.invariant.stages ∙ c.requires.stages) in
    let within : c.loop-node.node < length stages =
    omega (arith, count, c.loop-node-test.true, ap length c.components-node-end.ensures.value) in
    same_sizes stage_size stages c.loop-node.node c.index_mut.result.now c.run.new.self within
    c.index_mut.ensures.value c.in_err-run.ensures.stage_size ∙ c.loop-node.invariant.stages

pub loop-node-preserved : goal.loop-node-preserved
loop-node-preserved c =
    let round = c.args.round in
    let design = round.design.now in
    let node = c.loop-node.node in
    let next = c.loop-node.next in
    let stages = c.loop-node.stages.items in
    let parts = c.args.parts.now in
    let wired = c.component-wired.result in
    let item = wired.component.now in
    let is = c.component-wired.ensures in
    let inside : node < length design.components =
    omega (arith, c.loop-node-test.true, ap length c.components-node-end.ensures.value) in
    let within_parts : node < length parts = omega (arith, inside, count_of_parts design parts c.requires.parts) in
    let within : node < length next =
    omega (arith, inside, count_of_parts design next (c.loop-node.invariant.parts ∙ c.requires.next)) in
    let within_stages : node < length stages =
    omega (arith, inside, count_of_stages design stages (c.loop-node.invariant.stages ∙ c.requires.stages)) in
    let done = c.in_ok-run.ensures in
    let old = slice_index_or parts node c.index-parts-node.result in
    let old_is = get_or_default parts node c.index-parts-node.result old within_parts in
    let rows =
    rows_by round parts node item old wired.sources.now c.run.new.self.rows within_parts old_is is.sources_are
    done.rows in
    let part =
    part_by round parts node item old wired.sources.now wired.taps.now c.run.new.self.rows c.run.new.part within_parts
    old_is is.sources_are is.taps_are rows done.frame done.outs in
    record {
      stepped =
          stepped_more round _ next stages node item c.run.new.part c.run.new.self within within_stages is.component_is
          part rows c.loop-node.invariant.stepped;
      parts =
          same_sizes part_size next node c.index_mut-in-loop-node.result.now c.run.new.part within
          c.index_mut-in-loop-node.ensures.value done.part_size ∙ c.loop-node.invariant.parts;
      stages =
          same_sizes stage_size stages node c.index_mut.result.now c.run.new.self within_stages
          c.index_mut.ensures.value done.stage_size ∙ c.loop-node.invariant.stages;
    }

pub returns-clause-stepped : goal.returns-clause-stepped
returns-clause-stepped c =
    λ n d is_d.
    c.loop-node.invariant.stepped n d
    (omega (
      arith,
      slice_get_within c.args.round.design.now.components n d is_d,
      ap length c.components-node-end.ensures.value,
      c.loop-node-test.false,
    )) is_d
