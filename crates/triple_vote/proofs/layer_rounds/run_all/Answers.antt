use Rattle.std.proofs.Common.{◌∙◌, ap, sym, length, slice_index_or, arith}
use Rattle.std.proofs.lemmas.List.{get_or_default}
use Rattle.std.proofs.lemmas.Option.{slice_get_within}
use Rattle.pals_base.specs.StepSequences.{frame_after, outputs}
use Rattle.pals_model.specs.declared.part.Part.{Part}
use Rattle.sync_product.specs.proof.ProductSizes.{PartSize, frame_size, part_size, stage_size}
use Rattle.sync_product.specs.proof.Rounds.{frames_of, vectors}
use Rattle.sync_product.proofs.SizePreservingWrites.{same_sizes}
use Rattle.triple_vote.proofs.TupleLengths.{stage_within}
use Rattle.triple_vote.proofs.LayerSteps.{run_skip, run_more, frame_by, rows_by, component_is, node_within, part_within}
use Rattle.triple_vote.proofs.LayerSteps.{part_room, stage_room, sources_within, sources_are, sources_count}
use Rattle.triple_vote.proofs.layer_rounds.run_all.Goals as goal

pub loop-node-preserved-then-not-there-node : goal.loop-node-preserved-then-not-there-node
loop-node-preserved-then-not-there-node c =
    let round = c.args.round in
    let items = c.components-component-items.result.now in
    let node = c.loop-node.node in
    let item = c.component-item.result in
    record {
      run =
          run_skip round.design.now round.values.now round.messages.now c.args.there.now (frames_of c.args.parts.now)
          c.loop-node.next c.loop-node.stages.items node item
          (component_is round.design.now items node item c.components-component-items.ensures.value
          c.loop-node-test.true c.component-item.is) c.loop-node.invariant.run
          c.if-not-there-node.true;
      next = c.loop-node.invariant.next;
      stages = c.loop-node.invariant.stages;
    }

pub index_mut-requires : goal.index_mut-requires
index_mut-requires c =
    let design = c.args.round.design.now in
    let there =
    node_within design c.components-component-items.result.now c.loop-node.node c.component-item.result
    c.components-component-items.ensures.value c.loop-node-test.true
    c.component-item.is in
    let within =
    stage_within design c.loop-node.stages.items (c.loop-node.invariant.stages ∙ c.requires.stages)
    c.loop-node.node there in
    omega (arith, within, c.loop-node.stages.ok.0)

pub bounds-sources-node : goal.bounds-sources-node
bounds-sources-node c =
    sources_within c.args.round.design.now c.components-component-items.result.now c.loop-node.node
    c.component-item.result c.components-component-items.ensures.value c.loop-node-test.true
    c.component-item.is c.args.sources.now c.requires.sources

pub index_mut-requires-in-loop-node : goal.index_mut-requires-in-loop-node
index_mut-requires-in-loop-node c =
    part_within c.args.round.design.now c.components-component-items.result.now c.loop-node.node c.component-item.result
    c.components-component-items.ensures.value c.loop-node-test.true
    c.component-item.is c.loop-node.next (c.loop-node.invariant.next ∙ c.requires.next)

pub run-requires-clause-stage : goal.run-requires-clause-stage
run-requires-clause-stage c =
    stage_room c.args.round.design.now c.components-component-items.result.now c.loop-node.node c.component-item.result
    c.components-component-items.ensures.value c.loop-node-test.true
    c.component-item.is c.loop-node.stages.items c.index_mut.result.now
    (c.loop-node.invariant.stages ∙ c.requires.stages) c.index_mut.ensures.value

pub run-requires-clause-sources : goal.run-requires-clause-sources
run-requires-clause-sources c =
    let design = c.args.round.design.now in
    let items = c.components-component-items.result.now in
    let node = c.loop-node.node in
    let item = c.component-item.result in
    let same = c.components-component-items.ensures.value in
    let table = c.args.sources.now in
    sources_count design items node item same c.loop-node-test.true c.component-item.is c.as_slice.result.now
    (c.as_slice.ensures.value
    ∙ sources_are design items node item same c.loop-node-test.true c.component-item.is table
    c.index-sources-node.result c.requires.sources c.index-sources-node.is)

pub run-requires-clause-from : goal.run-requires-clause-from
run-requires-clause-from c =
    ap (λ (p : Part). frame_size p.frame) (sym c.index-parts-node.is)
    ∙ ap (λ (s : PartSize). s.frame)
    (part_room c.args.round.design.now c.components-component-items.result.now c.loop-node.node c.component-item.result
    c.components-component-items.ensures.value c.loop-node-test.true
    c.component-item.is c.args.parts.now c.index-parts-node.result c.requires.parts c.index-parts-node.is)

pub run-requires-clause-part : goal.run-requires-clause-part
run-requires-clause-part c =
    part_room c.args.round.design.now c.components-component-items.result.now c.loop-node.node c.component-item.result
    c.components-component-items.ensures.value c.loop-node-test.true
    c.component-item.is c.loop-node.next c.index_mut-in-loop-node.result.now
    (c.loop-node.invariant.next ∙ c.requires.next) c.index_mut-in-loop-node.ensures.value

pub returns-in_err-run-clause-next : goal.returns-in_err-run-clause-next
returns-in_err-run-clause-next c =
    let within =
    part_within c.args.round.design.now c.components-component-items.result.now c.loop-node.node
    c.component-item.result c.components-component-items.ensures.value
    c.loop-node-test.true c.component-item.is c.loop-node.next (c.loop-node.invariant.next ∙ c.requires.next) in
    same_sizes part_size c.loop-node.next c.loop-node.node c.index_mut-in-loop-node.result.now c.run.new.part within
    c.index_mut-in-loop-node.ensures.value
    c.in_err-run.ensures.part_size ∙ c.loop-node.invariant.next

pub returns-in_err-run-clause-stages : goal.returns-in_err-run-clause-stages
returns-in_err-run-clause-stages c =
    let design = c.args.round.design.now in
    let there =
    node_within design c.components-component-items.result.now c.loop-node.node c.component-item.result
    c.components-component-items.ensures.value c.loop-node-test.true
    c.component-item.is in
    let within =
    stage_within design c.loop-node.stages.items (c.loop-node.invariant.stages ∙ c.requires.stages)
    c.loop-node.node there in
    same_sizes stage_size c.loop-node.stages.items c.loop-node.node c.index_mut.result.now c.run.new.self within
    c.index_mut.ensures.value c.in_err-run.ensures.stage_size
    ∙ c.loop-node.invariant.stages

pub loop-node-preserved : goal.loop-node-preserved
loop-node-preserved c =
    let round = c.args.round in
    let design = round.design.now in
    let values = round.values.now in
    let received_messages = round.messages.now in
    let items = c.components-component-items.result.now in
    let node = c.loop-node.node in
    let item = c.component-item.result in
    let same = c.components-component-items.ensures.value in
    let inside = c.loop-node-test.true in
    let item_is = c.component-item.is in
    let parts = c.args.parts.now in
    let next = c.loop-node.next in
    let stages = c.loop-node.stages.items in
    let within_parts = part_within design items node item same inside item_is parts c.requires.parts in
    let within =
    part_within design items node item same inside item_is next (c.loop-node.invariant.next ∙ c.requires.next) in
    let within_stages =
    stage_within design stages (c.loop-node.invariant.stages ∙ c.requires.stages) node
    (node_within design items node item same inside item_is) in
    let sources = c.as_slice.ensures.value
    ∙ sources_are design items node item same inside item_is c.args.sources.now c.index-sources-node.result
    c.requires.sources c.index-sources-node.is in
    let done = c.in_ok-run.ensures in
    let old = slice_index_or parts node c.index-parts-node.result in
    let old_is = get_or_default parts node c.index-parts-node.result old within_parts in
    let frame = frame_by design values received_messages parts node item old within_parts old_is c.run.new.part.frame
    (done.frame ∙ ap (λ ss. frame_after item.behaviour old.frame (vectors round item ss)) sources) in
    let rows = rows_by design values received_messages parts node item old within_parts old_is c.run.new.self.rows
    (done.rows ∙ ap (λ ss. outputs item.behaviour old.frame (vectors round item ss)) sources) in
    record {
      run =
          run_more design values received_messages c.args.there.now (frames_of parts) next stages node item
          (component_is design items node item same inside item_is)
          c.loop-node.invariant.run c.run.new.part c.run.new.self within within_stages frame rows;
      next =
          same_sizes part_size next node c.index_mut-in-loop-node.result.now c.run.new.part within
          c.index_mut-in-loop-node.ensures.value done.part_size
          ∙ c.loop-node.invariant.next;
      stages =
          same_sizes stage_size stages node c.index_mut.result.now c.run.new.self within_stages
          c.index_mut.ensures.value done.stage_size
          ∙ c.loop-node.invariant.stages;
    }

pub returns-clause-run : goal.returns-clause-run
returns-clause-run c =
    λ n d is_d.
    c.loop-node.invariant.run n d
    (omega (
      arith,
      slice_get_within c.args.round.design.now.components n d is_d,
      ap length c.components-component-items.ensures.value,
      c.loop-node-test.false,
    )) is_d
