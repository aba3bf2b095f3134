use Rattle.std.proofs.Common.{◌≡◌, ◌∙◌, ℕ, List, ap, sym, length, map, slice_index_or, arith}
use Rattle.std.proofs.lemmas.List.{length-map, get_or-map}
use Rattle.list_lemmas.proofs.ListOperations.{filled_more}
use Rattle.pals_base.specs.declared.basic_types.PortValue.{PortValue}
use Rattle.pals_base.specs.Tuples.{column}
use Rattle.pals_base.proofs.ColumnsAndCutTuples.{cut_whole}
use Rattle.sync_product.proofs.SizePreservingWrites.{same_sizes}
use Rattle.sync_product.proofs.PortColumns.{length-column}
use Rattle.sync_product.proofs.TupleLengths.{size_of_out, count_of_outs}
use Rattle.sync_product.proofs.component_stage.write_taps.Goals as goal

pub write_port_tuple-requires : goal.write_port_tuple-requires
write_port_tuple-requires c =
    size_of_out c.loop-at.outs c.args.taps.now (length c.args.rows.now) c.loop-at.at c.index_mut.result.now
    (c.loop-at.invariant.sizes ∙ c.requires) c.loop-at-test.true c.index_mut.ensures.value

pub loop-at-preserved : goal.loop-at-preserved
loop-at-preserved c =
    let at = c.loop-at.at in
    let outs = c.loop-at.outs in
    let rows = c.args.rows.now in
    let taps = c.args.taps.now in
    let out = c.index_mut.result.now in
    let tuple = c.write_port_tuple.new.to in
    let port = slice_index_or taps at 0 in
    let sizes = c.loop-at.invariant.sizes ∙ c.requires in
    let whole : tuple ≡ column port rows = c.write_port_tuple.ensures
    ∙ cut_whole (length rows) (column port rows) (omega (arith, length-column rows port)) in
    let same : length tuple ≡ length out = ap length whole ∙ length-column rows port
    ∙ sym (size_of_out outs taps (length rows) at out sizes c.loop-at-test.true c.index_mut.ensures.value) in
    let count = count_of_outs outs taps (length rows) sizes in
    let wanted = map (λ (p : ℕ). column p rows) taps in
    let many : length wanted ≡ length taps = length-map taps (λ (p : ℕ). column p rows) in
    let item = whole ∙ sym (get_or-map (λ (p : ℕ). column p rows) taps at 0 tuple c.loop-at-test.true) in
    record {
      sizes =
          same_sizes (λ (t : List PortValue). length t) outs at out tuple (omega arith) c.index_mut.ensures.value same
          ∙ c.loop-at.invariant.sizes;
      done = filled_more outs wanted at tuple (omega arith) (omega arith) item c.loop-at.invariant.done;
    }
