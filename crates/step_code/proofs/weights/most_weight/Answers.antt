use Rattle.std.proofs.Common.{◌∙◌, None, refl, slice_index_or}
use Rattle.step_code.proofs.CappedWeights.{weight_more, member_at}
use Rattle.step_code.proofs.weights.most_weight.Goals as goal

pub entry_weight-requires-clause-entry : goal.entry_weight-requires-clause-entry
entry_weight-requires-clause-entry c =
    member_at c.args.parts.now.entries c.as_slice-entry-items.result.now c.loop-entry.entry-index
    (slice_index_or c.as_slice-entry-items.result.now c.loop-entry.entry-index None)
    c.as_slice-entry-items.ensures.value c.loop-entry-test.true refl

pub loop-entry-preserved : goal.loop-entry-preserved
loop-entry-preserved c =
    c.max-most.ensures
    ∙ weight_more c.args.parts.now.instrs c.args.parts.now.entries c.as_slice-entry-items.result.now
    c.loop-entry.entry-index c.loop-entry.most c.entry_weight.result
    (slice_index_or c.as_slice-entry-items.result.now c.loop-entry.entry-index None)
    c.as_slice-entry-items.ensures.value c.loop-entry-test.true refl c.loop-entry.invariant c.entry_weight.ensures
