use Rattle.std.proofs.Common.{rules, ◌≡◌, ◌∙◌, false, true, length, replicate, ap, arith}
use Rattle.std.specs.Prelude.{slice_index_or, slice_set}
use Rattle.std.proofs.lemmas.List.{length-set}
use Rattle.list_lemmas.proofs.ListOperations.{take-written_whole}
use Rattle.pals_base.specs.declared.basic_types.NodeNo.{NodeNo}
use Rattle.analysis_texts.proofs.FaultAndReplicaTables.{marked_more, none_marked}
use Rattle.analysis_texts.proofs.replica_names.replicated.Goals as goal

pub loop-replica-init : goal.loop-replica-init
loop-replica-init c =
    let all : c.in_ok-marks.marks.items ≡ replicate c.args.count false = search rules in
    all ∙ none_marked c.args.count

pub loop-replica-preserved : goal.loop-replica-preserved
loop-replica-preserved c =
    let replicas = c.args.replicas.now in
    let at = c.loop-replica.replica-index in
    let none : NodeNo = record { 0 = 0 } in
    let node = (slice_index_or replicas at none).0 in
    let marks = c.loop-replica.marks in
    let new = c.mark.new.marks in
    let is : new ≡ slice_set marks.items node true = c.mark.ensures
    ∙ ap (λ ms. slice_set ms node true) c.deref_mut.ensures.value in
    take-written_whole marks.len new marks.items (omega arith) (ap length is ∙ length-set marks.items node true)
    ∙ is ∙ marked_more replicas at none c.args.count marks.items c.loop-replica-test.true c.loop-replica.invariant
