use Rattle.std.proofs.Common.{◌≡◌, true, false, sym, ap, ◌∙◌, arith, Err}
use Rattle.std.proofs.lemmas.Grind.{common_steps}
use Rattle.analysis_fields.specs.contracts.replica_faults.FaultKeyPartialEq.TheImpl.{ghosts}
use Rattle.analysis_fields.proofs.DistinctReplicaFaults.{is_first, same_place, one_more, no_more}
use Rattle.analysis_fields.proofs.replica_faults.next_fault.Goals as goal

pub returns-then-not-first-clause-value : goal.returns-then-not-first-clause-value
returns-then-not-first-clause-value c =
    let old : false ≡ c.in_ok-first.first = grind (arith, common_steps) in
    let first =
    is_first ghosts.eq same_place c.in_ok-fault.fault c.args.faults.now c.key_of.result c.args.places.now.keys
    c.in_ok-first.first c.key_of.ensures c.requires c.in_ok-first.ensures.added in
    λ never. no_more _ _ _ _ _ c.in_ok-fault.ensures (old ∙ first) ∙ ap Err (sym (c.out_of_range.ensures never))

pub returns-clause-value : goal.returns-clause-value
returns-clause-value c =
    let new : true ≡ c.in_ok-first.first = grind (arith, common_steps) in
    let first =
    is_first ghosts.eq same_place c.in_ok-fault.fault c.args.faults.now c.key_of.result c.args.places.now.keys
    c.in_ok-first.first c.key_of.ensures c.requires c.in_ok-first.ensures.added in
    one_more _ _ _ _ _ c.in_ok-fault.ensures (new ∙ first)
