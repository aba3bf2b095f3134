use Rattle.std.proofs.Common.{ap, arith, ◌∙◌, cond, Some, None}
use Rattle.aadl_tree.specs.Names.{same_name}
use Rattle.aadl_names.specs.proof.NameTables.{value_of}
use Rattle.aadl_names.specs.proof.EarliestDeclarations.{sooner, earliest}
use Rattle.aadl_names.proofs.EarliestDeclarations.{next_earliest, last_earliest}
use Rattle.aadl_names.proofs.earliest_by_name.earliest_of.Goals as goal

pub loop-number-init : goal.loop-number-init
loop-number-init c = λ name. ap (λ o. sooner o (earliest name 0 c.args.entries.now)) (c.new-table.ensures name)

pub loop-number-preserved : goal.loop-number-preserved
loop-number-preserved c = λ name.
    next_earliest name c.args.entries.now c.loop-number.number c.index-entries-number.result _ _ _ (omega arith)
    c.index-entries-number.is
    (c.in_ok-add_spot.ensures name ∙ ap (λ n. sooner (value_of c.loop-number.table name)
    (cond (same_name name n) (Some (record { number = c.loop-number.number; at = c.index-entries-number.result.at }))
    None)) c.as_str.ensures.value)
    (c.loop-number.invariant name)

pub returns : goal.returns
returns c =
    λ name. last_earliest name c.args.entries.now c.loop-number.number _ _ c.loop-number-test.false
    (c.loop-number.invariant name)
