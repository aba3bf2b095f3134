use Rattle.std.proofs.Common.{refl, sym, ap, ◌∙◌}
use Rattle.std.specs.List.{flat_map}
use Rattle.aadl_names.specs.proof.FirstFaultSoFar.{found}
use Rattle.aadl_names.specs.proof.EarliestDeclarations.{again_by}
use Rattle.aadl_names.specs.DuplicateNames.{again}
use Rattle.aadl_names.proofs.FirstFaultSoFar.{next_found}
use Rattle.aadl_names.proofs.EarliestDeclarations.{again-earliest}
use Rattle.aadl_names.proofs.duplicate_names.look_up_all.Goals as goal

pub loop-entry-preserved : goal.loop-entry-preserved
loop-entry-preserved c =
    let xs = c.args.entries.now in
    let x = c.entry-item.result in
    next_found (λ ys. flat_map (again xs) ys) (again xs) (λ y ys. refl) _ _ _ _ _ _ c.loop-entry-test.true
    c.entry-item.is c.loop-entry.invariant
    (c.in_ok-check_entry.ensures
    ∙ ap (found c.loop-entry.finder)
    (ap (λ o. again_by o x) (c.in_ok-table.ensures x.name) ∙ sym (again-earliest xs x)))
