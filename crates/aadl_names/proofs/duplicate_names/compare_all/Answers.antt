use Rattle.std.proofs.Common.{refl}
use Rattle.std.specs.List.{flat_map}
use Rattle.aadl_names.specs.DuplicateNames.{again}
use Rattle.aadl_names.proofs.FirstFaultSoFar.{next_found}
use Rattle.aadl_names.proofs.duplicate_names.compare_all.Goals as goal

pub loop-entry-preserved : goal.loop-entry-preserved
loop-entry-preserved c =
    let xs = c.args.entries.now in
    next_found (λ ys. flat_map (again xs) ys) (again xs) (λ y ys. refl) _ _ _ _ _ _ c.loop-entry-test.true
    c.entry-item.is c.loop-entry.invariant c.in_ok-compare_entry.ensures
