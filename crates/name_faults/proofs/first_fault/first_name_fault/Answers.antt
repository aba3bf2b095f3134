use Rattle.std.proofs.Common.{None, sym, ap, ◌∙◌}
use Rattle.aadl_tree.specs.proof.PackageViews.{placed}
use Rattle.aadl_names.specs.proof.FirstFaultSoFar.{found}
use Rattle.aadl_names.specs.PackageNameFaults.{wrong_names}
use Rattle.aadl_names.proofs.FirstFaultSoFar.{found_append}
use Rattle.aadl_names.specs.proof.DuplicatesBesidePorts.{beside_names}
use Rattle.aadl_names.proofs.FirstPackageFault.{first_fault}
use Rattle.name_faults.proofs.first_fault.first_name_fault.Goals as goal

pub returns : goal.returns
returns c =
    let tree = placed c.args.wires.now.uses.names.tree.now in
    first_fault tree c.args.root c.finish.result
    (c.finish.ensures ∙ (c.in_ok-check_duplicates.ensures
    ∙ (ap (λ o. found o (beside_names tree))
    (c.in_ok-check_declarations.ensures ∙ ap (λ o. found o (wrong_names tree c.args.root)) c.new-finder.ensures)
    ∙ sym (found_append None (wrong_names tree c.args.root) (beside_names tree)))))
