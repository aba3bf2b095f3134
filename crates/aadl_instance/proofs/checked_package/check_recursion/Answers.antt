use Rattle.std.proofs.Common.{inr, subst}
use Rattle.aadl_tree.specs.proof.PackageViews.{placed}
use Rattle.aadl_uses.specs.proof.FirstRecursion.{FirstIn}
use Rattle.aadl_uses.specs.Recursion.{IsRecursive}
use Rattle.aadl_instance.proofs.FaultPrecedence.{recursion_fault}
use Rattle.aadl_instance.proofs.checked_package.check_recursion.Goals as goal

pub returns-in-Some : goal.returns-in-Some
returns-in-Some c =
    inr (recursion_fault (placed c.args.wires.uses.names.tree.now) c.args.root c.in-Some.fault c.requires.names
    (subst (FirstIn (IsRecursive (placed c.args.wires.uses.names.tree.now))) c.in-Some.is c.in_ok-fault.ensures))

pub check_wires-requires-clause-recursion : goal.check_wires-requires-clause-recursion
check_wires-requires-clause-recursion c =
    subst (FirstIn (IsRecursive (placed c.args.wires.uses.names.tree.now))) c.in-None.is c.in_ok-fault.ensures
