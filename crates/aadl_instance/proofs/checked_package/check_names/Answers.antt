use Rattle.std.proofs.Common.{inr, subst}
use Rattle.aadl_tree.specs.proof.PackageViews.{placed}
use Rattle.aadl_names.specs.FirstFaults.{FirstOf}
use Rattle.aadl_names.specs.PackageNameFaults.{package_faults}
use Rattle.aadl_instance.proofs.FaultPrecedence.{name_fault}
use Rattle.aadl_instance.proofs.checked_package.check_names.Goals as goal

pub returns-in-Some : goal.returns-in-Some
returns-in-Some c = inr (name_fault (placed c.args.wires.uses.names.tree.now) c.args.root c.in-Some.fault
    (subst (FirstOf (package_faults (placed c.args.wires.uses.names.tree.now) c.args.root)) c.in-Some.is
    c.in_ok-fault.ensures))

pub check_recursion-requires-clause-names : goal.check_recursion-requires-clause-names
check_recursion-requires-clause-names c =
    subst (FirstOf (package_faults (placed c.args.wires.uses.names.tree.now) c.args.root)) c.in-None.is
    c.in_ok-fault.ensures
