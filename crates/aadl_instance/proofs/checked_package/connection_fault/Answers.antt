use Rattle.std.proofs.Common.{subst}
use Rattle.aadl_tree.specs.proof.PackageViews.{placed}
use Rattle.aadl_uses.specs.proof.FirstRecursion.{FirstIn}
use Rattle.aadl_chains.specs.ChainFaults.{IsEndFault}
use Rattle.aadl_chains.proofs.PermittedConnections.{declared}
use Rattle.aadl_instance.proofs.FaultPrecedence.{end_fault}
use Rattle.aadl_instance.proofs.checked_package.connection_fault.Goals as goal

pub first_end_fault-requires-clause-order : goal.first_end_fault-requires-clause-order
first_end_fault-requires-clause-order c = c.requires.order

pub first_end_fault-requires-clause-used : goal.first_end_fault-requires-clause-used
first_end_fault-requires-clause-used c = c.requires.used

pub first_end_fault-requires-clause-declared : goal.first_end_fault-requires-clause-declared
first_end_fault-requires-clause-declared c =
    declared (placed c.args.checked.now.wires.uses.names.tree.now) c.args.checked.now.root c.requires.names

pub returns-in-Some : goal.returns-in-Some
returns-in-Some c =
    end_fault (placed c.args.checked.now.wires.uses.names.tree.now) c.args.checked.now.root c.in-Some.fault
    c.requires.names c.requires.recursion
    (subst (FirstIn (IsEndFault (placed c.args.checked.now.wires.uses.names.tree.now) c.args.checked.now.root))
    c.in-Some.is c.in_ok-fault.ensures)

pub limit_fault-requires-clause-ends : goal.limit_fault-requires-clause-ends
limit_fault-requires-clause-ends c =
    subst (FirstIn (IsEndFault (placed c.args.checked.now.wires.uses.names.tree.now) c.args.checked.now.root))
    c.in-None.is c.in_ok-fault.ensures
