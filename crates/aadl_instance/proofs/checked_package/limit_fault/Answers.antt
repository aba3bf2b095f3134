use Rattle.std.proofs.Common.{◌∙◌, subst}
use Rattle.aadl_tree.specs.proof.PackageViews.{placed}
use Rattle.aadl_chains.proofs.PermittedConnections.{declared}
use Rattle.aadl_instance.specs.proof.Limits.{IsFirstExceeded}
use Rattle.aadl_instance.proofs.FaultPrecedence.{silent_five, all_silent, limit_fault}
use Rattle.aadl_instance.proofs.Roots.{root_no_thread, root_declared}
use Rattle.aadl_instance.proofs.checked_package.limit_fault.Goals as goal

pub first_limit-requires-clause-order : goal.first_limit-requires-clause-order
first_limit-requires-clause-order c = c.requires.ordered.order

pub first_limit-requires-clause-used : goal.first_limit-requires-clause-used
first_limit-requires-clause-used c = c.requires.ordered.used

pub first_limit-requires-clause-declared : goal.first_limit-requires-clause-declared
first_limit-requires-clause-declared c =
    declared (placed c.args.checked.now.wires.uses.names.tree.now) c.args.checked.now.root c.requires.ordered.names

pub first_limit-requires-clause-ends : goal.first_limit-requires-clause-ends
first_limit-requires-clause-ends c = c.requires.ends

pub first_limit-requires-clause-root : goal.first_limit-requires-clause-root
first_limit-requires-clause-root c =
    root_declared (placed c.args.checked.now.wires.uses.names.tree.now) c.args.checked.now.root
    c.requires.ordered.is_root

pub first_limit-requires-clause-no_thread : goal.first_limit-requires-clause-no_thread
first_limit-requires-clause-no_thread c =
    root_no_thread (placed c.args.checked.now.wires.uses.names.tree.now) c.args.checked.now.root
    c.requires.ordered.is_root

pub returns-in_ok-what-in-Some : goal.returns-in_ok-what-in-Some
returns-in_ok-what-in-Some c =
    let tree = placed c.args.checked.now.wires.uses.names.tree.now in
    let o = c.requires.ordered in
    let first = subst (IsFirstExceeded tree c.args.checked.now.root) c.in-Some.is c.in_ok-limit.ensures in
    limit_fault tree c.args.checked.now.root c.in-Some.limit _
    (silent_five tree c.args.checked.now.root o.names o.recursion c.requires.ends)
    (c.in_ok-what-in-Some.ensures ∙ c.name.ensures) first.0 first.1

pub returns-in-None : goal.returns-in-None
returns-in-None c =
    let tree = placed c.args.checked.now.wires.uses.names.tree.now in
    let o = c.requires.ordered in
    record {
      ordered = o;
      silent =
          all_silent tree c.args.checked.now.root
          (silent_five tree c.args.checked.now.root o.names o.recursion c.requires.ends)
          (subst (IsFirstExceeded tree c.args.checked.now.root) c.in-None.is c.in_ok-limit.ensures);
    }
