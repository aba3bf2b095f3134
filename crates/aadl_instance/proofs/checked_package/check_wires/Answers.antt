use Rattle.std.proofs.Common.{inr, refl, subst}
use Rattle.aadl_tree.specs.proof.PackageViews.{placed}
use Rattle.aadl_instance.specs.declared.checked_package.Checked.{Checked}
use Rattle.aadl_instance.specs.proof.CheckedPackages.{FindsFault}
use Rattle.aadl_instance.proofs.Roots.{root_declared}
use Rattle.aadl_instance.proofs.checked_package.check_wires.Goals as goal

pub order-requires : goal.order-requires
order-requires c = c.requires.recursion

pub in_use-requires : goal.in_use-requires
in_use-requires c = root_declared (placed c.args.wires.uses.names.tree.now) c.args.root c.requires.root

pub connection_fault-requires : goal.connection_fault-requires
connection_fault-requires c = record {
  is_root = c.requires.root;
  order = c.in_ok-order.ensures;
  used = c.in_ok-used.ensures;
  names = c.requires.names;
  recursion = c.requires.recursion;
}

pub returns-in-Some : goal.returns-in-Some
returns-in-Some c =
    let checked : Checked = record {
      wires = c.args.wires;
      order = c.in_ok-order.order;
      used = c.in_ok-used.used;
      root = c.args.root;
    } in
    inr (subst (FindsFault (placed c.args.wires.uses.names.tree.now) checked) c.in-Some.is c.in_ok-fault.ensures)

pub returns : goal.returns
returns c =
    let checked : Checked = record {
      wires = c.args.wires;
      order = c.in_ok-order.order;
      used = c.in_ok-used.used;
      root = c.args.root;
    } in (
      refl,
      refl,
      subst (FindsFault (placed c.args.wires.uses.names.tree.now) checked) c.in-None.is
          c.in_ok-fault.ensures,
    )
