use Rattle.std.proofs.Common.{◌+◌, arith, subst, sym}
use Rattle.aadl_tree.specs.proof.PackageViews.{placed}
use Rattle.aadl_chains.proofs.JoinedInsideByDeclaration.{FrontInside, no_front, front_more, front_past, front_all}
use Rattle.aadl_chains.proofs.ports_joined_inside.ports_of.Goals.{in-Some+in_ok-join_all, in_default}
use Rattle.aadl_chains.proofs.ports_joined_inside.ports_of.Goals as goal

pub loop-at-init : goal.loop-at-init
loop-at-init c =
    let tree = placed c.args.wires.now.uses.names.tree.now in
    subst (FrontInside tree c.args.direction c.args.order.now.keys 0) (sym c.new-ports.ensures)
    (no_front tree c.args.direction c.args.order.now.keys)

pub loop-at-preserved : goal.loop-at-preserved
loop-at-preserved c =
    let tree = placed c.args.wires.now.uses.names.tree.now in
    let d = c.args.direction in
    let keys = c.args.order.now.keys in
    let at = c.loop-at.at in
    elim c.match-get_index.branch [
      | in-Some+in_ok-join_all w ↦
          subst (FrontInside tree d keys (at + 1)) (sym w.ports-is)
          (front_more tree d keys at _ c.loop-at.ports _ c.requires (sym w.in-Some.ensures.key) w.in_ok-join_all.ensures
          c.loop-at.invariant)
      | in_default w ↦
          subst (FrontInside tree d keys (at + 1)) (sym w.ports-is)
          (front_past tree d keys at c.loop-at.ports (sym w.in_default.ensures.key) c.loop-at.invariant)
    ]

pub returns : goal.returns
returns c =
    front_all (placed c.args.wires.now.uses.names.tree.now) c.args.direction c.args.order.now.keys c.loop-at.at
    c.loop-at.ports c.requires (omega arith)
    c.loop-at.invariant
