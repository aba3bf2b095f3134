use Rattle.std.proofs.Common.{◌+◌, arith, subst, sym}
use Rattle.aadl_tree.specs.proof.PackageViews.{placed}
use Rattle.aadl_chains.proofs.JoinedOutsideByDeclaration.{BackLed, no_back, back_next, back_none, back_all}
use Rattle.aadl_chains.proofs.ports_joined_outside.ports_of.Goals.{in-Some+in_ok-lead_if_used, in_default}
use Rattle.aadl_chains.proofs.ports_joined_outside.ports_of.Goals as goal

pub loop-at-init : goal.loop-at-init
loop-at-init c =
    let tree = placed c.args.wires.now.uses.names.tree.now in
    let keys = c.args.order.now.keys in
    subst (BackLed tree c.args.side.root c.args.side.direction keys 0) (sym c.new-ports.ensures)
    (no_back tree c.args.side.root c.args.side.direction keys)

pub loop-at-preserved : goal.loop-at-preserved
loop-at-preserved c =
    let tree = placed c.args.wires.now.uses.names.tree.now in
    let root = c.args.side.root in
    let d = c.args.side.direction in
    let keys = c.args.order.now.keys in
    let at = c.loop-at.at in
    elim c.match-get_index.branch [
      | in-Some+in_ok-lead_if_used w ↦
          subst (BackLed tree root d keys (at + 1)) (sym w.ports-is)
          (back_next tree root d keys c.requires.order at c.loop-at.ports c.loop-at.invariant _ _ _ (omega arith)
          (sym w.in-Some.ensures.key)
          w.in_ok-lead_if_used.ensures)
      | in_default w ↦
          subst (BackLed tree root d keys (at + 1)) (sym w.ports-is)
          (back_none tree root d keys c.requires.order at c.loop-at.ports c.loop-at.invariant _ c.loop-at.ports
          (omega arith) (sym w.in_default.ensures.key))
    ]

pub returns : goal.returns
returns c =
    back_all (placed c.args.wires.now.uses.names.tree.now) c.args.side.root c.args.side.direction c.args.order.now.keys
    c.requires.order c.loop-at.at c.loop-at.ports
    c.loop-at.invariant (omega arith)
