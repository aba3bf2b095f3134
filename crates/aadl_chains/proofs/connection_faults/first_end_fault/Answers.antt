use Rattle.std.proofs.Common.{◌+◌, None, arith, subst, sym}
use Rattle.aadl_tree.specs.proof.PackageViews.{placed}
use Rattle.aadl_uses.specs.proof.FirstRecursion.{FirstIn}
use Rattle.aadl_chains.specs.ChainFaults.{IsEndFault}
use Rattle.aadl_chains.specs.proof.FoundChainFaults.{FindsAll}
use Rattle.aadl_chains.proofs.FoundChainFaults.{FoundAmong, among_none, among_more, among_past, first_end}
use Rattle.aadl_chains.proofs.connection_faults.first_end_fault.Goals.{in-Some+in_ok-check_all, in_default}
use Rattle.aadl_chains.proofs.connection_faults.first_end_fault.Goals as goal

pub loop-at-init : goal.loop-at-init
loop-at-init c =
    let tree = placed c.args.wires.now.uses.names.tree.now in
    let keys = c.args.used.now.keys in
    subst (FindsAll (FoundAmong tree c.in_ok-ways.ways.root keys 0) None) (sym c.new-finder.ensures)
    (among_none tree c.in_ok-ways.ways.root keys None)

pub loop-at-preserved : goal.loop-at-preserved
loop-at-preserved c =
    let tree = placed c.args.wires.now.uses.names.tree.now in
    let root = c.in_ok-ways.ways.root in
    let keys = c.args.used.now.keys in
    let at = c.loop-at.at in
    elim c.match-get_index.branch [
      | in-Some+in_ok-check_all w ↦
          subst (FindsAll (FoundAmong tree root keys (at + 1)) None) (sym w.finder-is)
          (among_more tree root keys at _ None c.loop-at.finder _ (sym w.in-Some.ensures.key) c.loop-at.invariant
          w.in_ok-check_all.ensures)
      | in_default w ↦
          subst (FindsAll (FoundAmong tree root keys (at + 1)) None) (sym w.finder-is)
          (among_past tree root keys at None c.loop-at.finder (sym w.in_default.ensures.key) c.loop-at.invariant)
    ]

pub returns : goal.returns
returns c =
    let tree = placed c.args.wires.now.uses.names.tree.now in
    let root = c.args.root in
    let keys = c.args.used.now.keys in
    let finder = c.loop-at.finder in
    subst (FirstIn (IsEndFault tree root)) (sym c.finish.ensures)
    (first_end tree root keys c.requires.declared c.requires.used c.loop-at.at finder (omega arith)
    (subst (λ r. FindsAll (FoundAmong tree r keys c.loop-at.at) None finder) c.in_ok-ways.ensures.0
    c.loop-at.invariant))
