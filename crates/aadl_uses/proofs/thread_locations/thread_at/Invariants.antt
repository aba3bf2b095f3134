use Rattle.aadl_tree.specs.proof.PackageViews.{placed}
use Rattle.aadl_uses.proofs.SubcomponentsAlongPaths.{Along}
use Rattle.aadl_uses.proofs.thread_locations.thread_at.Given as goal

abbrev pub invariant-loop-at : goal.invariant-loop-at
invariant-loop-at l = Along (placed l.uses.names.tree.now) l.root l.path l.at l.here l.names.bytes.items l.subs
