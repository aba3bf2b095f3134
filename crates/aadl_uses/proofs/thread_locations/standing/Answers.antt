use Rattle.std.proofs.Common.{◌∙◌, sym, refl}
use Rattle.aadl_tree.specs.proof.PackageViews.{placed}
use Rattle.aadl_uses.proofs.SubcomponentsAlongPaths.{next_none}
use Rattle.aadl_uses.proofs.thread_locations.standing.Goals as goal

pub returns-in_err-here : goal.returns-in_err-here
returns-in_err-here c =
    c.from_residual.ensures
    ∙ sym (next_none (placed c.args.uses.now.names.tree.now) c.args.root c.args.path.now c.loop-sub.sub-index _
    c.loop-sub.here c.loop-sub-test.true refl c.loop-sub.invariant c.in_err-here.ensures)
