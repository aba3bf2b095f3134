use Rattle.std.proofs.Common.{◌∙◌, sym}
use Rattle.aadl_tree.specs.proof.PackageViews.{placed}
use Rattle.aadl_chains.proofs.JoinedInsideByConnection.{thread_joined}
use Rattle.aadl_chains.proofs.ports_joined_inside.join_all.Goals as goal

pub returns-then-is_thread : goal.returns-then-is_thread
returns-then-is_thread c =
    thread_joined (placed c.args.wires.now.uses.names.tree.now) c.args.direction c.args.number c.args.ports.now
    (sym c.is_thread.ensures ∙ c.if-is_thread.true)
