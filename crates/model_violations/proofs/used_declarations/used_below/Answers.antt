use Rattle.aadl_tree.specs.proof.PackageViews.{placed}
use Rattle.model_violations.proofs.NumberSets.{is_use}
use Rattle.model_violations.proofs.used_declarations.used_below.Goals as goal

pub returns : goal.returns
returns c = is_use (placed c.args.uses.now.names.tree.now) c.args.root c.in_ok-used.used.keys c.in_ok-used.ensures
