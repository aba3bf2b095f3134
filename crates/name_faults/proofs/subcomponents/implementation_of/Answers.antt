use Rattle.std.proofs.Common.{◌∙◌, sym, ap}
use Rattle.std.specs.Option.{option_and_then}
use Rattle.aadl_tree.specs.proof.PackageViews.{placed}
use Rattle.aadl_names.specs.NameResolution.{implementation_at}
use Rattle.name_faults.proofs.subcomponents.implementation_of.Goals as goal

pub returns : goal.returns
returns c =
    c.implementation_at.ensures
    ∙ sym (ap (option_and_then (implementation_at (placed c.args.tree.now))) c.in_ok-number.was)
