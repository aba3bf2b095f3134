use Rattle.std.proofs.Common.{◌∙◌}
use Rattle.aadl_tree.specs.proof.PackageViews.{placed}
use Rattle.aadl_tree.specs.proof.DeclarationViews.{implementation_view}
use Rattle.aadl_tree.specs.proof.PlaceMaps.{kept_place}
use Rattle.name_faults.proofs.NumberedImplementations.{type_is}
use Rattle.name_faults.proofs.implementations.check_outside_behaviours.Goals as goal

pub check_heading-requires : goal.check_heading-requires
check_heading-requires c =
    c.type_number.ensures ∙ type_is (placed c.args.wires.now.uses.names.tree.now) c.args.number
    (implementation_view kept_place c.args.x.now) c.requires
