use Rattle.std.proofs.Common.{◌∙◌}
use Rattle.aadl_tree.specs.proof.PackageViews.{placed}
use Rattle.aadl_tree.specs.proof.DeclarationViews.{implementation_view}
use Rattle.aadl_tree.specs.proof.PlaceMaps.{kept_place}
use Rattle.name_faults.proofs.TypePortNames.{roles_there}
use Rattle.name_faults.proofs.NumberedImplementations.{type_is}
use Rattle.name_faults.proofs.declarations.check_implementation.Goals as goal

pub check_behaviours-requires : goal.check_behaviours-requires
check_behaviours-requires c =
    let tree = placed c.args.wires.now.uses.names.tree.now in
    let x = implementation_view kept_place c.args.x.now in
    let is = c.type_number-of_type.ensures ∙ type_is tree c.args.number x c.requires.number in
    record {
      of_type = is;
      roles = roles_there tree c.args.all.now c.requires.all x c.type_number-of_type.result _ is c.names_at.ensures;
    }
