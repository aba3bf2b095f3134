use Rattle.std.proofs.Common.{◌∙◌, Some, ap}
use Rattle.aadl_tree.specs.proof.PackageViews.{placed}
use Rattle.aadl_tree.specs.proof.DeclarationViews.{declaration_view, implementation_view}
use Rattle.aadl_tree.specs.proof.PlaceMaps.{kept_place}
use Rattle.name_faults.proofs.NumberedImplementations.{type_is}
use Rattle.name_faults.proofs.duplicates_by_namespace.check_in.Goals as goal

pub check_in_implementation-requires : goal.check_in_implementation-requires
check_in_implementation-requires c =
    record {
      all = c.requires.all;
      of_type = c.type_number.ensures
          ∙ type_is (placed c.args.uses.now.names.tree.now) c.args.number
          (implementation_view kept_place c.in-Implementation.x)
          (c.requires.number ∙ ap (λ d. Some (declaration_view kept_place d)) c.in-Implementation.is);
    }
