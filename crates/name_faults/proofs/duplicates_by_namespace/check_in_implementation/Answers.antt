use Rattle.aadl_tree.specs.proof.PackageViews.{placed}
use Rattle.name_faults.proofs.TypePortNames.{names_there}
use Rattle.name_faults.proofs.duplicates_by_namespace.check_in_implementation.Goals as goal

pub check_port_duplicates-requires : goal.check_port_duplicates-requires
check_port_duplicates-requires c =
    names_there (placed c.args.tree.now) c.args.all.now c.requires.all c.args.of_type _ _ c.ports_at.ensures
    c.names_at.ensures
