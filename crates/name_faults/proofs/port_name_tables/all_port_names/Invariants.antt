use Rattle.std.proofs.Common.{map, take}
use Rattle.aadl_tree.specs.proof.DeclarationViews.{declaration_view}
use Rattle.aadl_tree.specs.proof.PlaceMaps.{kept_place}
use Rattle.name_faults.proofs.TypePortNames.{AreNamed}
use Rattle.name_faults.proofs.port_name_tables.all_port_names.Given as goal

-- the ports of the declarations so far have these names
abbrev pub invariant-loop-declaration : goal.invariant-loop-declaration
invariant-loop-declaration l =
    AreNamed (map (declaration_view kept_place) (take l.declaration-index l.declaration-items)) l.of_declarations
