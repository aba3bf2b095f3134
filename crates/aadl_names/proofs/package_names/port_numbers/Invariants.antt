use Rattle.std.proofs.Common.{◌≡◌, ℕ, List, map, take}
use Rattle.aadl_tree.specs.proof.DeclarationViews.{feature_view}
use Rattle.aadl_tree.specs.proof.PlaceMaps.{kept_place}
use Rattle.aadl_names.specs.proof.NameTables.{value_of}
use Rattle.aadl_names.specs.NameResolution.{port_named}
use Rattle.aadl_names.proofs.package_names.port_numbers.Given as goal

abbrev pub invariant-loop-number : goal.invariant-loop-number
invariant-loop-number l =
    (name : List ℕ) → value_of l.table name ≡ port_named (map (feature_view kept_place) (take l.number l.ports)) name
