use Rattle.std.proofs.Common.{◌≡◌, ◌++◌, map, take}
use Rattle.std.specs.Prelude.{flat_map}
use Rattle.std.specs.List.{enumerate_from}
use Rattle.aadl_tree.specs.proof.DeclarationViews.{declaration_view}
use Rattle.aadl_tree.specs.proof.PlaceMaps.{kept_place}
use Rattle.aadl_tree.specs.proof.PackageViews.{placed}
use Rattle.model_violations.specs.ConnectionsAndCarriers.{carries}
use Rattle.model_violations.specs.UsedDeclarations.{has}
use Rattle.model_violations.specs.DeclarationFindings.{declaration_findings}
use Rattle.model_violations.proofs.declaration_findings.add_package_findings.Given as goal

abbrev pub invariant-loop-number : goal.invariant-loop-number
invariant-loop-number l =
    l.found ≡ l.fn.found ++ flat_map
    (declaration_findings (placed l.in_use.wires.now.uses.names.tree.now) l.in_use.root
    (has l.in_use.implementations.now.keys) (has l.in_use.types.now.keys) (carries l.in_use.carriers.now))
    (enumerate_from 0
    (map (declaration_view kept_place) (take l.number l.in_use.wires.now.uses.names.tree.now.declarations.items)))
