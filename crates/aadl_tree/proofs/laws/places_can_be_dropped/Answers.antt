use Rattle.aadl_tree.specs.proof.PlaceMaps.{kept_place, no_place}
use Rattle.aadl_tree.proofs.PlaceMaps.Declarations.{package_tied}
use Rattle.aadl_tree.proofs.laws.places_can_be_dropped.Goals as goal

pub returns-clause-moved : goal.returns-clause-moved
returns-clause-moved c f tree = package_tied f kept_place tree

pub returns-clause-dropped : goal.returns-clause-dropped
returns-clause-dropped c tree = package_tied no_place kept_place tree
