use Rattle.std.proofs.Common.{◌≡◌, ◌<◌, ℕ, get_or, length, map}
use Rattle.aadl_tree.specs.proof.PlaceMaps.{kept_place}
use Rattle.aadl_tree.specs.proof.DeclarationViews.{feature_view}
use Rattle.aadl_instance.specs.InstancesByNumbers.{number_among}
use Rattle.aadl_instance.proofs.PortNumberTables.{AreSeen}
use Rattle.aadl_instance.proofs.port_numbers.row_of.Given as goal

-- the numbers of the ports so far, and the numbers of in and out ports among them
abbrev pub invariant-loop-port : goal.invariant-loop-port
invariant-loop-port l =
    (length l.row.items ≡ l.port-index)
    × ((k : ℕ) → k < l.port-index → get_or l.row.items k 0 ≡ number_among (map (feature_view kept_place) l.ports) k)
    × AreSeen l.ports l.port-index l.seen
