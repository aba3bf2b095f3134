use Rattle.std.proofs.Common.{◌≡◌, ◌++◌, map, drop}
use Rattle.aadl_tree.specs.proof.DeclarationViews.{connection_view}
use Rattle.aadl_tree.specs.proof.PlaceMaps.{kept_place}
use Rattle.aadl_names.specs.DuplicateNames.{entry_of}
use Rattle.name_faults.proofs.namespace_entries.add_connections.Given as goal

-- the remaining part is still to be added
abbrev pub invariant-loop-connection : goal.invariant-loop-connection
invariant-loop-connection l =
    l.initial.entries ++ map (λ d. entry_of d.name) (map (connection_view kept_place) l.connections) ≡ l.entries
    ++ map (λ d. entry_of d.name) (map (connection_view kept_place) (drop l.connection-index l.connections))
