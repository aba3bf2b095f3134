use Rattle.std.proofs.Common.{◌≡◌, ◌++◌, map, filter, drop, nat_eq}
use Rattle.std.specs.List.{enumerate_from}
use Rattle.scenario_values.specs.NameLookup.{node_no}
use Rattle.analysis_fields.proofs.processors.nodes_of.Given as goal

-- the components so far, and the components among the remaining owners
abbrev pub invariant-loop-node : goal.invariant-loop-node
invariant-loop-node l =
    l.nodes ++ map (λ numbered. node_no numbered.0)
    (filter (λ numbered. nat_eq numbered.1 l.number) (enumerate_from l.node (drop l.node l.owners)))
    ≡ map (λ numbered. node_no numbered.0) (filter (λ numbered. nat_eq numbered.1 l.number) (enumerate_from 0 l.owners))
