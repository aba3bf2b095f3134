use Rattle.std.proofs.Common.{◌≡◌, ◌++◌, map, drop}
use Rattle.std.specs.List.{enumerate_from}
use Rattle.sync_product.specs.proof.ProductStates.{opening_part}
use Rattle.sync_product.proofs.opening.opening_parts.Given as goal

abbrev pub invariant-loop-node : goal.invariant-loop-node
invariant-loop-node l =
    l.parts ++ map (λ numbered. opening_part l.design numbered.0 numbered.1)
    (enumerate_from l.node (drop l.node l.component-items))
    ≡ map (λ numbered. opening_part l.design numbered.0 numbered.1) (enumerate_from 0 l.component-items)
