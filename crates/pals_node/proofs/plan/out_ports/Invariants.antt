use Rattle.std.proofs.Common.{◌≡◌, ◌++◌, map, drop, nat_eq}
use Rattle.std.specs.Prelude.{filter}
use Rattle.pals_model.specs.declared.design.Link.{Link}
use Rattle.pals_node.proofs.plan.out_ports.Given as goal

-- the ports so far, and the ports of the remaining links
abbrev pub invariant-loop-link : goal.invariant-loop-link
invariant-loop-link l =
    l.ports ++ map (λ (link : Link). link.out_port)
    (filter (λ (link : Link). nat_eq link.source.0 l.node.0) (drop l.link-index l.link-items))
    ≡ map (λ (link : Link). link.out_port) (filter (λ (link : Link). nat_eq link.source.0 l.node.0) l.link-items)
