use Rattle.std.proofs.Common.{◌≡◌, ◌++◌, map, drop, nat_eq}
use Rattle.pals_model.specs.declared.design.Link.{Link}
use Rattle.pals_base.specs.declared.basic_types.LinkNo.{LinkNo}
use Rattle.pals_model.proofs.FilteredLinks.{numbers_of}
use Rattle.pals_model.proofs.outgoing_links.links_from.Given as goal

-- the numbers so far, and the numbers among the remaining links
abbrev pub invariant-loop-number : goal.invariant-loop-number
invariant-loop-number l =
    map (λ (number : LinkNo). number.0) l.numbers
    ++ numbers_of (λ (link : Link). nat_eq link.source.0 l.node.0) l.number (drop l.number l.link-items)
    ≡ numbers_of (λ (link : Link). nat_eq link.source.0 l.node.0) 0 l.link-items
