use Rattle.std.proofs.Common.{◌≡◌, ◌∙◌, ◌-◌, ◌++◌, ℕ, List, map, ap, arith}
use Rattle.std.specs.Prelude.{flat_map}
use Rattle.std.proofs.lemmas.List.{take_all}
use Rattle.pals_base.specs.declared.basic_types.LinkNo.{LinkNo}
use Rattle.pals_model.specs.IncomingAndOutgoingLinks.{links_from}
use Rattle.pals_model.specs.RoundTexts.{text_of}
use Rattle.bus_machine.specs.BusStates.{node_at}
use Rattle.loose_world.specs.SentLines.{message_lines}
use Rattle.loose_world.proofs.LinksFromNodes.{items_are, link_within}
use Rattle.loose_world.proofs.message_text.OutLinks.add_each.Goals as goal

pub add_message-requires : goal.add_message-requires
add_message-requires c =
    let design = c.args.bus.now.run.design in
    let same : c.self.inside.nodes ≡ c.args.self.now = cc in
    let items = c.as_slice-link-items.result.now in
    let none : LinkNo = record { 0 = 0 } in
    let are =
    items_are design c.self.inside.nodes c.args.self.now items c.index.result.now c.args.node.0 c.requires.links
    same c.requires.node c.as_slice-link-items.ensures.value c.index.ensures in
    link_within design c.args.node.0 items c.loop-link.link-index none are c.loop-link-test.true

pub returns-clause-ok : goal.returns-clause-ok
returns-clause-ok c =
    let b = c.args.bus.now in
    let old = c.args.out.now.items in
    let node = c.args.node.0 in
    let round = c.saturating_sub-round.result in
    let same : c.self.inside.nodes ≡ c.args.self.now = cc in
    let items = c.as_slice-link-items.result.now in
    let are =
    items_are b.run.design c.self.inside.nodes c.args.self.now items c.index.result.now node c.requires.links same
    c.requires.node c.as_slice-link-items.ensures.value c.index.ensures in
    let past = c.loop-link-test.false in
    let less = c.saturating_sub-round.ensures in
    let count = c.count.ensures in
    let last : round ≡ (node_at b.state node).count - 1 = omega (arith, less, count) in
    c.loop-link.invariant
    ∙ ap (λ (xs : List LinkNo). old ++ text_of (flat_map (message_lines b round) (map (λ (link : LinkNo). link.0) xs)))
    (take_all c.loop-link.link-index items past)
    ∙ ap (λ (ks : List ℕ). old ++ text_of (flat_map (message_lines b round) ks)) are
    ∙ ap (λ (r : ℕ). old ++ text_of (flat_map (message_lines b r) (links_from b.run.design node))) last
