use Rattle.std.proofs.Common.{◌≡◌, ◌+◌, ◌∷◌, map, drop, arith}
use Rattle.std.proofs.lemmas.Grind.{common_steps}
use Rattle.pals_model.specs.declared.design.Feed.{Feed}
use Rattle.pals_model.proofs.RootInputNames.{naming_step}
use Rattle.pals_model.proofs.port_sources.root_names.Goals as goal

pub loop-feed-preserved : goal.loop-feed-preserved
loop-feed-preserved c =
    let feeds = c.args.feeds.now in
    let at = c.loop-feed.feed-index in
    let item = c.feed-item.result in
    let split : drop at feeds ≡ item ∷ drop (at + 1) feeds = grind (arith, common_steps) in
    let before = rw split at c.loop-feed.invariant in
    rw (c.in_ok-insert.ensures.keys, c.in_ok-try_clone.ensures)
    (naming_step c.loop-feed.names.keys item.name (map (λ (feed : Feed). feed.name) (drop (at + 1) feeds)) _ before)
