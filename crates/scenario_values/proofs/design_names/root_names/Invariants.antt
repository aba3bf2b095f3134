use Rattle.std.proofs.Common.{◌≡◌, ◌++◌, [], map, drop}
use Rattle.pals_model.specs.declared.design.Feed.{Feed}
use Rattle.pals_model.specs.ComponentInputs.{new_names}
use Rattle.scenario_values.proofs.design_names.root_names.Given as goal

-- the names so far, and the new ones among the names of the remaining feeds
abbrev pub invariant-loop-feed : goal.invariant-loop-feed
invariant-loop-feed l =
    l.names.keys ++ new_names l.names.keys (map (λ (feed : Feed). feed.name) (drop l.feed-index l.feeds))
    ≡ new_names [] (map (λ (feed : Feed). feed.name) l.feeds)
