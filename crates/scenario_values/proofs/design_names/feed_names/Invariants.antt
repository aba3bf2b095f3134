use Rattle.std.proofs.Common.{◌≡◌, map, take, string_bytes}
use Rattle.pals_model.specs.declared.design.Feed.{Feed}
use Rattle.scenario_values.proofs.design_names.feed_names.Given as goal

abbrev pub invariant-loop-feed : goal.invariant-loop-feed
invariant-loop-feed l = map string_bytes l.names.items ≡ map (λ (f : Feed). f.name) (take l.feed-index l.feeds)
