use Rattle.std.proofs.Common.{◌≡◌, ◌≤◌, ◌*◌, ◌^◌, take, sum_by}
use Rattle.pals_model.specs.declared.design.Link.{Link}
use Rattle.pals_model.specs.PortKindsAndRates.{rate_of}
use Rattle.scenario_json.proofs.run_cell_count.of_links.Given as goal

-- the sum so far, none of whose summands is large
abbrev pub invariant-loop-link : goal.invariant-loop-link
invariant-loop-link l =
    (l.sum ≡ sum_by (λ (link : Link). rate_of l.design link.source.0) (take l.link-index l.links))
    × (l.sum ≤ 2 ^ 32 * l.link-index)
