use Rattle.std.proofs.Common.{◌≡◌, ◌≤◌, ◌*◌, ◌^◌, take, sum_by}
use Rattle.pals_model.specs.declared.design.Tap.{Tap}
use Rattle.pals_model.specs.PortKindsAndRates.{rate_of}
use Rattle.scenario_json.proofs.run_cell_count.of_taps.Given as goal

-- the sum so far, none of whose summands is large
abbrev pub invariant-loop-tap : goal.invariant-loop-tap
invariant-loop-tap l =
    (l.sum ≡ sum_by (λ (tap : Tap). rate_of l.design tap.source.0) (take l.tap-index l.taps))
    × (l.sum ≤ 2 ^ 32 * l.tap-index)
