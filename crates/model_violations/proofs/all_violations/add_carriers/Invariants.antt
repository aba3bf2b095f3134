use Rattle.std.proofs.Common.{◌≡◌, ℕ, ◌||◌, map, take}
use Rattle.model_violations.specs.ConnectionsAndCarriers.{carries}
use Rattle.model_violations.specs.Violations.{carrier_numbers}
use Rattle.model_violations.proofs.all_violations.add_carriers.Given as goal

abbrev pub invariant-loop-chain : goal.invariant-loop-chain
invariant-loop-chain l =
    (n i : ℕ) → carries l.carriers n i
    ≡ (carries l.fn.carriers n i || carries (map carrier_numbers (take l.chain-index l.chains)) n i)
