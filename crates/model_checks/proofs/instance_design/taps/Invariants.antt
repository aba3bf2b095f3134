use Rattle.std.proofs.Common.{◌≡◌, map, take, Some}
use Rattle.design_laws.specs.InstanceDesigns.{all_of, tap_in}
use Rattle.model_checks.proofs.instance_design.taps.Given as goal

abbrev pub invariant-loop-chain : goal.invariant-loop-chain
invariant-loop-chain l = Some l.taps ≡ all_of (map tap_in (take l.chain-index l.chains))
