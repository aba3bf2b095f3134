use Rattle.std.proofs.Common.{◌≡◌, ◌++◌, take}
use Rattle.std.specs.Prelude.{flat_map}
use Rattle.model_violations.specs.ChainFindings.{tap_findings}
use Rattle.model_violations.specs.proof.ThreadRates.{tree_of}
use Rattle.model_violations.proofs.all_violations.add_taps_findings.Given as goal

abbrev pub invariant-loop-tap : goal.invariant-loop-tap
invariant-loop-tap l =
    l.found ≡ l.fn.found ++ flat_map (tap_findings (tree_of l.rated) l.rated.threads.now) (take l.tap-index l.taps)
