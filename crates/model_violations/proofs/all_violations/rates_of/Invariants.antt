use Rattle.std.proofs.Common.{◌≡◌, map, take}
use Rattle.aadl_tree.specs.proof.PackageViews.{placed}
use Rattle.component_checks.specs.ThreadRatesAndFindings.{thread_rate}
use Rattle.model_violations.proofs.all_violations.rates_of.Given as goal

abbrev pub invariant-loop-thread : goal.invariant-loop-thread
invariant-loop-thread l =
    l.rates ≡ map (thread_rate (placed l.properties.uses.now.names.tree.now) l.root) (take l.thread-index l.threads)
