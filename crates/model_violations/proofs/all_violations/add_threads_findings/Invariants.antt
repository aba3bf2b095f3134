use Rattle.std.proofs.Common.{◌≡◌, ◌++◌, take}
use Rattle.std.specs.Prelude.{flat_map}
use Rattle.aadl_tree.specs.proof.PackageViews.{placed}
use Rattle.component_checks.specs.ThreadRatesAndFindings.{thread_findings}
use Rattle.model_violations.proofs.all_violations.add_threads_findings.Given as goal

abbrev pub invariant-loop-thread : goal.invariant-loop-thread
invariant-loop-thread l =
    l.found ≡ l.fn.found ++ flat_map (thread_findings (placed l.properties.uses.now.names.tree.now) l.root)
    (take l.thread-index l.threads)
