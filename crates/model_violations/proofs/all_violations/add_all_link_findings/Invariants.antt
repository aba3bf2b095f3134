use Rattle.std.proofs.Common.{◌≡◌, ◌++◌, take}
use Rattle.std.specs.Prelude.{flat_map}
use Rattle.model_violations.specs.ChainFindings.{link_findings}
use Rattle.model_violations.specs.proof.ThreadRates.{tree_of}
use Rattle.model_violations.proofs.all_violations.add_all_link_findings.Given as goal

abbrev pub invariant-loop-link : goal.invariant-loop-link
invariant-loop-link l =
    l.found ≡ l.fn.found ++ flat_map (link_findings (tree_of l.rated) l.rated.threads.now l.rated.rates.now)
    (take l.link-index l.links)
