use Rattle.std.proofs.Common.{◌∙◌, sym}
use Rattle.aadl_tree.specs.proof.PlaceMaps.{kept_place}
use Rattle.aadl_tree.specs.proof.AnnexViews.{annex_view}
use Rattle.aadl_names.specs.BehaviourAnnexes.{behaviour_in}
use Rattle.model_violations.proofs.FilteredAndFirstItems.{first_here, first_later}
use Rattle.model_violations.proofs.thread_behaviour.first_behaviour.Goals as goal

pub returns-in-Some : goal.returns-in-Some
returns-in-Some c =
    sym (first_here behaviour_in (annex_view kept_place) c.args.annexes.now c.loop-annex.annex-index c.annex-item.result
    _ c.loop-annex-test.true c.annex-item.is (sym c.in-Some.ensures)) ∙ c.loop-annex.invariant

pub loop-annex-preserved : goal.loop-annex-preserved
loop-annex-preserved c =
    sym (first_later behaviour_in (annex_view kept_place) c.args.annexes.now c.loop-annex.annex-index
    c.annex-item.result c.loop-annex-test.true c.annex-item.is (sym c.in-None.ensures)) ∙ c.loop-annex.invariant
