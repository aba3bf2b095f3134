use Rattle.std.proofs.Common.{◌∙◌}
use Rattle.aadl_tree.specs.proof.PlaceMaps.{kept_place}
use Rattle.aadl_tree.specs.proof.AnnexViews.{annex_tree_view}
use Rattle.annex_resolve.proofs.AnnexFindings.{annex_found}
use Rattle.annex_resolve.proofs.annex.resolve_annex.Goals as goal

pub returns-clause-found : goal.returns-clause-found
returns-clause-found c =
    annex_found c.args.values c.args.scope.now c.args.at (annex_tree_view kept_place c.args.annex.now) _
    c.as_slice.result.now c.as_slice-2.result.now c.as_slice-3.result.now c.in_ok-edges.edges c.in_ok-parts.parts
    c.args.found.now _ _
    c.transitions_of-transitions.ensures (c.as_slice.ensures.value ∙ c.in_ok-states.ensures)
    (c.as_slice-2.ensures.value ∙ c.in_ok-states.ensures) (c.as_slice-3.ensures.value ∙ c.in_ok-states.ensures)
    c.in_ok-edges.ensures.edges c.in_ok-parts.ensures c.in_ok-edges.ensures.found c.in_ok-add_rules.ensures
