use Rattle.std.proofs.Common.{◌≡◌, ◌∙◌, ◌+◌, ◌∷◌, ◌++◌, [], false, take, replicate, sym, ap}
use Rattle.std.proofs.lemmas.List.{take_more}
use Rattle.pals_base.specs.ExpressionAndActionTrees.{Edge}
use Rattle.pals_base.specs.SingleStep.{is_complete}
use Rattle.annex_resolve.specs.proof.ReachabilityTables.{marked, table_by}
use Rattle.annex_resolve.proofs.TransitionTables.{table-none, table-marked, table-stays}
use Rattle.annex_resolve.proofs.cycles.Reachability.first.Goals.{then-not-is_complete, else-not-is_complete}
use Rattle.annex_resolve.proofs.cycles.Reachability.first.Goals as goal

pub loop-transition-init : goal.loop-transition-init
loop-transition-init c =
    c.in_ok-rows.ensures ∙ ap (λ n. replicate n (replicate n false)) c.len.ensures ∙ table-none c.args.parts.now

pub loop-transition-preserved : goal.loop-transition-preserved
loop-transition-preserved c =
    let parts = c.args.parts.now in
    let edges = c.as_slice-transitions.result.now in
    let index = c.loop-transition.transition-index in
    let edge = c.transition-item.result in
    let source = ap (λ (e : Edge). e.source) c.transition.view_is in
    let target = ap (λ (e : Edge). e.target) c.transition.view_is in
    let more : take (index + 1) edges ≡ take index edges ++ edge ∷ []
    =
    take_more edges index edge c.loop-transition-test.true
    ∙ ap (λ e. take index edges ++ e ∷ []) (sym c.transition-item.is) in
    elim c.if-not-is_complete.branch [
      | then-not-is_complete w ↦
          w.rows-is ∙ w.mark.ensures
          ∙ ap (λ s. marked c.loop-transition.rows s c.transition.inside.target) source
          ∙ ap (λ t. marked c.loop-transition.rows edge.source t) target
          ∙ ap (λ rows. marked rows edge.source edge.target) c.loop-transition.invariant
          ∙ table-marked parts (take index edges) edge
          (ap (is_complete parts) (sym source) ∙ sym c.is_complete.ensures ∙ w.if-not-is_complete.true)
          ∙ sym (ap (table_by parts) more)
      | else-not-is_complete w ↦
          w.rows-is ∙ c.loop-transition.invariant
          ∙ sym (table-stays parts (take index edges) edge
          (ap (is_complete parts) (sym source) ∙ sym c.is_complete.ensures ∙ w.if-not-is_complete.false))
          ∙ sym (ap (table_by parts) more)
    ]
