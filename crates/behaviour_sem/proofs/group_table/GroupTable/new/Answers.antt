use Rattle.std.proofs.Common.{◌∙◌, [], ◌∷◌, ◌++◌, sym, ap, take, arith}
use Rattle.std.specs.Prelude.{slice_index_or}
use Rattle.std.proofs.lemmas.List.{map_more}
use Rattle.pals_base.specs.ExpressionAndActionTrees.{Edge}
use Rattle.pals_base.specs.declared.behaviour.BehaviourParts.{BehaviourParts}
use Rattle.behaviour_sem.specs.proof.GroupedTransitions.{sources_of}
use Rattle.behaviour_sem.proofs.GroupedTransitions.{leaves-state, grown}
use Rattle.behaviour_sem.proofs.group_table.GroupTable.new.Goals as goal

pub add_number-requires : goal.add_number-requires
add_number-requires c =
    let b = c.args.behaviour.now in
    let at = c.loop-transition.transition-index in
    let items = c.as_slice-transition-items.result.now in
    let item = c.transition-item.result in
    let same = c.as_slice-transition-items.ensures.value
    ∙ ap (λ (p : BehaviourParts). p.transitions) c.parts-parts.ensures.value in
    let below = leaves-state b items at item same c.loop-transition-test.true c.transition-item.is
    c.parts-parts.ensures.rules in
    let is = ap (λ (e : Edge). e.source) c.transition.view_is in
    let len = c.loop-transition.invariant.len in
    omega (arith, below, is, len)

pub loop-transition-preserved : goal.loop-transition-preserved
loop-transition-preserved c =
    let at = c.loop-transition.transition-index in
    let items = c.as_slice-transition-items.result.now in
    let item = c.transition-item.result in
    let sources = c.loop-transition.sources in
    let source = c.transition.inside.source in
    let is = ap (λ (e : Edge). e.source) c.transition.view_is in
    let pushed = c.in_ok-push.ensures.ok in
    record {
      sources =
          pushed ∙ ap (λ l. l ++ source ∷ []) c.loop-transition.invariant.sources
          ∙ ap (λ s. sources_of (take at items) ++ s ∷ []) is
          ∙ ap (λ (e : Edge). sources_of (take at items) ++ e.source ∷ []) c.transition-item.is
          ∙ sym (map_more (λ (e : Edge). e.source) items at item c.loop-transition-test.true);
      len = c.in_ok-add_number.ensures.len ∙ c.loop-transition.invariant.len;
      groups = λ state. grown state c.len-number.result sources c.push.new.self source
          (slice_index_or c.add_number.new.groups state []) (slice_index_or c.loop-transition.groups state [])
          pushed (c.loop-transition.invariant.groups state) c.len-number.ensures
          (c.in_ok-add_number.ensures.added state);
    }
