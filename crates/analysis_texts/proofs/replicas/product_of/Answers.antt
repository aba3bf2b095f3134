use Rattle.std.proofs.Common.{◌≡◌, ◌∙◌, List, length, map, sym, ap, ap₂}
use Rattle.std.specs.Arc.{arc_value}
use Rattle.std.proofs.lemmas.Result.{IfOk-weaker}
use Rattle.pals_base.specs.UpwardNumbers.{upwards}
use Rattle.pals_base.proofs.UpwardNumbers.{length-map_upwards}
use Rattle.pals_model.specs.declared.design.Component.{Component}
use Rattle.pals_model.specs.declared.design.DesignParts.{DesignParts}
use Rattle.analysis_fields.specs.ReplicasAndTheirFaults.{is_among}
use Rattle.triple_vote.specs.proof.VotedStates.{VotedState, voted_begun}
use Rattle.analysis_texts.specs.ReplicasAndRoundFaults.{replicated_in}
use Rattle.analysis_texts.proofs.replicas.product_of.Goals as goal

pub new-requires-2 : goal.new-requires-2
new-requires-2 c =
    ap length c.in_ok-replicated.ensures
    ∙ length-map_upwards (is_among c.args.replicas.now) 0 (length c.components.result.now)
    ∙ ap length c.components.ensures.value
    ∙ ap (λ (d : DesignParts). length d.components) (sym c.in_ok-new.ensures.ok)

pub returns-clause-begun : goal.returns-clause-begun
returns-clause-begun c =
    let design = c.args.design in
    let replicas = c.args.replicas.now in
    let held = arc_value c.in_ok-new.field-0 in
    let marks = c.in_ok-replicated.replicated.items in
    let marked : marks ≡ replicated_in design replicas
    =
    c.in_ok-replicated.ensures
    ∙ ap (λ (cs : List Component). map (is_among replicas) (upwards 0 (length cs))) c.components.ensures.value in
    IfOk-weaker c.new-2.result (λ (product : VotedState). product ≡ voted_begun held marks)
    (λ (product : VotedState). product ≡ voted_begun design (replicated_in design replicas))
    (λ product is. is ∙ ap₂ voted_begun c.in_ok-new.ensures.ok marked) c.new-2.ensures
