use Rattle.std.proofs.Common.{◌≡◌, ◌∙◌, List, length, map, ap, ap₂}
use Rattle.std.proofs.lemmas.Result.{IfOk-weaker}
use Rattle.pals_base.specs.UpwardNumbers.{upwards}
use Rattle.pals_base.proofs.UpwardNumbers.{length-map_upwards}
use Rattle.pals_model.specs.declared.design.Component.{Component}
use Rattle.analysis_fields.specs.ReplicasAndTheirFaults.{is_among}
use Rattle.analysis_texts.specs.ReplicasAndRoundFaults.{replicated_in}
use Rattle.analysis_texts.specs.proof.ReplicaNamesAndLines.{all_names}
use Rattle.analysis_texts.proofs.replica_names.replica_names.Goals as goal

pub all_names-requires : goal.all_names-requires
all_names-requires c =
    ap length (c.as_slice.ensures.value ∙ c.in_ok-replicated.ensures)
    ∙ length-map_upwards (is_among c.args.replicas.now) 0 (length c.components-components.result.now)

pub returns : goal.returns
returns c =
    let design = c.args.design.now in
    let replicas = c.args.replicas.now in
    let same = c.components-components.ensures.value in
    let marked =
    c.as_slice.ensures.value ∙ c.in_ok-replicated.ensures
    ∙ ap (λ (cs : List Component). map (is_among replicas) (upwards 0 (length cs))) same in
    IfOk-weaker c.all_names.result
    (λ names. names.items ≡ all_names c.components-components.result.now c.as_slice.result.now)
    (λ names. names.items ≡ all_names design.components (replicated_in design replicas))
    (λ names is. is ∙ ap₂ all_names same marked) c.all_names.ensures
