use Rattle.std.proofs.Common.{rules, ◌≡◌, ◌∙◌, true, Bool, List, length, replicate, ap, sym, subst}
use Rattle.pals_model.specs.declared.design.Component.{Component}
use Rattle.triple_vote.specs.proof.ReplicaLayers.{IsOpened}
use Rattle.triple_vote.specs.proof.ThreeLayers.{AreOpened}
use Rattle.triple_vote.proofs.OpeningReplicas.{are_opened}
use Rattle.triple_vote.proofs.three_layers.opening_layers.Goals as goal

pub returns : goal.returns
returns c =
    let design = c.args.design.now in
    let replicated = c.args.replicated.now in
    let second = c.in_ok-second.second in
    let third = c.in_ok-third.third in
    let all : c.in_ok-all.all.items ≡ replicate (length c.components.result.now) true = search rules in
    let all_is : c.from_vec.result ≡ replicate (length design.components) true
    = c.from_vec.ensures ∙ all ∙ ap (λ (cs : List Component). replicate (length cs) true) c.components.ensures.value in
    subst (AreOpened design replicated) (sym c.in_ok-vec.ensures.items)
    (are_opened design replicated c.from_vec.result c.in_ok-first.first second third c.requires all_is
    c.in_ok-first.ensures
    (subst (λ (r : List Bool). IsOpened design r second) c.in_ok-marked.ensures c.in_ok-second.ensures)
    (subst (λ (r : List Bool). IsOpened design r third) c.in_ok-marked-2.ensures c.in_ok-third.ensures))
