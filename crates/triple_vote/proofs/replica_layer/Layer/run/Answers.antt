use Rattle.std.proofs.Common.{◌∙◌, Bool, List, subst}
use Rattle.pals_model.specs.declared.part.Part.{Part}
use Rattle.sync_product.specs.declared.component_stage.Stage.{Stage}
use Rattle.sync_product.specs.proof.Rounds.{frames_of}
use Rattle.triple_vote.specs.declared.replica_layer.Layer.{Layer}
use Rattle.triple_vote.specs.proof.ReplicaLayers.{AreRun, AreSent, AreWhole}
use Rattle.triple_vote.proofs.LayerTuples.{is_made}
use Rattle.triple_vote.proofs.replica_layer.Layer.run.Goals as goal

pub returns-clause-made : goal.returns-clause-made
returns-clause-made c =
    let design = c.args.round.design.now in
    let values = c.args.round.values.now in
    let received_messages = c.args.round.messages.now in
    let there = c.args.self.now.there in
    let parts = c.args.self.now.parts in
    let next = c.run_all.new.next in
    let stages = c.run_all.new.stages.items in
    let sent = c.send_all.new.sent in
    let shown = c.show_all.new.shown in
    let layer : Layer = record { there = there; parts = parts; next = next; sent = sent; shown = shown } in
    is_made design values received_messages layer stages
    (subst (λ (ps : List Part). AreRun design values received_messages there (frames_of ps) next stages)
    c.as_slice-2.ensures.value
    (subst (λ (t : List Bool). AreRun design values received_messages t (frames_of c.as_slice-2.result.now) next stages)
    c.as_slice.ensures.value c.in_ok-run_all.ensures.run))
    (c.in_ok-run_all.ensures.stages ∙ c.requires.stages)
    (subst (λ (ss : List Stage). AreSent design there ss sent) c.as_slice-3.ensures.value
    (subst (λ (t : List Bool). AreSent design t c.as_slice-3.result.now sent) c.as_slice-there.ensures.value
    c.send_all.ensures.sent))
    (subst (λ (ss : List Stage). AreWhole design there ss shown) c.as_slice-4.ensures.value
    (subst (λ (t : List Bool). AreWhole design t c.as_slice-4.result.now shown) c.as_slice-there.ensures.value
    c.show_all.ensures.shown))
