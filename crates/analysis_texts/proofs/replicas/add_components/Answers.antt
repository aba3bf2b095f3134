use Rattle.std.proofs.Common.{◌≡◌, ◌∙◌, ℕ, ◌+◌, ◌++◌, ◌∷◌, List, length, drop, refl, sym, ap, arith}
use Rattle.std.proofs.lemmas.List.{drop_more}
use Rattle.list_lemmas.proofs.ListOperations.{length-map_enumerate_from}
use Rattle.list_lemmas.proofs.ElementPositions.{slice_get-map_enumerate}
use Rattle.pals_model.specs.declared.design.Component.{Component}
use Rattle.pals_model.specs.declared.design.DesignParts.{DesignParts}
use Rattle.pals_model.specs.RoundTexts.{text_of}
use Rattle.triple_vote.specs.VotedComposition.{is_replicated, frame_at}
use Rattle.triple_vote.specs.VotedText.{replica_lines}
use Rattle.sync_product.proofs.ComponentLists.{entry_at, item_at}
use Rattle.pals_report.proofs.RowLines.{lines_turn}
use Rattle.analysis_texts.specs.proof.ReplicaNamesAndLines.{names_of, all_names, all_lines}
use Rattle.analysis_texts.proofs.replicas.add_components.Goals as goal

pub bounds-names-node : goal.bounds-names-node
bounds-names-node c =
    let product = c.args.product.now in
    let same = c.components-components.ensures.value ∙ ap (λ (d : DesignParts). d.components) c.design.ensures in
    omega (
      arith,
      ap length c.requires,
      length-map_enumerate_from (λ (numbered : ℕ × Component).
          names_of numbered.1.path (is_replicated product.replicated numbered.0)) 0 product.design.components,
      ap length same,
      c.loop-node-test.true,
    )

pub add_replicas-requires-clause-names : goal.add_replicas-requires-clause-names
add_replicas-requires-clause-names c =
    let product = c.args.product.now in
    let components = product.design.components in
    let node = c.loop-node.node in
    let component = c.index-components-node.result in
    let same = c.components-components.ensures.value ∙ ap (λ (d : DesignParts). d.components) c.design.ensures in
    let is =
    item_at components c.components-components.result.now node component same c.loop-node-test.true
    c.index-components-node.is in
    c.as_slice-names.ensures.value
    ∙ entry_at c.args.names.now (all_names components product.replicated) node c.index-names-node.result
    (names_of component.path (is_replicated product.replicated node)) c.requires
    (slice_get-map_enumerate
    (λ (numbered : ℕ × Component). names_of numbered.1.path (is_replicated product.replicated numbered.0))
    components node component is)
    c.index-names-node.is

pub loop-node-preserved : goal.loop-node-preserved
loop-node-preserved c =
    let product = c.args.product.now in
    let components = product.design.components in
    let items = c.components-components.result.now in
    let node = c.loop-node.node in
    let component = c.index-components-node.result in
    let frame = frame_at product.voted in
    let out = c.loop-node.text.items in
    let same : items ≡ components = c.components-components.ensures.value
    ∙ ap (λ (d : DesignParts). d.components) c.design.ensures in
    let split : drop node components ≡ component ∷ drop (node + 1) components
    = ap (drop node) (sym same) ∙ drop_more items node component c.loop-node-test.true
    ∙ ap (λ (x : Component). x ∷ drop (node + 1) items) (sym c.index-components-node.is)
    ∙ ap (λ (cs : List Component). component ∷ drop (node + 1) cs) same in
    let lines = replica_lines product.replicated frame node component in
    lines_turn out c.add_replicas.new.text.items
    (c.args.text.now.items ++ text_of (all_lines product.replicated frame 0 components)) lines lines
    (all_lines product.replicated frame (node + 1) (drop (node + 1) components)) c.in_ok-add_replicas.ensures refl
    (ap (λ (cs : List Component). out ++ text_of (all_lines product.replicated frame node cs)) (sym split)
    ∙ c.loop-node.invariant)
