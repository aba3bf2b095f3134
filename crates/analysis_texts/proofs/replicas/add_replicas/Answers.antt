use Rattle.std.proofs.Common.{◌≡◌, ◌∙◌, ℕ, ◌+◌, ◌-◌, ◌<◌, ◌≤◌, ◌++◌, Bool, List, length, map, ap, ap₂, arith}
use Rattle.std.specs.Prelude.{slice_index_or}
use Rattle.pals_base.specs.UpwardNumbers.{upwards}
use Rattle.pals_base.specs.declared.behaviour.BehaviourParts.{BehaviourParts}
use Rattle.pals_base.specs.declared.frames.Frame.{Frame}
use Rattle.pals_base.proofs.UpwardNumbers.{get_or-map_upwards, length-map_upwards}
use Rattle.pals_model.specs.RoundTexts.{line_end, text_of, component_line}
use Rattle.triple_vote.specs.VotedComposition.{is_replicated, copies_of, frame_at}
use Rattle.triple_vote.specs.VotedText.{replica_name}
use Rattle.analysis_texts.specs.proof.ReplicaNamesAndLines.{names_of}
use Rattle.analysis_texts.proofs.LineBlocks.{counted_turn}
use Rattle.analysis_texts.proofs.VotedRows.{replica_line, copies_few}
use Rattle.analysis_texts.proofs.replicas.add_replicas.Goals as goal

-- there are at most three names
few : (path : List ℕ) (replicated : List Bool) (node : ℕ) (names : List (List ℕ))
    → names ≡ names_of path (is_replicated replicated node)
    → (length names ≡ copies_of replicated node) × (length names ≤ 3)
few path replicated node names are =
    let same : length names ≡ copies_of replicated node
    = ap length are
    ∙ length-map_upwards (replica_name path (is_replicated replicated node)) 0 (copies_of replicated node) in
    (same, omega (arith, same, copies_few replicated node))

pub overflow_cast-at : goal.overflow_cast-at
overflow_cast-at c =
    let count =
    few c.args.component.now.path c.args.product.now.replicated c.args.node.0 c.args.names.now c.requires.names in
    omega (arith, count.1, c.loop-at-test.true)

pub overflow_add-at : goal.overflow_add-at
overflow_add-at c =
    let count =
    few c.args.component.now.path c.args.product.now.replicated c.args.node.0 c.args.names.now c.requires.names in
    omega (arith, count.1, c.loop-at-test.true)

pub frame-frame-requires : goal.frame-frame-requires
frame-frame-requires c =
    let count =
    few c.args.component.now.path c.args.product.now.replicated c.args.node.0 c.args.names.now c.requires.names in
    record { node = c.requires.node; low = omega arith; high = omega (arith, count.0, c.loop-at-test.true) }

pub loop-at-preserved : goal.loop-at-preserved
loop-at-preserved c =
    let product = c.args.product.now in
    let component = c.args.component.now in
    let node = c.args.node.0 in
    let at = c.loop-at.at in
    let name = c.index-names-at.result in
    let out = c.loop-at.text.items in
    let copies = copies_of product.replicated node in
    let naming = replica_name component.path (is_replicated product.replicated node) in
    let count = few component.path product.replicated node c.args.names.now c.requires.names in
    let below : at < copies = omega (arith, count.0, c.loop-at-test.true) in
    let named : name ≡ naming at
    =
    c.index-names-at.is ∙ ap (λ (ns : List (List ℕ)). slice_index_or ns at name) c.requires.names
    ∙ get_or-map_upwards naming copies at name below in
    let place : at + 1 - 1 ≡ at = omega arith in
    let framed : c.frame-frame.result.now ≡ frame_at product.voted node at = c.frame-frame.ensures
    ∙ ap (frame_at product.voted node) place in
    counted_turn (replica_line product.replicated (frame_at product.voted) node component) at c.args.text.now.items out
    c.add_frame.new.out.items c.loop-at.invariant
    (c.in_ok-add_frame.ensures.ok
    ∙ ap₂ (λ (n : List ℕ) (f : Frame). out ++ component_line n c.parts.result.now f ++ line_end) named framed
    ∙ ap (λ (b : BehaviourParts). out ++ component_line (naming at) b (frame_at product.voted node at) ++ line_end)
    c.parts.ensures.value)

pub returns : goal.returns
returns c =
    let product = c.args.product.now in
    let node = c.args.node.0 in
    let count = few c.args.component.now.path product.replicated node c.args.names.now c.requires.names in
    let all : c.loop-at.at ≡ copies_of product.replicated node = omega (arith, count.0, c.loop-at-test.false) in
    c.loop-at.invariant
    ∙ ap (λ n. c.args.text.now.items
    ++ text_of (map (replica_line product.replicated (frame_at product.voted) node c.args.component.now)
    (upwards 0 n))) all
