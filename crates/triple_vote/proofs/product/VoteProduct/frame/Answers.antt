use Rattle.std.proofs.Common.{◌≡◌, ◌∙◌, ◌-◌, ◌<◌, List, length, ap, sym, slice_index_or, arith}
use Rattle.std.specs.Arc.{arc_value}
use Rattle.pals_model.specs.declared.part.Part.{Part}
use Rattle.triple_vote.specs.VotedComposition.{copies_of, frame_at}
use Rattle.triple_vote.specs.proof.VotedStates.{VotedState}
use Rattle.triple_vote.proofs.ProductStatesAndInvariant.{frame_read, before_three, parts_there}
use Rattle.triple_vote.proofs.product.VoteProduct.frame.Goals as goal

pub returns : goal.returns
returns c =
    let inside = c.self.inside in
    let design = arc_value inside.design in
    let layers = inside.layers.items in
    let layer = c.index-layer.result.now in
    let part = c.index-as_slice-node.result in
    let node = c.args.node.0 in
    let replica = c.args.replica - 1 in
    let within : node < length design.components =
    omega (arith, ap (λ (s : VotedState). length s.design.components) c.self.view_is, c.requires.node) in
    let copies : copies_of inside.replicated node ≡ copies_of c.args.self.now.replicated node =
    ap (λ (s : VotedState). copies_of s.replicated node) c.self.view_is in
    let below : replica < copies_of inside.replicated node = omega (arith, copies, c.requires.low, c.requires.high) in
    let three : replica < 3 =
    before_three c.args.self.now.replicated node c.args.replica c.requires.low c.requires.high in
    let there : replica < length layers = omega (arith, three, c.self.invariant.1.layers_fit.three) in
    ap (λ (p : Part). p.frame) (sym c.index-as_slice-node.is)
    ∙ frame_read design inside.replicated layers inside.received_messages.items node replica layer part within below
    there
    c.index-layer.ensures
    (parts_there design layers replica node layer c.self.invariant.1.layers_fit there c.index-layer.ensures within)
    (c.index-as_slice-node.is ∙ ap (λ (ps : List Part). slice_index_or ps node part) c.as_slice.ensures.value)
    ∙ ap (λ (s : VotedState). frame_at s.voted node replica) c.self.view_is
