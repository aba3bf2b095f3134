use Rattle.std.proofs.Common.{◌≡◌, ◌∙◌, ◌-◌, ◌<◌, ◌≤◌, List, Some, length, ap, slice_get, slice_index_or, arith}
use Rattle.std.specs.Arc.{arc_value}
use Rattle.std.proofs.lemmas.Option.{slice_get-get_or}
use Rattle.pals_base.specs.declared.basic_types.PortValue.{PortValue}
use Rattle.pals_model.specs.declared.design.Link.{Link}
use Rattle.pals_model.specs.PortKindsAndRates.{rate_of}
use Rattle.triple_vote.specs.VotedComposition.{copies_of, received_at}
use Rattle.triple_vote.specs.proof.VotedStates.{VotedState}
use Rattle.triple_vote.specs.proof.ThreeLayers.{parts_in}
use Rattle.triple_vote.proofs.ProductStatesAndInvariant.{received_read, before_three}
use Rattle.triple_vote.proofs.VotedMessagesAndTaps.{no_link}
use Rattle.triple_vote.proofs.ThreeLayerUpdates.{received_sizes}
use Rattle.triple_vote.proofs.TupleLengths.{tuple_within}
use Rattle.triple_vote.proofs.product.VoteProduct.received.Goals as goal

pub index-tuples-requires : goal.index-tuples-requires
index-tuples-requires c =
    let now = c.args.self.now in
    let link : Link = slice_index_or now.design.links c.args.link.0 no_link in
    let high = c.requires.high link (slice_get-get_or now.design.links c.args.link.0 no_link c.requires.link) in
    omega (
      arith,
      before_three now.replicated link.target.0 c.args.replica c.requires.low high,
      c.self.invariant.1.heard_fit.three,
      c.self.inside.received_messages.ok.0,
    )

pub bounds-as_slice-link : goal.bounds-as_slice-link
bounds-as_slice-link c =
    let design = arc_value c.self.inside.design in
    let received_messages = c.self.inside.received_messages.items in
    let now = c.args.self.now in
    let l = c.args.link.0 in
    let target = c.args.replica - 1 in
    let tuples = c.index-tuples.result.now in
    let link : Link = slice_index_or now.design.links l no_link in
    let high : c.args.replica ≤ copies_of now.replicated link.target.0 =
    c.requires.high link (slice_get-get_or now.design.links l no_link c.requires.link) in
    let three : target < 3 = before_three now.replicated link.target.0 c.args.replica c.requires.low high in
    let there : target < length received_messages = omega (arith, three, c.self.invariant.1.heard_fit.three) in
    let within : l < length design.links =
    omega (arith, ap (λ (s : VotedState). length s.design.links) c.self.view_is, c.requires.link) in
    omega (
      arith,
      tuple_within (λ (x : Link). rate_of design x.source.0) design.links tuples
          (received_sizes design received_messages target tuples c.self.invariant.1.heard_fit there
          c.index-tuples.ensures) l within,
      c.as_slice.ensures.len,
    )

pub returns : goal.returns
returns c =
    let inside = c.self.inside in
    let design = arc_value inside.design in
    let received_messages = inside.received_messages.items in
    let now = c.args.self.now in
    let l = c.args.link.0 in
    let target = c.args.replica - 1 in
    let tuples = c.index-tuples.result.now in
    let tuple = c.index-as_slice-link.result in
    let link : Link = slice_index_or now.design.links l no_link in
    let listed = slice_get-get_or now.design.links l no_link c.requires.link in
    let is : slice_get design.links l ≡ Some link =
    ap (λ (s : VotedState). slice_get s.design.links l) c.self.view_is ∙ listed in
    let high : c.args.replica ≤ copies_of now.replicated link.target.0 = c.requires.high link listed in
    let copies : copies_of inside.replicated link.target.0 ≡ copies_of now.replicated link.target.0
    = ap (λ (s : VotedState). copies_of s.replicated link.target.0) c.self.view_is in
    let below : target < copies_of inside.replicated link.target.0 = omega (arith, copies, c.requires.low, high) in
    let three : target < 3 = before_three now.replicated link.target.0 c.args.replica c.requires.low high in
    let there : target < length received_messages = omega (arith, three, c.self.invariant.1.heard_fit.three) in
    let within : l < length design.links =
    omega (arith, ap (λ (s : VotedState). length s.design.links) c.self.view_is, c.requires.link) in
    received_read design inside.replicated (parts_in inside.layers.items) received_messages l target link tuples tuple
    is below
    there c.index-tuples.ensures
    (tuple_within (λ (x : Link). rate_of design x.source.0) design.links tuples
    (received_sizes design received_messages target tuples c.self.invariant.1.heard_fit there c.index-tuples.ensures) l
    within)
    (c.index-as_slice-link.is ∙ ap (λ (ts : List (List PortValue)). slice_index_or ts l tuple) c.as_slice.ensures.value)
    ∙ ap (λ (s : VotedState). received_at s.voted l target) c.self.view_is
