use Rattle.std.proofs.Common.{◌∙◌, ◌<◌, [], List, length, ap, slice_index_or, arith}
use Rattle.std.specs.Arc.{arc_value}
use Rattle.std.proofs.lemmas.List.{get_or_default}
use Rattle.pals_base.specs.declared.basic_types.PortValue.{PortValue}
use Rattle.pals_model.specs.declared.design.Tap.{Tap}
use Rattle.pals_model.specs.PortKindsAndRates.{rate_of}
use Rattle.triple_vote.specs.proof.VotedStates.{VotedState}
use Rattle.triple_vote.proofs.TupleLengths.{tuple_within}
use Rattle.triple_vote.proofs.product.VoteProduct.out_tuple.Goals as goal

pub returns : goal.returns
returns c =
    let inside = c.self.inside in
    let design = arc_value inside.design in
    let tuple = c.index-as_slice-tap.result in
    let tap = c.args.tap in
    let within : tap < length design.taps =
    omega (arith, ap (λ (s : VotedState). length s.design.taps) c.self.view_is, c.requires) in
    let there =
    tuple_within (λ (x : Tap). rate_of design x.source.0) design.taps inside.shown c.self.invariant.1.shown_fit
    tap within in
    c.index-as_slice-tap.is
    ∙ ap (λ (ts : List (List PortValue)). slice_index_or ts tap tuple) c.as_slice.ensures.value
    ∙ get_or_default inside.shown tap tuple [] there
    ∙ ap (λ (s : VotedState). slice_index_or s.shown tap []) c.self.view_is
