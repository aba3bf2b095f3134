use Rattle.std.proofs.Common.{◌∙◌, List, length, sym, ap, ap₂, arith}
use Rattle.pals_base.specs.declared.basic_types.PortValue.{PortValue}
use Rattle.triple_vote.specs.Votes.{votes}
use Rattle.triple_vote.specs.proof.ThreeLayers.{shown_in, tuple_of, shown_of}
use Rattle.triple_vote.proofs.tap_tuples.show.Goals as goal

pub vote_into-requires-clause-to : goal.vote_into-requires-clause-to
vote_into-requires-clause-to c = sym (ap length c.shown_at-first.ensures ∙ c.requires 0 (omega arith))

pub vote_into-requires-clause-y : goal.vote_into-requires-clause-y
vote_into-requires-clause-y c =
    ap length c.shown_at-second.ensures ∙ c.requires 1 (omega arith)
    ∙ sym (ap length c.shown_at-first.ensures ∙ c.requires 0 (omega arith))

pub vote_into-requires-clause-z : goal.vote_into-requires-clause-z
vote_into-requires-clause-z c =
    ap length c.shown_at-third.ensures ∙ c.requires 2 (omega arith)
    ∙ sym (ap length c.shown_at-first.ensures ∙ c.requires 0 (omega arith))

pub copy_from_slice-requires : goal.copy_from_slice-requires
copy_from_slice-requires c = sym (ap length c.shown_at-first.ensures ∙ c.requires 0 (omega arith))

pub returns-then-three : goal.returns-then-three
returns-then-three c =
    let shown = shown_in c.args.layers.now in
    c.vote_into.ensures
    ∙ ap₂ (λ (x y : List PortValue). votes x y c.shown_at-third.result.now) c.shown_at-first.ensures
    c.shown_at-second.ensures
    ∙ ap (votes (tuple_of shown 0 c.args.number) (tuple_of shown 1 c.args.number)) c.shown_at-third.ensures
    ∙ sym (ap (λ b. shown_of b shown c.args.number) c.if-three.true)

pub returns-else-three : goal.returns-else-three
returns-else-three c =
    c.copy_from_slice.ensures ∙ c.shown_at-first.ensures
    ∙ sym (ap (λ b. shown_of b (shown_in c.args.layers.now) c.args.number) c.if-three.false)
