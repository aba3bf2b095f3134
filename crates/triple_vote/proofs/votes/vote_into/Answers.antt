use Rattle.std.proofs.Common.{◌≡◌, ◌∙◌, ap, ap₂, get_or, arith}
use Rattle.std.proofs.lemmas.Grind.{common_steps}
use Rattle.pals_base.specs.declared.basic_types.PortValue.{PortValue}
use Rattle.pals_base.specs.declared.basic_types.PortValue.TheVariants.{Absent}
use Rattle.triple_vote.specs.Votes.{vote}
use Rattle.triple_vote.proofs.TupleVotes.{voted_more, voted_all}
use Rattle.triple_vote.proofs.votes.vote_into.Goals as goal

pub loop-at-preserved : goal.loop-at-preserved
loop-at-preserved c =
    let x = c.args.x.now in
    let y = c.args.y.now in
    let z = c.args.z.now in
    let value = c.vote-value.result in
    let is : value ≡ vote (get_or x c.loop-at.at Absent) (get_or y c.loop-at.at Absent) (get_or z c.loop-at.at Absent)
    = c.vote-value.ensures
    ∙ ap₂ (λ (p q : PortValue). vote p q c.place-in-loop-at-2.result) c.place.ensures c.place-in-loop-at.ensures
    ∙ ap (vote (get_or x c.loop-at.at Absent) (get_or y c.loop-at.at Absent)) c.place-in-loop-at-2.ensures in
    record {
      len = grind (arith, common_steps);
      done =
          voted_more c.loop-at.to c.set.new.self x y z c.loop-at.at value c.loop-at.invariant.len c.requires.y
          c.requires.z c.loop-at-test.true is c.set.ensures
          c.loop-at.invariant.done;
    }

pub returns : goal.returns
returns c =
    voted_all c.loop-at.to c.args.x.now c.args.y.now c.args.z.now c.loop-at.at c.loop-at.invariant.len c.requires.y
    c.requires.z c.loop-at-test.false c.loop-at.invariant.done
