use Rattle.triple_vote.specs.declared.replica_layer.Layer.{Layer}
use Rattle.triple_vote.proofs.OpeningReplicas.{is_opened}
use Rattle.triple_vote.proofs.replica_layer.Layer.new.Goals as goal

pub returns : goal.returns
returns c =
    let layer : Layer = record {
      there = c.args.there;
      parts = c.in_ok-parts.parts;
      next = c.in_ok-next.next;
      sent = c.in_ok-sent.sent;
      shown = c.in_ok-shown.shown;
    } in
    is_opened c.args.design.now layer c.in_ok-parts.ensures c.in_ok-next.ensures c.in_ok-sent.ensures
    c.in_ok-shown.ensures
