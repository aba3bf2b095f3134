use Rattle.std.proofs.Common.{ap, subst, sym, arith, length}
use Rattle.aadl_uses.specs.proof.ContainmentOrders.{IsSequence}
use Rattle.aadl_uses.proofs.ContainmentOrders.{no_sequence, one_more, all_placed}
use Rattle.aadl_uses.proofs.containment_order.order.Goals.{then-len+in_ok-place_each, else-len}
use Rattle.aadl_uses.proofs.containment_order.order.Goals as goal

pub loop-turn-init : goal.loop-turn-init
loop-turn-init c = record {
  sequence =
      c.in_ok-place_guessed.ensures.sequence
      (no_sequence c.args.graph.now c.new-order.result.keys c.new-order.ensures.len);
  rounds = omega arith;
}

pub loop-turn-preserved : goal.loop-turn-preserved
loop-turn-preserved c =
    let g = c.args.graph.now in
    let so_far = c.loop-turn.invariant in
    elim c.if-len.branch [
      | then-len+in_ok-place_each w ↦
          let placed = w.in_ok-place_each.ensures in
          let longer =
          one_more g c.loop-turn.order.keys w.place_each.new.order.keys c.requires.within c.requires.acyclic
          so_far.sequence (omega (arith, w.if-len.true, c.len.ensures.len, c.len-in-loop-turn.ensures)) placed in
          let same = ap (λ o. length o.keys) w.order-is in
          record {
            sequence = subst (λ o. IsSequence g o.keys) (sym w.order-is) (placed.sequence so_far.sequence);
            rounds = omega (arith, longer, same, so_far.rounds);
          }
      | else-len w ↦
          let same = ap (λ o. length o.keys) w.order-is in
          record {
            sequence = subst (λ o. IsSequence g o.keys) (sym w.order-is) so_far.sequence;
            rounds =
                omega (
                  arith,
                  same,
                  w.if-len.false,
                  c.len.ensures.len,
                  c.len-in-loop-turn.ensures,
                  c.loop-turn-test.true,
                  c.len-turn-end.ensures,
                );
          }
    ]

pub returns : goal.returns
returns c =
    let rounds = c.loop-turn.invariant.rounds in
    all_placed c.args.graph.now c.loop-turn.order.keys c.loop-turn.invariant.sequence
    (omega (arith, rounds, c.loop-turn-test.false, c.len-turn-end.ensures))
