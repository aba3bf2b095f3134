use Rattle.std.proofs.Common.{◌∙◌, ap, sym, arith}
use Rattle.std.specs.List.{list_all}
use Rattle.aadl_uses.specs.proof.ContainmentOrders.{is_there}
use Rattle.aadl_uses.proofs.ContainmentOrders.{placed_new, placed_not, misses_by}
use Rattle.aadl_uses.proofs.containment_order.place.Goals.{else-number-len-via-then-number-len+else-are_there}
use Rattle.aadl_uses.proofs.containment_order.place.Goals.{else-number-len-via-else-number-len}
use Rattle.aadl_uses.proofs.containment_order.place.Goals as goal

pub returns-in_ok-insert : goal.returns-in_ok-insert
returns-in_ok-insert c =
    let old = c.args.order.now.keys in
    placed_new c.args.graph.now c.args.number old c.insert.new.self.keys (omega arith)
    (ap (list_all (is_there old)) (sym c.targets.ensures) ∙ (sym c.are_there.ensures ∙ c.if-are_there.true))
    c.in_ok-insert.ensures.keys c.insert.ensures.unique

pub returns-else-number-len : goal.returns-else-number-len
returns-else-number-len c =
    let g = c.args.graph.now in
    let n = c.args.number in
    let old = c.args.order.now.keys in
    elim c.else-number-len.branch [
      | else-number-len-via-then-number-len+else-are_there w ↦
          placed_not g n old (λ lt.
          misses_by g n old (ap (list_all (is_there old)) (sym w.targets.ensures)
          ∙ (sym w.are_there.ensures ∙ w.if-are_there.false)))
      | else-number-len-via-else-number-len w ↦
          placed_not g n old (λ lt. absurd (omega (arith, lt, w.if-number-len.false, c.len.ensures)))
    ]
