use Rattle.std.proofs.Common.{◌+◌, ◌∙◌, [], Contains, arith, map, subst, sym}
use Rattle.std.proofs.lemmas.Option.{same_Some}
use Rattle.list_lemmas.proofs.ElementPositions.{Contains-from_slice_get}
use Rattle.aadl_uses.proofs.ContainmentOrderValues.{FrontOf, no_front, front_known, front_same, front_past, front_more}
use Rattle.aadl_uses.proofs.ContainmentOrderValues.{front_all}
use Rattle.aadl_uses.proofs.ContainmentOrders.{of_any, not_of_any}
use Rattle.aadl_uses.proofs.MarkedPathLists.{IsListedIn}
use Rattle.aadl_uses.proofs.paths_to_marked.paths_below.Goals.{in-Some+then-contains+in_ok-row, in-Some+else-contains}
use Rattle.aadl_uses.proofs.paths_to_marked.paths_below.Goals.{in_default}
use Rattle.aadl_uses.proofs.paths_to_marked.paths_below.Goals as goal

pub loop-at-init : goal.loop-at-init
loop-at-init c =
    no_front (IsListedIn c.args.graph.now c.args.marks.now c.args.used.now.keys) [] c.args.graph.now
    c.args.order.now.keys c.in_ok-paths.paths (c.in_ok-paths.ensures ∙ c.len.ensures)

pub paths_of-requires : goal.paths_of-requires
paths_of-requires c = λ s m e.
    front_known (IsListedIn c.args.graph.now c.args.marks.now c.args.used.now.keys) [] c.args.graph.now
    c.args.order.now.keys c.loop-at.at c.loop-at.paths c.loop-at.invariant
    c.in-Some.number.now c.requires.order.sequence (sym c.in-Some.ensures.key) s m e
    (c.requires.closed c.in-Some.number.now s m
    (of_any c.args.used.now.keys c.in-Some.number.now (sym c.if-contains.ensures)) e)

pub put-requires : goal.put-requires
put-requires c =
    let least =
    c.requires.order.sequence.declared c.in-Some.number.now
    (Contains-from_slice_get c.args.order.now.keys c.loop-at.at c.in-Some.number.now (sym c.in-Some.ensures.key)) in
    omega (arith, least, c.loop-at.invariant.size)

pub loop-at-preserved : goal.loop-at-preserved
loop-at-preserved c =
    let g = c.args.graph.now in
    let used = c.args.used.now.keys in
    let right = IsListedIn g c.args.marks.now used in
    let keys = c.args.order.now.keys in
    let at = c.loop-at.at in
    elim c.match-get_index.branch [
      | in-Some+then-contains+in_ok-row w ↦
          subst (FrontOf right [] g keys (at + 1)) (sym w.paths-is)
          (subst (FrontOf right [] g keys (at + 1)) (sym w.put.ensures)
          (front_more right [] g keys at c.loop-at.paths c.loop-at.invariant w.in-Some.number.now
          (map (λ path. path.items) w.in_ok-row.row.items) c.requires.order.sequence (sym w.in-Some.ensures.key)
          (λ h. w.in_ok-row.ensures)))
      | in-Some+else-contains w ↦
          subst (FrontOf right [] g keys (at + 1)) (sym w.paths-is)
          (front_same right [] g keys at c.loop-at.paths c.loop-at.invariant
          (λ n e h. absurd (not_of_any used w.in-Some.number.now (sym w.if-contains.ensures)
          (subst (Contains used) (same_Some n w.in-Some.number.now (sym e ∙ sym w.in-Some.ensures.key)) h))))
      | in_default w ↦
          subst (FrontOf right [] g keys (at + 1)) (sym w.paths-is)
          (front_past right [] g keys at c.loop-at.paths c.loop-at.invariant (sym w.in_default.ensures.key))
    ]

pub returns : goal.returns
returns c =
    front_all (IsListedIn c.args.graph.now c.args.marks.now c.args.used.now.keys) [] c.args.graph.now
    c.args.order.now.keys c.loop-at.at c.loop-at.paths c.loop-at.invariant c.requires.order (omega arith)
