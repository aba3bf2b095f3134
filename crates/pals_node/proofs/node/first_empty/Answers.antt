use Rattle.std.proofs.Common.{◌∙◌, ◌+◌, cond, sym, ap, List, Some, None, drop, arith, ◌≤◌, length}
use Rattle.std.specs.Prelude.{suc, Bool, Option, zip}
use Rattle.std.specs.List.{position_from}
use Rattle.std.proofs.lemmas.Iterator.Adapters.{position_from-zero}
use Rattle.pals_base.specs.declared.basic_types.PortValue.{PortValue}
use Rattle.bus_machine.specs.declared.plan.Input.{Input}
use Rattle.bus_machine.specs.declared.plan.Input.TheVariants.{Nothing}
use Rattle.bus_machine.specs.NodeEvents.{lacks}
use Rattle.pals_node.proofs.TuplesSlotsAndZips.{fails_more, none_left}
use Rattle.pals_node.proofs.node.first_empty.Goals as goal

abbrev test : Input × Option (List PortValue) → Bool
test p = lacks p.0 p.1

pub returns-then-lacks_at : goal.returns-then-lacks_at
returns-then-lacks_at c =
    let inputs = c.args.inputs.now in
    let slots = c.args.slots.now in
    let at = c.loop-at.at in
    sym (
    position_from-zero test (zip inputs slots)
    ∙ sym c.loop-at.invariant
    ∙ fails_more test inputs slots at at Nothing None c.loop-at-test.true c.requires.count
    ∙ ap (λ b. cond b (Some at) (position_from test (at + 1) (zip (drop (suc at) inputs) (drop (suc at) slots))))
    (sym c.lacks_at.ensures ∙ c.if-lacks_at.true)
    )

pub returns : goal.returns
returns c =
    let inputs = c.args.inputs.now in
    let slots = c.args.slots.now in
    let at = c.loop-at.at in
    let past : length inputs ≤ at = omega arith in
    sym (position_from-zero test (zip inputs slots) ∙ sym c.loop-at.invariant ∙ none_left test inputs slots at at past)
