use Rattle.std.proofs.Common.{◌∙◌, ◌++◌, ◌∷◌, ◌≤◌, [], sym, ap₂, List, arith, ◌<◌, length}
use Rattle.std.specs.Prelude.{Option, zip, slice_index_or}
use Rattle.pals_base.specs.declared.basic_types.PortValue.{PortValue}
use Rattle.pals_base.specs.declared.basic_types.PortValue.TheVariants.{Absent}
use Rattle.bus_machine.specs.declared.plan.Input.{Input}
use Rattle.bus_machine.specs.Nodes.{brought}
use Rattle.pals_node.proofs.TuplesSlotsAndZips.{zips_more, zip_all, column_of}
use Rattle.pals_node.proofs.slots_and_input_vectors.vector_at.Goals as goal

pub loop-at-preserved : goal.loop-at-preserved
loop-at-preserved c =
    let inputs = c.args.plan.now.inputs in
    let slots = c.args.slots.now in
    let f : Input × Option (List PortValue) → PortValue =
    λ p. slice_index_or (brought c.args.plan.now.rate c.args.env.now p.0 p.1) c.args.step Absent in
    let same = c.requires.slots in
    let below : c.loop-at.at < length slots = c.loop-at-test.true in
    let within : c.loop-at.at < length inputs = omega arith in
    c.in_ok-push.ensures.ok
    ∙ ap₂ (λ (ps : List PortValue) (p : PortValue). ps ++ p ∷ []) c.loop-at.invariant c.in_ok-port_at.ensures
    ∙ sym (zips_more f inputs slots c.loop-at.at _ _ within same c.index.ensures c.index-slots-at.is)

pub returns : goal.returns
returns c =
    let inputs = c.args.plan.now.inputs in
    let slots = c.args.slots.now in
    let f : Input × Option (List PortValue) → List PortValue =
    λ p. brought c.args.plan.now.rate c.args.env.now p.0 p.1 in
    let g : Input × Option (List PortValue) → PortValue = λ p. slice_index_or (f p) c.args.step Absent in
    let same = c.requires.slots in
    let out = c.loop-at-test.false in
    let past : length inputs ≤ c.loop-at.at = omega (arith, same, out) in
    c.loop-at.invariant ∙ zip_all g inputs slots c.loop-at.at past same
    ∙ sym (column_of f c.args.step (zip inputs slots))
