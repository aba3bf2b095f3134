use Rattle.std.proofs.Common.{◌≡◌, ◌∙◌, ℕ, ℤ, ◌+◌, ◌∷◌, ◌<◌, List, length, map, Some, pos, sym, ap, subst, rules, arith}
use Rattle.std.proofs.Common.{slice_index_or, slice_set}
use Rattle.std.proofs.lemmas.Int.{to_z-of_z, ints}
use Rattle.std.specs.Prelude.{not, slice_get, int_lt, false, if◌then◌else◌, ◌+ℤ◌}
use Rattle.std.proofs.lemmas.Option.{slice_get-get_or}
use mir.Syntax.{w64}
use mir.Val.{SFits}
use Rattle.pals_base.specs.declared.basic_types.PortValue.TheVariants as port
use Rattle.pals_base.specs.declared.basic_types.PortValue.{PortValue as Value}
use Rattle.pals_base.specs.SingleStep.{is_present}
use Rattle.pals_base.specs.ExpressionValues.{is_true, truth}
use Rattle.step_code.specs.declared.instr.Instr.{Instr}
use Rattle.step_code.specs.declared.instr.Instr.TheVariants.{Store}
use Rattle.step_code.specs.InstructionEffects.{StepInputs, step, on_top, on_found, on_result, Goes}
use Rattle.pals_base.specs.Arithmetic.{negation_of, magnitude_of}
use Rattle.step_vm.specs.proof.MachineAnswers.{Met}
use Rattle.step_vm.proofs.instruction_effects.advance.Goals as goal

-- a store, at the slot and the stack that are there
store_step : (s : StepInputs) (i : Instr) (x p : ℕ) (v w : ℤ) (stack rest slots : List ℤ) (outs : List Value)
    → i ≡ Store x
    → x < length slots → stack ≡ v ∷ rest → w ≡ v
    → step (Some i) s p stack slots outs ≡ Goes (p + 1) rest (slice_set slots x w) outs
store_step s i x p v w stack rest slots outs is within top same =
    ap (λ i. step (Some i) s p stack slots outs) is
    ∙ ap (λ o. on_found o (λ before. on_top stack (λ u rest. Goes (p + 1) rest (slice_set slots x u) outs)))
    (slice_get-get_or slots x (pos 0) within)
    ∙ ap (λ st. on_top st (λ u rest. Goes (p + 1) rest (slice_set slots x u) outs)) top
    ∙ ap (λ u. Goes (p + 1) rest (slice_set slots x u) outs) (sym same)

pub returns-in-Push-clause-met : goal.returns-in-Push-clause-met
returns-in-Push-clause-met c =
    let s : StepInputs = record { held = c.args.inputs.held.now; fresh = map is_present c.args.inputs.present.now } in
    let fits : SFits w64 c.in-Push.value = search rules in
    let met = simp to_z-of_z at (c.give.ensures.met c.args.slots.now c.args.outs.now) in
    subst (λ i. Met c.give.result c.give.new.stack.numbers c.args.slots.now c.args.outs.now
    (step (Some i) s c.args.place c.args.stack.now.numbers c.args.slots.now c.args.outs.now)) (sym c.in-Push.is) met

pub returns-in-Store-clause-met : goal.returns-in-Store-clause-met
returns-in-Store-clause-met c =
    let s : StepInputs = record { held = c.args.inputs.held.now; fresh = map is_present c.args.inputs.present.now } in
    let fits : SFits w64 c.pop.result = search rules in
    let within : c.in-Store.slot < length c.args.slots.now = search rules in
    store_step s c.args.instr c.in-Store.slot c.args.place c.pop.result _ c.args.stack.now.numbers
    c.pop.new.self.numbers c.args.slots.now c.args.outs.now c.in-Store.is within c.pop.ensures.all
    (to_z-of_z w64 c.pop.result fits)

pub returns-in-Load-clause-met : goal.returns-in-Load-clause-met
returns-in-Load-clause-met c =
    let s : StepInputs = record { held = c.args.inputs.held.now; fresh = map is_present c.args.inputs.present.now } in
    let slots = c.args.slots.now in
    let outs = c.args.outs.now in
    let p = c.args.place in
    let stack = c.args.stack.now.numbers in
    let within : c.in-Load.slot < length slots = search rules in
    let v = slice_index_or slots c.in-Load.slot (pos 0) in
    let fits : SFits w64 v = search rules in
    let is : step (Some c.args.instr) s p stack slots outs ≡ Goes (p + 1) (v ∷ stack) slots outs =
    ap (λ i. step (Some i) s p stack slots outs) c.in-Load.is
    ∙ ap (λ o. on_found o (λ v. Goes (p + 1) (v ∷ stack) slots outs))
    (slice_get-get_or slots c.in-Load.slot (pos 0) within) in
    let met = simp to_z-of_z at (c.give-in-Load.ensures.met slots outs) in
    subst (Met c.give-in-Load.result c.give-in-Load.new.stack.numbers slots outs) (sym is) met

pub returns-in-Port-clause-met : goal.returns-in-Port-clause-met
returns-in-Port-clause-met c =
    let s : StepInputs = record { held = c.args.inputs.held.now; fresh = map is_present c.args.inputs.present.now } in
    let slots = c.args.slots.now in
    let outs = c.args.outs.now in
    let p = c.args.place in
    let stack = c.args.stack.now.numbers in
    let within : c.in-Port.port < length s.held = search rules in
    let v = slice_index_or s.held c.in-Port.port (pos 0) in
    let fits : SFits w64 v = search rules in
    let is : step (Some c.args.instr) s p stack slots outs ≡ Goes (p + 1) (v ∷ stack) slots outs =
    ap (λ i. step (Some i) s p stack slots outs) c.in-Port.is
    ∙ ap (λ o. on_found o (λ v. Goes (p + 1) (v ∷ stack) slots outs))
    (slice_get-get_or s.held c.in-Port.port (pos 0) within) in
    let met = simp to_z-of_z at (c.give-in-Port.ensures.met slots outs) in
    subst (Met c.give-in-Port.result c.give-in-Port.new.stack.numbers slots outs) (sym is) met

pub returns-in-Neg-clause-met : goal.returns-in-Neg-clause-met
returns-in-Neg-clause-met c =
    let s : StepInputs = record { held = c.args.inputs.held.now; fresh = map is_present c.args.inputs.present.now } in
    let slots = c.args.slots.now in
    let outs = c.args.outs.now in
    let p = c.args.place in
    let stack = c.args.stack.now.numbers in
    let v = c.pop-value.result in
    let rest = c.pop-value.new.self.numbers in
    let fits : SFits w64 v = search rules in
    let value : c.neg.result ≡ negation_of v = simp to_z-of_z at c.neg.ensures in
    let is : step (Some c.args.instr) s p stack slots outs ≡ on_result (negation_of v) (λ w.
    Goes (p + 1) (w ∷ rest) slots outs) =
    ap (λ i. step (Some i) s p stack slots outs) c.in-Neg.is
    ∙ ap (λ st. on_top st (λ a rest. on_result (negation_of a) (λ w. Goes (p + 1) (w ∷ rest) slots outs)))
    c.pop-value.ensures.all in
    let met : Met c.give-in-Neg.result c.give-in-Neg.new.stack.numbers slots outs (on_result c.neg.result (λ w.
    Goes (p + 1) (w ∷ rest) slots outs)) = c.give-in-Neg.ensures.met slots outs in
    subst (Met c.give-in-Neg.result c.give-in-Neg.new.stack.numbers slots outs)
    (ap (λ r. on_result r (λ w. Goes (p + 1) (w ∷ rest) slots outs)) value ∙ sym is) met

pub returns-in-Abs-clause-met : goal.returns-in-Abs-clause-met
returns-in-Abs-clause-met c =
    let s : StepInputs = record { held = c.args.inputs.held.now; fresh = map is_present c.args.inputs.present.now } in
    let slots = c.args.slots.now in
    let outs = c.args.outs.now in
    let p = c.args.place in
    let stack = c.args.stack.now.numbers in
    let v = c.pop-value-in-Abs.result in
    let rest = c.pop-value-in-Abs.new.self.numbers in
    let fits : SFits w64 v = search rules in
    let value : c.abs.result ≡ magnitude_of v = simp to_z-of_z at c.abs.ensures in
    let is : step (Some c.args.instr) s p stack slots outs ≡ on_result (magnitude_of v) (λ w.
    Goes (p + 1) (w ∷ rest) slots outs) =
    ap (λ i. step (Some i) s p stack slots outs) c.in-Abs.is
    ∙ ap (λ st. on_top st (λ a rest. on_result (magnitude_of a) (λ w. Goes (p + 1) (w ∷ rest) slots outs)))
    c.pop-value-in-Abs.ensures.all in
    let met : Met c.give-in-Abs.result c.give-in-Abs.new.stack.numbers slots outs (on_result c.abs.result (λ w.
    Goes (p + 1) (w ∷ rest) slots outs)) = c.give-in-Abs.ensures.met slots outs in
    subst (Met c.give-in-Abs.result c.give-in-Abs.new.stack.numbers slots outs)
    (ap (λ r. on_result r (λ w. Goes (p + 1) (w ∷ rest) slots outs)) value ∙ sym is) met

pub returns-in-Emit-clause-met : goal.returns-in-Emit-clause-met
returns-in-Emit-clause-met c =
    let s : StepInputs = record { held = c.args.inputs.held.now; fresh = map is_present c.args.inputs.present.now } in
    let slots = c.args.slots.now in
    let outs = c.args.outs.now in
    let p = c.args.place in
    let stack = c.args.stack.now.numbers in
    let v = c.pop-in-Emit.result in
    let rest = c.pop-in-Emit.new.self.numbers in
    let fits : SFits w64 v = search rules in
    let within : c.in-Emit.port < length outs = search rules in
    ap (λ i. step (Some i) s p stack slots outs) c.in-Emit.is
    ∙ ap (λ o. on_found o (λ before.
    on_top stack (λ u rest. Goes (p + 1) rest slots (slice_set outs c.in-Emit.port (port.Present u)))))
    (slice_get-get_or outs c.in-Emit.port port.Absent within)
    ∙ ap (λ st. on_top st (λ u rest. Goes (p + 1) rest slots (slice_set outs c.in-Emit.port (port.Present u))))
    c.pop-in-Emit.ensures.all
    ∙ ap (λ u. Goes (p + 1) rest slots (slice_set outs c.in-Emit.port (port.Present u))) (sym (to_z-of_z w64 v fits))

pub returns-else-high-low-clause-met : goal.returns-else-high-low-clause-met
returns-else-high-low-clause-met c =
    let s : StepInputs = record { held = c.args.inputs.held.now; fresh = map is_present c.args.inputs.present.now } in
    let slots = c.args.slots.now in
    let outs = c.args.outs.now in
    let p = c.args.place in
    let stack = c.args.stack.now.numbers in
    let l = c.in-LoopStart in
    let within : l.slot < length slots = search rules in
    let fits : SFits w64 l.low = search rules in
    let test = c.if-high-low.false in
    let above : int_lt l.high l.low ≡ false = grind (arith, ints) in
    ap (λ i. step (Some i) s p stack slots outs) l.is
    ∙ ap (λ b. if b then Goes l.exit stack slots outs else on_found (slice_get slots l.slot)
    (λ before. Goes (p + 1) stack (slice_set slots l.slot l.low) outs)) above
    ∙ ap (λ o. on_found o (λ before. Goes (p + 1) stack (slice_set slots l.slot l.low) outs))
    (slice_get-get_or slots l.slot (pos 0) within)
    ∙ ap (λ u. Goes (p + 1) stack (slice_set slots l.slot u) outs) (sym (to_z-of_z w64 l.low fits))

pub returns-else-number-high-clause-met : goal.returns-else-number-high-clause-met
returns-else-number-high-clause-met c =
    let s : StepInputs = record { held = c.args.inputs.held.now; fresh = map is_present c.args.inputs.present.now } in
    let slots = c.args.slots.now in
    let outs = c.args.outs.now in
    let p = c.args.place in
    let stack = c.args.stack.now.numbers in
    let l = c.in-LoopNext in
    let within : l.slot < length slots = search rules in
    let v = slice_index_or slots l.slot (pos 0) in
    let fits : SFits w64 v = search rules in
    let test = c.if-number-high.false in
    let above : int_lt v l.high ≡ false = grind (arith, ints) in
    ap (λ i. step (Some i) s p stack slots outs) l.is
    ∙ ap (λ o. on_found o (λ v.
    if int_lt v l.high then Goes l.to stack (slice_set slots l.slot (v +ℤ pos 1)) outs else Goes (p + 1) stack slots
    outs)) (slice_get-get_or slots l.slot (pos 0) within)
    ∙ ap (λ b. if b then Goes l.to stack (slice_set slots l.slot (v +ℤ pos 1)) outs else Goes (p + 1) stack
    slots outs) above

pub returns-in-Not-clause-met : goal.returns-in-Not-clause-met
returns-in-Not-clause-met c =
    let s : StepInputs = record { held = c.args.inputs.held.now; fresh = map is_present c.args.inputs.present.now } in
    let slots = c.args.slots.now in
    let outs = c.args.outs.now in
    let p = c.args.place in
    let stack = c.args.stack.now.numbers in
    let v = c.pop-value-in-Not.result in
    let rest = c.pop-value-in-Not.new.self.numbers in
    let number = c.number_of-in-Not.result in
    let fits : SFits w64 v = search rules in
    let fits' : SFits w64 number = search rules in
    let held : c.holds.result ≡ is_true v = simp to_z-of_z at c.holds.ensures in
    let value : number ≡ truth (not (is_true v)) = c.number_of-in-Not.ensures ∙ ap (λ b. truth (not b)) held in
    let is : step (Some c.args.instr) s p stack slots outs ≡ Goes (p + 1) (truth (not (is_true v)) ∷ rest) slots outs =
    ap (λ i. step (Some i) s p stack slots outs) c.in-Not.is
    ∙ ap (λ st. on_top st (λ a rest. Goes (p + 1) (truth (not (is_true a)) ∷ rest) slots outs))
    c.pop-value-in-Not.ensures.all in
    let met : Met c.give-in-Not.result c.give-in-Not.new.stack.numbers slots outs
    (Goes (p + 1) (number ∷ rest) slots outs) = simp to_z-of_z at (c.give-in-Not.ensures.met slots outs) in
    subst (Met c.give-in-Not.result c.give-in-Not.new.stack.numbers slots outs)
    (ap (λ n. Goes (p + 1) (n ∷ rest) slots outs) value ∙ sym is) met

pub returns-in-Fresh-clause-met : goal.returns-in-Fresh-clause-met
returns-in-Fresh-clause-met c =
    let s : StepInputs = record { held = c.args.inputs.held.now; fresh = map is_present c.args.inputs.present.now } in
    let slots = c.args.slots.now in
    let outs = c.args.outs.now in
    let p = c.args.place in
    let stack = c.args.stack.now.numbers in
    let number = c.number_of.result in
    let fits : SFits w64 number = search rules in
    let is : step (Some c.args.instr) s p stack slots outs
    ≡ Goes (p + 1) (truth c.is_fresh-fresh.result ∷ stack) slots outs =
    ap (λ i. step (Some i) s p stack slots outs) c.in-Fresh.is
    ∙ ap (λ o. on_found o (λ b. Goes (p + 1) (truth b ∷ stack) slots outs)) c.is_fresh-fresh.ensures in
    let met : Met c.give-in-Fresh.result c.give-in-Fresh.new.stack.numbers slots outs
    (Goes (p + 1) (number ∷ stack) slots outs) = simp to_z-of_z at (c.give-in-Fresh.ensures.met slots outs) in
    subst (Met c.give-in-Fresh.result c.give-in-Fresh.new.stack.numbers slots outs)
    (ap (λ n. Goes (p + 1) (n ∷ stack) slots outs) c.number_of.ensures ∙ sym is) met
