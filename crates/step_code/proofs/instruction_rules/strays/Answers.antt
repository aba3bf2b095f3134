use Rattle.std.proofs.Common.{◌∙◌, ◌||◌, None, refl, sym, ap, arith, slice_index_or}
use Rattle.step_code.specs.proof.InnermostLoops.{starts_from}
use Rattle.step_code.proofs.LoopCrossings.{strays_up, strays_down}
use Rattle.step_code.proofs.FaultlessInstructions.{clean_closed}
use Rattle.step_code.proofs.instruction_rules.strays.Goals as goal

pub returns-then-ends_by : goal.returns-then-ends_by
returns-then-ends_by c =
    let s = starts_from (slice_index_or c.args.innermost.now c.args.to None) c.args.place in
    let l = c.len.ensures in
    let all =
    strays_up c.args.parts.now.instrs c.args.innermost.now c.args.place c.args.to c.ends_by.result s None
    c.requires.innermost c.requires.count (omega arith) (omega arith)
    (clean_closed c.args.parts.now c.args.place c.requires.clean) c.ends_by.ensures refl in
    c.if-ends_by.true ∙ ap (λ b. b || s) (sym c.if-ends_by.true) ∙ all

pub returns-else-ends_by : goal.returns-else-ends_by
returns-else-ends_by c =
    let l = c.len.ensures in
    let all =
    strays_up c.args.parts.now.instrs c.args.innermost.now c.args.place c.args.to c.ends_by.result
    c.starts_from.result None c.requires.innermost c.requires.count (omega arith) (omega arith)
    (clean_closed c.args.parts.now c.args.place c.requires.clean) c.ends_by.ensures c.starts_from.ensures in
    ap (λ b. b || c.starts_from.result) (sym c.if-ends_by.false) ∙ all

pub returns-then-ends_by-2 : goal.returns-then-ends_by-2
returns-then-ends_by-2 c =
    let e = c.ends_by-else-place-to in
    let s = starts_from (slice_index_or c.args.innermost.now c.args.place None) c.args.to in
    let all =
    strays_down c.args.parts.now.instrs c.args.innermost.now c.args.place c.args.to e.result s None
    c.requires.innermost c.requires.count (omega arith) c.requires.within
    (clean_closed c.args.parts.now c.args.place c.requires.clean) e.ensures refl in
    c.if-ends_by-2.true ∙ ap (λ b. b || s) (sym c.if-ends_by-2.true) ∙ all

pub returns-else-ends_by-2 : goal.returns-else-ends_by-2
returns-else-ends_by-2 c =
    let e = c.ends_by-else-place-to in
    let s = c.starts_from-else-ends_by-2 in
    let all =
    strays_down c.args.parts.now.instrs c.args.innermost.now c.args.place c.args.to e.result s.result None
    c.requires.innermost c.requires.count (omega arith) c.requires.within
    (clean_closed c.args.parts.now c.args.place c.requires.clean) e.ensures s.ensures in
    ap (λ b. b || s.result) (sym c.if-ends_by-2.false) ∙ all
