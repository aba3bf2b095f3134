use Rattle.std.proofs.Common.{◌≡◌, ◌∙◌, Some, sym, ap, subst, rules, w64}
use Rattle.std.proofs.lemmas.Int.{to_z-of_z}
use mir.Val.{SFits}
use Rattle.step_code.specs.Loops.{loop_from}
use Rattle.step_code.proofs.loops.loop_at.Goals as goal

pub returns : goal.returns
returns c =
    let l = c.in-Some-LoopStart in
    let low : SFits w64 l.low = search rules in
    let high : SFits w64 l.high = search rules in
    let done = simp to_z-of_z at c.if_closed.ensures in
    let at = sym c.instr_at.ensures ∙ l.is ∙ ap Some l.field-0-is in
    subst (λ o. c.if_closed.result ≡ loop_from c.args.instrs.now c.args.place o) (sym at) done
