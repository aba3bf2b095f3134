use Rattle.std.proofs.Common.{◌<◌, ◌∙◌, None, sym, ap, subst, length, ◌-◌, slice_index_or}
use Rattle.std.specs.Option.{option_or}
use Rattle.step_code.specs.proof.InnermostLoops.{ComesFrom}
use Rattle.step_code.proofs.InnermostLoops.{comes_first, comes_next, start_of, start_falls}
use Rattle.step_code.proofs.loops.innermost_at.Goals as goal

pub loop-candidate-init : goal.loop-candidate-init
loop-candidate-init c =
    let code = c.args.instrs.now in
    let found = c.args.found.now in
    let is =
    c.or-candidate.ensures ∙ ap (λ o. option_or o (slice_index_or found (length found - 1) None))
    c.loop_at.ensures in
    subst (ComesFrom code (length found)) (sym is) (comes_first code found None c.requires c.if-place-eq0.false)

pub loop-candidate-smaller : goal.loop-candidate-smaller
loop-candidate-smaller c =
    let found = c.args.found.now in
    let from = subst (ComesFrom c.args.instrs.now (length found)) c.in-Some.is c.loop-candidate.invariant in
    subst (λ o. start_of (slice_index_or found c.in-Some.open.start None) < start_of o) (sym c.in-Some.is)
    (start_falls c.args.instrs.now found c.in-Some.open None c.requires from.starts)

pub loop-candidate-preserved : goal.loop-candidate-preserved
loop-candidate-preserved c =
    let from = subst (ComesFrom c.args.instrs.now (length c.args.found.now)) c.in-Some.is c.loop-candidate.invariant in
    comes_next c.args.instrs.now c.args.found.now c.in-Some.open None c.requires from c.if-place-open.false
