use Rattle.std.proofs.Common.{◌<◌, None, length, sym, subst, arith, rules, slice_index_or}
use Rattle.step_code.proofs.InnermostLoops.{start_of, start_falls}
use Rattle.step_code.proofs.LoopCrossings.{LooksOn, looks_further}
use Rattle.step_code.proofs.FaultlessInstructions.{clean_closed}
use Rattle.step_code.proofs.instruction_rules.misses_loop_slot.Goals as goal

pub bounds-innermost-found : goal.bounds-innermost-found
bounds-innermost-found c =
    let code = c.args.parts.now.instrs in
    let n = c.requires.count in
    let on = subst (LooksOn code c.args.place c.args.slot) c.in-Some.is c.loop-round.invariant in
    let next =
    looks_further code c.args.innermost.now c.args.place c.args.slot c.in-Some.found None c.requires.innermost
    (omega arith) n (clean_closed c.args.parts.now c.args.place c.requires.clean) on c.if-found-slot.false in
    let less = next.1 in
    omega arith

pub offset_bounds-innermost-found : goal.offset_bounds-innermost-found
offset_bounds-innermost-found c =
    let within : c.in-Some.found.start < length c.args.innermost.now = bounds-innermost-found c in
    search rules

pub loop-round-smaller : goal.loop-round-smaller
loop-round-smaller c =
    let code = c.args.parts.now.instrs in
    let found = c.args.innermost.now in
    let n = c.requires.count in
    let on = subst (LooksOn code c.args.place c.args.slot) c.in-Some.is c.loop-round.invariant in
    let next =
    looks_further code found c.args.place c.args.slot c.in-Some.found None c.requires.innermost (omega arith) n
    (clean_closed c.args.parts.now c.args.place c.requires.clean) on c.if-found-slot.false in
    let less = next.1 in
    subst (λ o. start_of (slice_index_or found c.in-Some.found.start None) < start_of o) (sym c.in-Some.is)
    (start_falls code found c.in-Some.found None c.requires.innermost (omega arith))

pub loop-round-preserved : goal.loop-round-preserved
loop-round-preserved c =
    let code = c.args.parts.now.instrs in
    let n = c.requires.count in
    let on = subst (LooksOn code c.args.place c.args.slot) c.in-Some.is c.loop-round.invariant in
    (looks_further code c.args.innermost.now c.args.place c.args.slot c.in-Some.found None c.requires.innermost
    (omega arith) n (clean_closed c.args.parts.now c.args.place c.requires.clean) on c.if-found-slot.false).0
