use Rattle.std.proofs.Common.{None, Some, length, pos, sym, subst, slice_index_or}
use Rattle.step_code.specs.declared.instr.Instr.TheVariants.{Push}
use Rattle.step_code.specs.SuccessorsAndWeights.{forward_successors}
use Rattle.step_code.specs.proof.VerifierIntermediateResults.{AreThere}
use Rattle.step_code.proofs.ReachedHeights.{held_at, low_held, unreached_heights}
use Rattle.step_code.proofs.CheckedPlaces.{known_by, unreached_clean, passed_clean, passed_heights, passed_fault}
use Rattle.step_code.proofs.CheckedPlaces.{known_there}
use Rattle.step_code.proofs.verifier.check_place.Goals as goal

pub pass_on-requires-clause-low : goal.pass_on-requires-clause-low
pass_on-requires-clause-low c =
    let parts = c.args.parts.now in
    let hs = c.args.heights.now in
    let at = c.args.at in
    low_held parts.instrs parts.entries hs at at c.in-Some.height c.requires.heights c.requires.within
    (held_at hs at (length parts.instrs) (Some c.in-Some.height) c.requires.heights.count c.requires.within
    c.in-Some.is)

pub pass_on-requires-clause-there : goal.pass_on-requires-clause-there
pass_on-requires-clause-there c =
    let known =
    known_by c.args.parts.now c.args.at c.as_slice.result.now c.as_slice-2.result.now (Push (pos 0))
    c.jumps_badly.result c.jumps_back.result c.misses_slot.result
    c.as_slice.ensures.value c.as_slice-2.ensures.value c.requires.within c.requires.entry
    c.jumps_badly.ensures c.if-jumps_badly.false c.jumps_back.ensures c.if-jumps_back.false c.misses_slot.ensures
    c.if-misses_slot.false in
    let i = slice_index_or c.as_slice.result.now c.args.at (Push (pos 0)) in
    subst (AreThere (forward_successors c.args.at (Some i))) (sym c.requires.heights.count)
    (known_there c.args.parts.now c.args.at i known)

pub returns-in-None-clause-clean : goal.returns-in-None-clause-clean
returns-in-None-clause-clean c =
    let parts = c.args.parts.now in
    let hs = c.args.heights.now in
    let at = c.args.at in
    let i = slice_index_or c.as_slice.result.now at (Push (pos 0)) in
    let known =
    known_by parts at c.as_slice.result.now c.as_slice-2.result.now (Push (pos 0)) c.jumps_badly.result
    c.jumps_back.result c.misses_slot.result
    c.as_slice.ensures.value c.as_slice-2.ensures.value c.requires.within c.requires.entry
    c.jumps_badly.ensures c.if-jumps_badly.false c.jumps_back.ensures c.if-jumps_back.false c.misses_slot.ensures
    c.if-misses_slot.false in
    unreached_clean parts hs at i known c.requires.clean c.requires.heights c.requires.within
    (held_at hs at (length parts.instrs) None c.requires.heights.count c.requires.within c.in-None.is)

pub returns-in-None-clause-heights : goal.returns-in-None-clause-heights
returns-in-None-clause-heights c =
    let parts = c.args.parts.now in
    let hs = c.args.heights.now in
    let at = c.args.at in
    unreached_heights parts.instrs parts.entries hs at c.requires.heights c.requires.within
    (held_at hs at (length parts.instrs) None c.requires.heights.count c.requires.within c.in-None.is)

pub returns-in-Some-clause-clean : goal.returns-in-Some-clause-clean
returns-in-Some-clause-clean c =
    let parts = c.args.parts.now in
    let hs = c.args.heights.now in
    let at = c.args.at in
    let i = slice_index_or c.as_slice.result.now at (Push (pos 0)) in
    let known =
    known_by parts at c.as_slice.result.now c.as_slice-2.result.now (Push (pos 0)) c.jumps_badly.result
    c.jumps_back.result c.misses_slot.result
    c.as_slice.ensures.value c.as_slice-2.ensures.value c.requires.within c.requires.entry
    c.jumps_badly.ensures c.if-jumps_badly.false c.jumps_back.ensures c.if-jumps_back.false c.misses_slot.ensures
    c.if-misses_slot.false in
    passed_clean parts hs c.pass_on.new.heights at c.in-Some.height i c.pass_on.result known c.requires.clean
    c.requires.heights c.requires.within
    (held_at hs at (length parts.instrs) (Some c.in-Some.height) c.requires.heights.count c.requires.within
    c.in-Some.is) c.pass_on.ensures

pub returns-in-Some-clause-heights : goal.returns-in-Some-clause-heights
returns-in-Some-clause-heights c =
    let parts = c.args.parts.now in
    let hs = c.args.heights.now in
    let at = c.args.at in
    let i = slice_index_or c.as_slice.result.now at (Push (pos 0)) in
    let known =
    known_by parts at c.as_slice.result.now c.as_slice-2.result.now (Push (pos 0)) c.jumps_badly.result
    c.jumps_back.result c.misses_slot.result
    c.as_slice.ensures.value c.as_slice-2.ensures.value c.requires.within c.requires.entry
    c.jumps_badly.ensures c.if-jumps_badly.false c.jumps_back.ensures c.if-jumps_back.false c.misses_slot.ensures
    c.if-misses_slot.false in
    passed_heights parts hs c.pass_on.new.heights at c.in-Some.height i c.pass_on.result known c.requires.heights
    c.requires.within
    (held_at hs at (length parts.instrs) (Some c.in-Some.height) c.requires.heights.count c.requires.within
    c.in-Some.is) c.pass_on.ensures

pub returns-in-Some-clause-fault : goal.returns-in-Some-clause-fault
returns-in-Some-clause-fault c =
    let parts = c.args.parts.now in
    let hs = c.args.heights.now in
    let at = c.args.at in
    let i = slice_index_or c.as_slice.result.now at (Push (pos 0)) in
    let known =
    known_by parts at c.as_slice.result.now c.as_slice-2.result.now (Push (pos 0)) c.jumps_badly.result
    c.jumps_back.result c.misses_slot.result
    c.as_slice.ensures.value c.as_slice-2.ensures.value c.requires.within c.requires.entry
    c.jumps_badly.ensures c.if-jumps_badly.false c.jumps_back.ensures c.if-jumps_back.false c.misses_slot.ensures
    c.if-misses_slot.false in
    passed_fault parts hs c.pass_on.new.heights at c.in-Some.height i c.pass_on.result c.requires.short known
    c.requires.clean c.requires.heights c.requires.within
    (held_at hs at (length parts.instrs) (Some c.in-Some.height) c.requires.heights.count c.requires.within
    c.in-Some.is) c.pass_on.ensures
