use Rattle.std.proofs.Common.{arith}
use Rattle.std.specs.List.{enumerate_from}
use Rattle.std.proofs.lemmas.List.{get_or_default}
use Rattle.pals_model.specs.RoundTexts.{line_end}
use Rattle.pals_report.proofs.LinePerItem.{lines_turn, lines_all}
use Rattle.code_listing.specs.Listings.{instr_line}
use Rattle.code_listing.specs.NumberRanges.{InstrFits}
use Rattle.code_listing.proofs.ZippedAndNumberedItems.{numbered_within, numbered_at, numbered_end, holds_turn}
use Rattle.code_listing.proofs.ZippedAndNumberedItems.{holds_all}
use Rattle.code_listing.proofs.instr.add_instrs.Goals as goal

pub loop-place-preserved : goal.loop-place-preserved
loop-place-preserved c =
    let instrs = c.args.instrs.now in
    let at = c.loop-place.place in
    let here = get_or_default instrs at _ _ c.loop-place-test.true in (
      lines_turn line_end (λ numbered. instr_line c.args.behaviour.now numbered.0 numbered.1) (enumerate_from 0 instrs)
          at (at, _) _ _ _
          (numbered_within instrs at c.loop-place-test.true) (numbered_at instrs at _ c.loop-place-test.true here)
          c.loop-place.invariant.0
          c.in_ok-add_instr.ensures.ok,
      holds_turn InstrFits instrs at _ c.loop-place-test.true here c.loop-place.invariant.1
          c.in_ok-add_instr.ensures.fit,
    )

pub returns-clause-ok : goal.returns-clause-ok
returns-clause-ok c =
    let instrs = c.args.instrs.now in
    lines_all line_end (λ numbered. instr_line c.args.behaviour.now numbered.0 numbered.1) (enumerate_from 0 instrs)
    c.loop-place.place _ _
    (numbered_end instrs c.loop-place.place (omega arith)) c.loop-place.invariant.0

pub returns-clause-fit : goal.returns-clause-fit
returns-clause-fit c = holds_all InstrFits c.args.instrs.now c.loop-place.place (omega arith) c.loop-place.invariant.1
