use Rattle.std.proofs.Common.{◌≡◌, ◌++◌, map, take, All}
use Rattle.std.specs.List.{enumerate_from}
use Rattle.pals_model.specs.RoundTexts.{text_of}
use Rattle.code_listing.specs.Listings.{instr_line}
use Rattle.code_listing.specs.NumberRanges.{InstrFits}
use Rattle.code_listing.proofs.instr.add_instrs.Given as goal

-- the lines so far, of instructions whose numbers fit
abbrev pub invariant-loop-place : goal.invariant-loop-place
invariant-loop-place l =
    (l.out.items ≡ l.fn.out.items
    ++ text_of (map (λ numbered. instr_line l.behaviour numbered.0 numbered.1)
    (take l.place (enumerate_from 0 l.instrs))))
    × All InstrFits (take l.place l.instrs)
