use Rattle.std.proofs.Common.{◌≡◌, ◌++◌, map, take, All}
use Rattle.pals_model.specs.RoundTexts.{text_of}
use Rattle.code_listing.specs.Listings.{variable_line}
use Rattle.code_listing.specs.NumberRanges.{FirstFits}
use Rattle.code_listing.proofs.component.add_variables.Given as goal

-- the lines so far, of variables whose first values fit
abbrev pub invariant-loop-variable : goal.invariant-loop-variable
invariant-loop-variable l =
    (l.out.items ≡ l.fn.out.items ++ text_of (map variable_line (take l.variable-index l.variables)))
    × All FirstFits (take l.variable-index l.variables)
