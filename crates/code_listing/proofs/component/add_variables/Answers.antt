use Rattle.pals_model.specs.RoundTexts.{line_end}
use Rattle.pals_report.proofs.LinePerItem.{lines_turn}
use Rattle.code_listing.specs.Listings.{variable_line}
use Rattle.code_listing.specs.NumberRanges.{FirstFits}
use Rattle.code_listing.proofs.ZippedAndNumberedItems.{holds_turn}
use Rattle.code_listing.proofs.component.add_variables.Goals as goal

pub loop-variable-preserved : goal.loop-variable-preserved
loop-variable-preserved c =
    let variables = c.args.variables.now in
    let at = c.loop-variable.variable-index in
    let item = c.variable-item.result in (
      lines_turn line_end variable_line variables at item _ _ _ c.loop-variable-test.true c.variable-item.is
          c.loop-variable.invariant.0 c.in_ok-add_variable.ensures.ok,
      holds_turn FirstFits variables at item c.loop-variable-test.true c.variable-item.is c.loop-variable.invariant.1
          c.in_ok-add_variable.ensures.fit,
    )
