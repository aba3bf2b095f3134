-- Step codes that are laid out for the same behaviours are equal, so a budget has one text and one verdict:
-- TextIsOne and VerdictIsOne.
use Rattle.std.proofs.Common.{ap, List}
use Rattle.step_code.specs.declared.instr.CodeParts.{CodeParts}
use Rattle.step_compiler.proofs.LayoutLaws.{laid_out_codes_are_one}
use Rattle.round_budget.specs.BudgetText.{some_is_over, budget_text}
use Rattle.round_budget.specs.proof.BudgetLaws.{TextIsOne, VerdictIsOne}

pub text_is_one : TextIsOne
text_is_one design behaviours programs others processors laid other =
    ap (λ (all : List CodeParts). budget_text design all processors)
    (laid_out_codes_are_one behaviours programs others laid other)

pub verdict_is_one : VerdictIsOne
verdict_is_one design behaviours programs others processors laid other =
    ap (λ (all : List CodeParts). some_is_over design all processors)
    (laid_out_codes_are_one behaviours programs others laid other)
