use Rattle.std.proofs.Common.{inr}
use Rattle.std.proofs.lemmas.Result.{IfOk-weaker}
use Rattle.pals_top.proofs.RefusalAnswers.{text_refused}
use Rattle.pals_top.proofs.print.answer_print.Goals as goal

pub returns-in-Err : goal.returns-in-Err
returns-in-Err c =
    IfOk-weaker c.refused.result _ _
    (λ a says. inr (text_refused c.args.bundle.now c.in-Err.refusal a c.in-Err.ensures.refused says))
    c.refused.ensures.answer
