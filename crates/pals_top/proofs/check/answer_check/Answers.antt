use Rattle.std.proofs.Common.{inr}
use Rattle.std.proofs.lemmas.Result.{IfOk-weaker}
use Rattle.pals_top.proofs.RefusalAnswers.{bundle_refused}
use Rattle.pals_top.proofs.check.answer_check.Goals as goal

pub returns-in-Err : goal.returns-in-Err
returns-in-Err c =
    IfOk-weaker c.refused.result _ _
    (λ a says. inr (bundle_refused c.args.root.now c.args.bundle.now c.in-Err.refusal a c.in-Err.ensures.refused
    says)) c.refused.ensures.answer
