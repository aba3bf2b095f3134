use Rattle.std.proofs.Common.{inl}
use Rattle.std.proofs.lemmas.Result.{IfOk-weaker}
use Rattle.pals_code.proofs.BundleAnswers.{refused}
use Rattle.pals_code.proofs.bundle_answer.answer_bundle.Goals as goal

pub returns-in-Err : goal.returns-in-Err
returns-in-Err c =
    IfOk-weaker c.refused.result _ _
    (λ a says. inl (refused c.args.root.now c.args.bundle.now c.in-Err.refusal a c.in-Err.ensures.refused says))
    c.refused.ensures.answer
