use Rattle.answer_laws.proofs.ExistingAnswers.{one_answer}
use Rattle.answer_laws.proofs.existence.exactly_one_answer.Goals as goal

pub returns : goal.returns
returns c command bundle not_run form =
    one_answer c.answer_is_decided.ensures command bundle not_run
    (c.each_bundle_has_an_answer.ensures command bundle form)
