use Rattle.answer_laws.proofs.UniqueCallAnswers.{one_answer}
use Rattle.answer_laws.proofs.answer_uniqueness.answer_of_a_call_is_decided.Goals as goal

pub returns : goal.returns
returns c command seen left s t a b not_run told few x y =
    one_answer c.answer_is_decided.ensures command seen left not_run told few s t a b x y
