use Rattle.answer_laws.proofs.ReadStatuses.{failed_exactly, too_many_exactly}
use Rattle.answer_laws.proofs.UniqueCallAnswers.{source_answer}
use Rattle.answer_laws.proofs.source_reads.statuses_of_calls.Goals as goal

pub returns-clause-failed : goal.returns-clause-failed
returns-clause-failed c command seen status text reads few answer =
    failed_exactly command seen few status text (source_answer command seen status text reads answer)

pub returns-clause-too_long : goal.returns-clause-too_long
returns-clause-too_long c command seen left status text reads told few answer =
    too_many_exactly command seen few status text left told (source_answer command seen status text reads answer)
