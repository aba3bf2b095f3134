use Rattle.answer_laws.proofs.SourceAnswers.{read, too_many, failed}
use Rattle.answer_laws.proofs.UniqueCallAnswers.{source_answer}
use Rattle.answer_laws.proofs.source_reads.calls_answer_their_bytes.Goals as goal

pub returns-clause-read : goal.returns-clause-read
returns-clause-read c command seen left status text reads told few same within x =
    read command seen status text left told few same within (source_answer command seen status text reads x)

pub returns-clause-too_long : goal.returns-clause-too_long
returns-clause-too_long c command seen left status text reads told few same long x =
    too_many command seen status text left told few same long (source_answer command seen status text reads x)

pub returns-clause-failed : goal.returns-clause-failed
returns-clause-failed c command seen status text reads other x =
    failed command seen status text other (source_answer command seen status text reads x)
