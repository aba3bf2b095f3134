use Rattle.input_adaptors.proofs.SilenceAndLatestNumber.{joined-silent, joined-heard}
use Rattle.input_adaptors.proofs.laws.silence_gives_silence.Goals as goal

pub returns-clause-silent : goal.returns-clause-silent
returns-clause-silent c = joined-silent

pub returns-clause-heard : goal.returns-clause-heard
returns-clause-heard c = joined-heard
