use Rattle.input_adaptors.proofs.SilenceAndLatestNumber.{IsLatest-joined}
use Rattle.input_adaptors.proofs.laws.latest_is_last.Goals as goal

pub returns : goal.returns
returns c = IsLatest-joined
