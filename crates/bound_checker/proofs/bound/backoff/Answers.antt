use Rattle.std.proofs.Common.{rules}
use Rattle.bound_checker.proofs.bound.backoff.Goals as goal

pub returns : goal.returns
returns c = search rules
