use Rattle.run_laws.proofs.MeetingLines.{meetings_show_targets}
use Rattle.run_laws.proofs.laws.meetings_show_targets.Goals as goal

pub returns : goal.returns
returns c = meetings_show_targets
