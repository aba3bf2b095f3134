use Rattle.run_laws.proofs.MeetingStopsAndBounds.{meetings_stop, meetings_end, no_meeting_stops}
use Rattle.run_laws.proofs.laws.meetings_stop.Goals as goal

pub returns : goal.returns
returns c = record { stops = meetings_stop; end = meetings_end; none = no_meeting_stops }
