-- Laws of nodes that meet: what lines show, and how a run ends or stops.
use Rattle.std.specs.Prelude.{◌≡◌, ℕ, [], None, IfSome}
use Rattle.run_laws.specs.proof.RunQuantifiers.{InMeetings}
use Rattle.run_laws.specs.Meetings.{ShowTargets, AllDone, IsLate, MeetingStop}
use Rattle.run_laws.specs.BoundsBrokenAtStops.{DelaysFit}

abbrev pub MeetingsShowTargets : Type 0
MeetingsShowTargets = InMeetings (λ run journal s. ShowTargets run [] journal)

-- if all nodes are done, no round of a link is late
abbrev pub MeetingsEnd : Type 0
MeetingsEnd = InMeetings (λ run journal s. AllDone run s → (number round : ℕ) → IsLate run number round → ⊥)

abbrev pub MeetingsStop : Type 0
MeetingsStop = InMeetings (λ run journal s. IfSome s.stop (MeetingStop run))

-- with such delays the run never has a stop
abbrev pub NoMeetingStops : Type 0
NoMeetingStops = InMeetings (λ run journal s. DelaysFit run → s.stop ≡ None)
