-- Event series: events of one kind that are done over and over in a schedule, at equal distances in time. All times
-- are nanoseconds.
use Rattle.std.specs.Prelude.{ℕ, ◌+◌, ◌*◌, ◌<◌, ◌≤◌, nat_eq, nat_le, if◌then◌else◌, List, [], ◌∷◌, ◌++◌, length, map}
use Rattle.std.specs.Prelude.{replicate, flat_map, fold, position, Option, None, option_map}
use Rattle.pals_base.specs.declared.basic_types.NodeNo.{NodeNo}
use Rattle.pals_base.specs.declared.basic_types.LinkNo.{LinkNo}
use Rattle.pals_base.specs.declared.limits.TheConstants.{READING}
use Rattle.pals_base.specs.UpwardNumbers.{upwards}
use Rattle.pals_model.specs.declared.design.DesignParts.{DesignParts}
use Rattle.pals_runs.specs.declared.events_and_faults.Event.{Event}
use Rattle.bus_machine.specs.Plans.{plan_of}
use Rattle.run_laws.specs.Deadlines.{lesser}
use Rattle.world_gen.specs.declared.event_series.EventKind.{EventKind}
use Rattle.world_gen.specs.declared.event_series.EventKind.TheVariants.{Begin, Finish, Send, Arrive}
use Rattle.world_gen.specs.declared.event_series.EventSeries.{EventSeries}
use Rattle.world_gen.specs.proof.Schedules.{number_at_moment, event_list, step_count, begins, send_time, arrive_time}
use Rattle.pals_runs.specs.declared.events_and_faults.Event.TheVariants as event

-- ---- a course
-- a node that begins steps makes some in a round
abbrev pub HasSteps : EventKind → Type 0
HasSteps (Begin node rate) = 0 < rate
HasSteps (Finish node) = Unit {0}
HasSteps (Send node) = Unit {0}
HasSteps (Arrive link) = Unit {0}

-- its times rise, and are readings
pub record IsEventSeries (series : EventSeries) : Type 0 where
  pub steps : HasSteps series.event_kind
  pub rises : 0 < series.every
  pub fits : series.first + series.count * series.every ≤ READING

-- the time of the deed of a number
abbrev pub time_of : EventSeries → ℕ → ℕ
time_of series number = series.first + number * series.every

-- the number of the first deed that is not before a time
abbrev pub next_of : EventSeries → ℕ → Option ℕ
next_of series from = position (λ number. nat_le from (time_of series number)) (upwards 0 series.count)

-- the deed of a number as an event
abbrev pub event_of_kind : EventKind → ℕ → Event
event_of_kind (Begin node rate) number = begins rate node.0 number
event_of_kind (Finish node) number = event.Finish node
event_of_kind (Send node) number = event.Send node
event_of_kind (Arrive link) number = event.Arrive link number

abbrev pub series_events : ℕ → EventSeries → List Event
series_events moment series = event_list (number_at_moment (time_of series) series.count moment)
    (event_of_kind series.event_kind)

-- ---- courses
-- what they do at a moment
abbrev pub events_of : List EventSeries → ℕ → List Event
events_of all_series moment = flat_map (series_events moment) all_series

-- a Pass to a moment, and what they do at it
abbrev pub moment_events : ℕ → List EventSeries → ℕ → List Event
moment_events nodes all_series moment = event.Pass moment (replicate nodes moment) ∷ events_of all_series moment

-- the first moment, from a time on, at which one of them does something
abbrev pub next_moment : List EventSeries → ℕ → Option ℕ
next_moment all_series from =
    fold (λ moment series. lesser moment (option_map (time_of series) (next_of series from))) None all_series

-- ---- the series of a design
abbrev numbered_node : ℕ → NodeNo
numbered_node node = record { 0 = node }

abbrev numbered_link : ℕ → LinkNo
numbered_link link = record { 0 = link }

abbrev pub begin_series : DesignParts → ℕ → ℕ → EventSeries
begin_series design rounds node = record {
  event_kind = Begin (numbered_node node) (plan_of design node).rate;
  first = design.period;
  every = (plan_of design node).step_period;
  count = step_count design rounds node;
}

abbrev pub finish_series : DesignParts → ℕ → ℕ → EventSeries
finish_series design rounds node = record {
  event_kind = Finish (numbered_node node);
  first = design.period + design.gamma.alpha_min;
  every = (plan_of design node).step_period;
  count = step_count design rounds node;
}

abbrev pub send_series : DesignParts → ℕ → ℕ → EventSeries
send_series design rounds node = record {
  event_kind = Send (numbered_node node);
  first = send_time design node 0;
  every = design.period;
  count = rounds;
}

abbrev pub arrive_series : DesignParts → ℕ → ℕ → EventSeries
arrive_series design rounds link = record {
  event_kind = Arrive (numbered_link link);
  first = arrive_time design link 0;
  every = design.period;
  count = rounds;
}

-- one for each number
abbrev pub each_of : ℕ → (ℕ → EventSeries) → List EventSeries
each_of count series = map series (upwards 0 count)

abbrev pub all_begins : DesignParts → ℕ → List EventSeries
all_begins design rounds = each_of (length design.components) (begin_series design rounds)

abbrev pub all_finishes : DesignParts → ℕ → List EventSeries
all_finishes design rounds = each_of (length design.components) (finish_series design rounds)

abbrev pub all_sends : DesignParts → ℕ → List EventSeries
all_sends design rounds = each_of (length design.components) (send_series design rounds)

abbrev pub all_arrivals : DesignParts → ℕ → List EventSeries
all_arrivals design rounds = each_of (length design.links) (arrive_series design rounds)

-- a step that takes no time is finished in the moment in which it begins
abbrev pub earlier_series : DesignParts → ℕ → List EventSeries
earlier_series design rounds = if nat_eq design.gamma.alpha_min 0 then [] else all_finishes design rounds

abbrev pub present_series : DesignParts → ℕ → List EventSeries
present_series design rounds = if nat_eq design.gamma.alpha_min 0 then all_finishes design rounds else []

-- all of them, in the order in which they occur at one moment
abbrev pub timetable : DesignParts → ℕ → List EventSeries
timetable design rounds =
    earlier_series design rounds
    ++ (all_begins design rounds
    ++ (present_series design rounds
    ++ (all_sends design rounds
    ++ all_arrivals design rounds)))
