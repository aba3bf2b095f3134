-- Schedules: all clocks show the time, each step starts at its alarm and takes the minimum time, and each message is
-- sent as early as allowed and takes the minimum time.
use Rattle.std.specs.Prelude.{◌≡◌, ◌≢◌, ℕ, suc, ◌+◌, ◌-◌, ◌*◌, ◌/◌, ◌%◌, ◌<◌, ◌≤◌, max, nat_eq, if◌then◌else◌, List, []}
use Rattle.std.specs.Prelude.{◌∷◌, ◌++◌, length, replicate, flat_map, position, Option, Some, None}
use Rattle.pals_base.specs.PeriodBoundAndReleases.{alarm}
use Rattle.pals_base.specs.UpwardNumbers.{upwards}
use Rattle.pals_model.specs.declared.design.DesignParts.{DesignParts}
use Rattle.pals_runs.specs.declared.events_and_faults.Event.{Event}
use Rattle.bus_machine.specs.Plans.{plan_of, link_at}
use Rattle.pals_runs.specs.declared.events_and_faults.Event.TheVariants as event

-- ---- when things come
-- step i of round r of a node, where its steps are numbered through all rounds
abbrev pub step_time : DesignParts → ℕ → ℕ → ℕ
step_time design node number =
    let plan = plan_of design node in
    alarm design.period (number / plan.rate) + number % plan.rate * plan.step_period

abbrev pub finish_time : DesignParts → ℕ → ℕ → ℕ
finish_time design node number = step_time design node number + design.gamma.alpha_min

-- a round goes out once the last of its steps that is sent is finished, and not before its release
abbrev pub send_time : DesignParts → ℕ → ℕ → ℕ
send_time design node round =
    let plan = plan_of design node in
    max (alarm design.period round + (plan.sent_steps - 1) * plan.step_period + design.gamma.alpha_min)
    (alarm design.period round + plan.release_offset)

abbrev pub arrive_time : DesignParts → ℕ → ℕ → ℕ
arrive_time design link round = send_time design (link_at design link).source.0 round + design.gamma.mu_min

-- ---- the events at a moment
-- the number, below a count, of the first time that is this moment
abbrev pub number_at_moment : (ℕ → ℕ) → ℕ → ℕ → Option ℕ
number_at_moment time count moment = position (λ number. nat_eq (time number) moment) (upwards 0 count)

abbrev pub event_list : Option ℕ → (ℕ → Event) → List Event
event_list None e = []
event_list (Some number) e = e number ∷ []

-- in order of their numbers
abbrev pub all_of : ℕ → (ℕ → List Event) → List Event
all_of count f = flat_map f (upwards 0 count)

abbrev pub step_count : DesignParts → ℕ → ℕ → ℕ
step_count design rounds node = rounds * (plan_of design node).rate

-- the first step of a round is its start
abbrev pub begins : ℕ → ℕ → ℕ → Event
begins rate node number =
    if nat_eq (number % rate) 0 then event.Start (record { 0 = node }) else event.Step (record { 0 = node })

abbrev pub starts_at : DesignParts → ℕ → ℕ → ℕ → List Event
starts_at design rounds moment node =
    event_list (number_at_moment (step_time design node) (step_count design rounds node) moment)
    (begins (plan_of design node).rate node)

abbrev pub finishes_at : DesignParts → ℕ → ℕ → ℕ → List Event
finishes_at design rounds moment node =
    event_list (number_at_moment (finish_time design node) (step_count design rounds node) moment)
    (λ number. event.Finish (record { 0 = node }))

abbrev pub sends_at : DesignParts → ℕ → ℕ → ℕ → List Event
sends_at design rounds moment node =
    event_list (number_at_moment (send_time design node) rounds moment) (λ round. event.Send (record { 0 = node }))

abbrev pub arrivals_at : DesignParts → ℕ → ℕ → ℕ → List Event
arrivals_at design rounds moment link =
    event_list (number_at_moment (arrive_time design link) rounds moment)
    (λ round. event.Arrive (record { 0 = link }) round)

abbrev pub finishes : DesignParts → ℕ → ℕ → List Event
finishes design rounds moment = all_of (length design.components) (finishes_at design rounds moment)

-- a step that takes no time is finished in the moment in which it begins
abbrev pub earlier_finishes : DesignParts → ℕ → ℕ → List Event
earlier_finishes design rounds moment = if nat_eq design.gamma.alpha_min 0 then [] else finishes design rounds moment

abbrev pub present_finishes : DesignParts → ℕ → ℕ → List Event
present_finishes design rounds moment = if nat_eq design.gamma.alpha_min 0 then finishes design rounds moment else []

abbrev pub events_at : DesignParts → ℕ → ℕ → List Event
events_at design rounds moment =
    earlier_finishes design rounds moment
    ++ (all_of (length design.components) (starts_at design rounds moment)
    ++ (present_finishes design rounds moment
    ++ (all_of (length design.components) (sends_at design rounds moment)
    ++ all_of (length design.links) (arrivals_at design rounds moment))))

-- ---- the moments
-- from a time on, in order: at each something comes, and at no other time
abbrev pub AreMoments : DesignParts → ℕ → ℕ → List ℕ → Type 0
AreMoments design rounds from [] = (time : ℕ) → from ≤ time → events_at design rounds time ≡ []
AreMoments design rounds from (moment ∷ later) =
    (from ≤ moment) × ((time : ℕ) → from ≤ time → time < moment → events_at design rounds time ≡ [])
    × (events_at design rounds moment ≢ []) × AreMoments design rounds (suc moment) later

-- one Pass to each of them, and the events at it
abbrev pub schedule_at : DesignParts → ℕ → List ℕ → List Event
schedule_at design rounds moments =
    flat_map (λ moment. event.Pass moment (replicate (length design.components) moment)
    ∷ events_at design rounds moment) moments

-- the events of all moments
abbrev pub IsScheduleOf : DesignParts → ℕ → List Event → Type 0
IsScheduleOf design rounds events =
    (moments : List ℕ) × AreMoments design rounds 0 moments × (events ≡ schedule_at design rounds moments)
