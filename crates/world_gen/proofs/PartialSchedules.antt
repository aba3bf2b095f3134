-- A schedule as it is built, moment by moment: up to a time, with one moment more, and complete after the last moment.
use Rattle.std.proofs.Common.{◌≡◌, ◌≢◌, ℕ, suc, ◌+◌, ◌<◌, ◌≤◌, List, [], ◌∷◌, ◌++◌, length, Some, None, sym, ap, ap₂}
use Rattle.std.proofs.Common.{◌∙◌, subst, append_assoc, add-one, All}
use Rattle.std.specs.Prelude.{replicate}
use Rattle.std.proofs.lemmas.List.{flat_map_more, append-nil}
use Rattle.pals_base.specs.declared.limits.TheConstants.{ROUNDS, READING}
use Rattle.pals_model.specs.declared.design.DesignParts.{DesignParts}
use Rattle.pals_model.specs.declared.environment.Env.{Env}
use Rattle.pals_model.specs.DesignRules.{IsDesign}
use Rattle.pals_runs.specs.declared.events_and_faults.Event.{Event}
use Rattle.pals_runs.specs.declared.events_and_faults.Event.TheVariants as event
use Rattle.run_laws.specs.Worlds.{world_run}
use Rattle.world_gen.specs.declared.event_series.EventSeries.{EventSeries}
use Rattle.world_gen.specs.proof.ScheduleLaws.{IsWhole}
use Rattle.world_gen.specs.proof.Schedules.{events_at, AreMoments, schedule_at, IsScheduleOf}
use Rattle.world_gen.specs.proof.EventSeries.{IsEventSeries, events_of, moment_events, next_moment, timetable}
use Rattle.world_gen.proofs.NextMoment.{moment_is, moments_are_over}
use Rattle.world_gen.proofs.DesignSeries.{events_are, timetable_is_sound}
use Rattle.world_gen.proofs.WholeSchedules.{schedules_are_whole}

abbrev at_moment : DesignParts → ℕ → ℕ → List Event
at_moment design rounds moment =
    event.Pass moment (replicate (length design.components) moment) ∷ events_at design rounds moment

-- the events are the events of all moments before a time
pub record IsSoFar (design : DesignParts) (rounds from : ℕ) (events : List Event) : Type 0 where
  pub moments : List ℕ
  pub made : events ≡ schedule_at design rounds moments
  pub goes_on : (later : List ℕ) → AreMoments design rounds from later → AreMoments design rounds 0 (moments ++ later)

pub nothing_yet : (design : DesignParts) (rounds : ℕ) (events : List Event) → events ≡ []
    → IsSoFar design rounds 0 events
nothing_yet design rounds events none = record { moments = []; made = none; goes_on = λ later are. are }

one_more : (design : DesignParts) (rounds from moment : ℕ) (events after : List Event) → from ≤ moment
    → ((time : ℕ) → from ≤ time → time < moment → events_at design rounds time ≡ [])
    → events_at design rounds moment ≢ []
    → after ≡ events ++ at_moment design rounds moment → IsSoFar design rounds from events
    → IsSoFar design rounds (moment + 1) after
one_more design rounds from moment events after forward quiet something is_after so_far = record {
  moments = so_far.moments ++ moment ∷ [];
  made =
      is_after ∙ ap (λ es. es ++ at_moment design rounds moment) so_far.made
      ∙ flat_map_more (at_moment design rounds) [] so_far.moments moment;
  goes_on = λ later are.
      let next : AreMoments design rounds (suc moment) later =
      subst (λ time. AreMoments design rounds time later) (add-one moment) are in
      subst (AreMoments design rounds 0) (sym (append_assoc so_far.moments (moment ∷ []) later))
      (so_far.goes_on (moment ∷ later) (forward, quiet, something, next));
}

-- ---- by the series
-- the time advances, and does not pass the readings
pub record GoesOn (design : DesignParts) (rounds from moment : ℕ) (events : List Event) : Type 0 where
  pub so_far : IsSoFar design rounds (moment + 1) events
  pub forward : from ≤ moment
  pub reading : moment ≤ READING

pub goes_on : (design : DesignParts) (rounds from moment : ℕ) (all_series : List EventSeries) (nodes : ℕ)
    (events after : List Event) → IsDesign design → rounds ≤ ROUNDS
    → all_series ≡ timetable design rounds → nodes ≡ length design.components
    → Some moment ≡ next_moment all_series from
    → after ≡ events ++ moment_events nodes all_series moment
    → IsSoFar design rounds from events → GoesOn design rounds from moment after
goes_on design rounds from moment all_series nodes events after rules few are count is is_after so_far =
    let here : next_moment (timetable design rounds) from ≡ Some moment =
    ap (λ cs. next_moment cs from) (sym are) ∙ sym is in
    let next = moment_is (timetable design rounds) from moment (timetable_is_sound design rules rounds few) here in
    let same : (time : ℕ) → events_of (timetable design rounds) time ≡ events_at design rounds time =
    events_are design rules rounds in
    record {
      so_far = one_more design rounds from moment events after next.after
          (λ time late early. sym (same time) ∙ next.quiet time late early)
          (λ none. next.something (same moment ∙ none))
          (is_after ∙ ap₂ (λ (n : ℕ) (cs : List EventSeries). events ++ moment_events n cs moment) count are
          ∙ ap (λ es. events ++ (event.Pass moment (replicate (length design.components) moment) ∷ es)) (same moment))
          so_far;
      forward = next.after;
      reading = next.reading;
    }

pub record IsDone (design : DesignParts) (rounds : ℕ) (events : List Event) : Type 0 where
  pub exact : IsScheduleOf design rounds events
  pub whole : (env : Env) → IsWhole (world_run design env rounds) events

pub is_done : (design : DesignParts) (rounds from : ℕ) (all_series : List EventSeries) (events : List Event)
    → IsDesign design → 1 ≤ rounds
    → all_series ≡ timetable design rounds → None ≡ next_moment all_series from → IsSoFar design rounds from events
    → IsDone design rounds events
is_done design rounds from all_series events rules some are is so_far =
    let over : next_moment (timetable design rounds) from ≡ None = ap (λ cs. next_moment cs from) (sym are) ∙ sym is in
    let quiet : (time : ℕ) → from ≤ time → events_at design rounds time ≡ [] =
    λ time late. sym (events_are design rules rounds time)
    ∙ moments_are_over (timetable design rounds) from over time late in
    let all = so_far.goes_on [] quiet in
    let moments = so_far.moments ++ [] in
    let made : events ≡ schedule_at design rounds moments = so_far.made
    ∙ ap (schedule_at design rounds) (sym (append-nil so_far.moments)) in
    record {
      exact = (moments, all, made);
      whole = λ env.
          subst (IsWhole (world_run design env rounds)) (sym made)
          (schedules_are_whole (world_run design env rounds) moments (record { design = rules; rounds = some }) all);
    }

pub timetable_keeps : (design : DesignParts) (rounds : ℕ) (all_series : List EventSeries) → IsDesign design
    → rounds ≤ ROUNDS → all_series ≡ timetable design rounds → All IsEventSeries all_series
timetable_keeps design rounds all_series rules few are =
    subst (All IsEventSeries) (sym are) (timetable_is_sound design rules rounds few)
