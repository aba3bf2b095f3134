-- The event series of a design are sound, and have at each moment the events of its schedule.
use Rattle.std.proofs.Common.{◌≡◌, ℕ, zero, suc, ◌+◌, ◌*◌, ◌<◌, ◌≤◌, nat_eq, Bool, true, false, List, [], ◌∷◌, ◌++◌}
use Rattle.std.proofs.Common.{length, map, Some, All, cond, refl, sym, ap, ap₂, ◌∙◌, arith}
use Rattle.std.specs.Prelude.{flat_map, if◌then◌else◌}
use Rattle.std.specs.List.{position_from}
use Rattle.std.proofs.lemmas.Iterator.Adapters.{position_from-zero}
use Rattle.std.proofs.lemmas.List.Concat.{flat_map-append}
use Rattle.std.proofs.lemmas.List.Elements.{All-nil, All-append}
use Rattle.std.proofs.lemmas.Nat.{mul-le}
use Rattle.pals_base.specs.declared.limits.TheConstants.{HOUR, ROUNDS, READING}
use Rattle.pals_base.specs.UpwardNumbers.{upwards}
use Rattle.pals_model.specs.declared.design.DesignParts.{DesignParts}
use Rattle.pals_model.specs.ComponentInputs.{no_env}
use Rattle.pals_model.specs.DesignRules.{IsDesign}
use Rattle.pals_runs.specs.declared.events_and_faults.Event.{Event}
use Rattle.pals_runs.specs.declared.events_and_faults.Event.TheVariants as event
use Rattle.bus_machine.specs.Plans.{plan_of, link_at}
use Rattle.bus_machine.specs.RunParameters.{Run}
use Rattle.bus_machine.specs.proof.AgreementLaws.{IsRunOf}
use Rattle.run_laws.specs.Worlds.{world_run}
use Rattle.run_laws.proofs.WorldLinkTiming.{rule_of}
use Rattle.world_gen.specs.declared.event_series.EventSeries.{EventSeries}
use Rattle.world_gen.specs.proof.Schedules.{step_time, finish_time, send_time, arrive_time, number_at_moment}
use Rattle.world_gen.specs.proof.Schedules.{event_list, all_of}
use Rattle.world_gen.specs.proof.Schedules.{step_count, begins, starts_at, finishes_at, sends_at, arrivals_at, finishes}
use Rattle.world_gen.specs.proof.Schedules.{earlier_finishes, present_finishes, events_at}
use Rattle.world_gen.specs.proof.EventSeries.{IsEventSeries, time_of, series_events, events_of, begin_series}
use Rattle.world_gen.specs.proof.EventSeries.{finish_series, send_series, arrive_series, each_of, all_begins}
use Rattle.world_gen.specs.proof.EventSeries.{all_finishes, all_sends, all_arrivals, earlier_series, present_series}
use Rattle.world_gen.specs.proof.EventSeries.{timetable}
use Rattle.world_gen.proofs.TabulatedLists.{numbered_all}
use Rattle.world_gen.proofs.ScheduleTimes.{whole, some_rate, some_step, step_at, send_before}

-- ---- times that are the same
same_from : (one other : ℕ → Bool) → ((n : ℕ) → one n ≡ other n) → (from : ℕ) (xs : List ℕ)
    → position_from one from xs ≡ position_from other from xs
same_from one other same from [] = refl
same_from one other same from (x ∷ xs) =
    ap₂ (λ b rest. cond b (Some from) rest) (same x) (same_from one other same (from + 1) xs)

-- the next series depends only on the times
same_which : (one other : ℕ → ℕ) (count moment : ℕ) → ((n : ℕ) → one n ≡ other n)
    → number_at_moment one count moment ≡ number_at_moment other count moment
same_which one other count moment same =
    let first : ℕ → Bool = λ n. nat_eq (one n) moment in
    let second : ℕ → Bool = λ n. nat_eq (other n) moment in
    position_from-zero first (upwards 0 count)
    ∙ same_from first second (λ n. ap (λ t. nat_eq t moment) (same n)) 0 (upwards 0 count)
    ∙ sym (position_from-zero second (upwards 0 count))

same_events : (one other : ℕ → ℕ) (count moment : ℕ) (e : ℕ → Event) → ((n : ℕ) → one n ≡ other n)
    → event_list (number_at_moment one count moment) e ≡ event_list (number_at_moment other count moment) e
same_events one other count moment e same = ap (λ o. event_list o e) (same_which one other count moment same)

-- ---- consecutive series
each_from : (moment : ℕ) (series : ℕ → EventSeries) (f : ℕ → List Event) (from n count : ℕ) → from + n ≡ count
    → ((j : ℕ) → j < count → series_events moment (series j) ≡ f j)
    → flat_map (series_events moment) (map series (upwards from n)) ≡ flat_map f (upwards from n)
each_from moment series f from zero count is same = refl
each_from moment series f from (suc n) count is same =
    ap₂ (λ (a b : List Event). a ++ b) (same from (omega arith))
    (each_from moment series f (suc from) n count (omega arith) same)

each_events : (moment : ℕ) (series : ℕ → EventSeries) (f : ℕ → List Event) (count : ℕ)
    → ((j : ℕ) → j < count → series_events moment (series j) ≡ f j)
    → events_of (each_of count series) moment ≡ all_of count f
each_events moment series f count same = each_from moment series f 0 count count (omega arith) same

some_courses : (b : Bool) (moment : ℕ) (all_series : List EventSeries) (events : List Event)
    → events_of all_series moment ≡ events
    → events_of (if b then all_series else []) moment ≡ (if b then events else [])
some_courses true moment all_series events same = same
some_courses false moment all_series events same = refl

no_courses : (b : Bool) (moment : ℕ) (all_series : List EventSeries) (events : List Event)
    → events_of all_series moment ≡ events
    → events_of (if b then [] else all_series) moment ≡ (if b then [] else events)
no_courses true moment all_series events same = refl
no_courses false moment all_series events same = same

both_events : (moment : ℕ) (xs ys : List EventSeries) (as' bs : List Event) → events_of xs moment ≡ as'
    → events_of ys moment ≡ bs → events_of (xs ++ ys) moment ≡ as' ++ bs
both_events moment xs ys as' bs one two =
    flat_map-append (series_events moment) xs ys ∙ ap₂ (λ (a b : List Event). a ++ b) one two

-- ---- a design's courses
-- times of all rounds are readings
times_fit : (first total : ℕ) → first ≤ 3 * HOUR → total ≤ ROUNDS * HOUR → first + total ≤ READING
times_fit first total near few = omega arith

if_all : (b : Bool) (xs ys : List EventSeries) → All IsEventSeries xs → All IsEventSeries ys
    → All IsEventSeries (if b then xs else ys)
if_all true xs ys one two = one
if_all false xs ys one two = two

module _ (design : DesignParts) (rules : IsDesign design) (rounds : ℕ) where
  -- a property of a node's times holds in any run
  abbrev run : Run
  run = world_run design no_env 1

  is_run : IsRunOf run
  is_run = record { design = rules; rounds = omega arith }

  abbrev many : ℕ
  many = length design.components

  begin_times : (node : ℕ) → node < many → (n : ℕ)
      → time_of (begin_series design rounds node) n ≡ step_time design node n
  begin_times node below n = sym (step_at run is_run node below n)

  finish_times : (node : ℕ) → node < many → (n : ℕ)
      → time_of (finish_series design rounds node) n ≡ finish_time design node n
  finish_times node below n = let step = step_at run is_run node below n in omega arith

  send_times : (node n : ℕ) → time_of (send_series design rounds node) n ≡ send_time design node n
  send_times node n = omega arith

  arrive_times : (link n : ℕ) → time_of (arrive_series design rounds link) n ≡ arrive_time design link n
  arrive_times link n = omega arith

  -- ---- what they do
  module _ (moment : ℕ) where
    ends : events_of (all_finishes design rounds) moment ≡ finishes design rounds moment
    ends = each_events moment (finish_series design rounds) (finishes_at design rounds moment) many
        (λ node below. same_events (time_of (finish_series design rounds node)) (finish_time design node)
        (step_count design rounds node) moment
        (λ n. event.Finish (record { 0 = node })) (finish_times node below))

    starts : events_of (all_begins design rounds) moment ≡ all_of many (starts_at design rounds moment)
    starts = each_events moment (begin_series design rounds) (starts_at design rounds moment) many
        (λ node below. same_events (time_of (begin_series design rounds node)) (step_time design node)
        (step_count design rounds node) moment
        (begins (plan_of design node).rate node) (begin_times node below))

    sends : events_of (all_sends design rounds) moment ≡ all_of many (sends_at design rounds moment)
    sends = each_events moment (send_series design rounds) (sends_at design rounds moment) many
        (λ node below. same_events (time_of (send_series design rounds node)) (send_time design node) rounds moment
        (λ round. event.Send (record { 0 = node })) (send_times node))

    arrivals : events_of (all_arrivals design rounds) moment
        ≡ all_of (length design.links) (arrivals_at design rounds moment)
    arrivals = each_events moment (arrive_series design rounds) (arrivals_at design rounds moment) (length design.links)
        (λ link below. same_events (time_of (arrive_series design rounds link)) (arrive_time design link) rounds moment
        (λ round. event.Arrive (record { 0 = link }) round) (arrive_times link))

    pub events_are : events_of (timetable design rounds) moment ≡ events_at design rounds moment
    events_are =
        let instant = nat_eq design.gamma.alpha_min 0 in
        let earlier = no_courses instant moment (all_finishes design rounds) (finishes design rounds moment) ends in
        let present = some_courses instant moment (all_finishes design rounds) (finishes design rounds moment) ends in
        let starts_of = all_of many (starts_at design rounds moment) in
        let sends_of = all_of many (sends_at design rounds moment) in
        let arrivals_of = all_of (length design.links) (arrivals_at design rounds moment) in
        let late =
        both_events moment (all_sends design rounds) (all_arrivals design rounds) sends_of arrivals_of
        sends arrivals in
        let later =
        both_events moment (present_series design rounds)
        (all_sends design rounds ++ all_arrivals design rounds)
        (present_finishes design rounds moment) (sends_of ++ arrivals_of) present late in
        let begun =
        both_events moment (all_begins design rounds)
        (present_series design rounds ++ (all_sends design rounds ++ all_arrivals design rounds))
        starts_of (present_finishes design rounds moment ++ (sends_of ++ arrivals_of)) starts later in
        both_events moment (earlier_series design rounds)
        (all_begins design rounds
        ++ (present_series design rounds ++ (all_sends design rounds ++ all_arrivals design rounds)))
        (earlier_finishes design rounds moment)
        (starts_of ++ (present_finishes design rounds moment ++ (sends_of ++ arrivals_of))) earlier begun

  -- ---- they are courses
  module _ (few : rounds ≤ ROUNDS) where
    all_rounds : rounds * design.period ≤ ROUNDS * HOUR
    all_rounds = let range = rules.period in mul-le rounds design.period ROUNDS HOUR few range.1

    all_steps : (node : ℕ) → node < many
        → step_count design rounds node * (plan_of design node).step_period ≤ ROUNDS * HOUR
    all_steps node below =
        let round = whole run is_run node below in
        let product : rounds * ((plan_of design node).rate * (plan_of design node).step_period)
        ≡ rounds * design.period = ap (λ x. rounds * x) round in
        let most = all_rounds in
        omega arith

    begin_is : (node : ℕ) → node < many → IsEventSeries (begin_series design rounds node)
    begin_is node below = record {
      steps = some_rate run is_run node below;
      rises = some_step run is_run node below;
      fits =
          times_fit design.period (step_count design rounds node * (plan_of design node).step_period)
          (let range = rules.period in omega arith) (all_steps node below);
    }

    finish_is : (node : ℕ) → node < many → IsEventSeries (finish_series design rounds node)
    finish_is node below = record {
      steps = tt;
      rises = some_step run is_run node below;
      fits =
          times_fit (design.period + design.gamma.alpha_min)
          (step_count design rounds node * (plan_of design node).step_period)
          (let range = rules.period in let execution = rules.gamma.execution in omega arith) (all_steps node below);
    }

    first_send : (node : ℕ) → node < many → send_time design node 0 ≤ 2 * HOUR
    first_send node below = let range = rules.period in let before = send_before run is_run node below 0 in omega arith

    send_is : (node : ℕ) → node < many → IsEventSeries (send_series design rounds node)
    send_is node below = record {
      steps = tt;
      rises = rules.period.0;
      fits =
          times_fit (send_time design node 0) (rounds * design.period)
          (let near = first_send node below in omega arith) all_rounds;
    }

    arrive_is : (link : ℕ) → link < length design.links → IsEventSeries (arrive_series design rounds link)
    arrive_is link below =
        let near = first_send (link_at design link).source.0 (rule_of run link is_run below).source.node_is in
        let network = rules.gamma.network in
        record {
          steps = tt;
          rises = rules.period.0;
          fits = times_fit (arrive_time design link 0) (rounds * design.period) (omega arith) all_rounds;
        }

    pub timetable_is_sound : All IsEventSeries (timetable design rounds)
    timetable_is_sound =
        let instant = nat_eq design.gamma.alpha_min 0 in
        let ends = numbered_all IsEventSeries (finish_series design rounds) many finish_is in
        let earlier = if_all instant [] (all_finishes design rounds) (All-nil IsEventSeries) ends in
        let present = if_all instant (all_finishes design rounds) [] ends (All-nil IsEventSeries) in
        let starts = numbered_all IsEventSeries (begin_series design rounds) many begin_is in
        let sends = numbered_all IsEventSeries (send_series design rounds) many send_is in
        let arrivals = numbered_all IsEventSeries (arrive_series design rounds) (length design.links) arrive_is in
        let late = All-append IsEventSeries (all_sends design rounds) (all_arrivals design rounds) sends arrivals in
        let later =
        All-append IsEventSeries (present_series design rounds)
        (all_sends design rounds ++ all_arrivals design rounds) present late in
        let begun =
        All-append IsEventSeries (all_begins design rounds)
        (present_series design rounds ++ (all_sends design rounds ++ all_arrivals design rounds))
        starts later in
        All-append IsEventSeries (earlier_series design rounds)
        (all_begins design rounds
        ++ (present_series design rounds ++ (all_sends design rounds ++ all_arrivals design rounds)))
        earlier begun
