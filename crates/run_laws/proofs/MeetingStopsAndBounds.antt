-- The causes of stops and ends in virtual time, and that delays within the bounds prevent every stop: MeetingsStop,
-- MeetingsEnd and NoMeetingStops.
use Rattle.std.proofs.Common.{◌≡◌, ℕ, zero, suc, ◌+◌, ◌-◌, ◌*◌, ◌/◌, ◌<◌, ◌≤◌, max, List, length, slice_get, Option}
use Rattle.std.proofs.Common.{Some, None, refl, sym, ap, ◌∙◌, subst, arith}
use Rattle.std.specs.Prelude.{IfSome}
use Rattle.std.proofs.lemmas.Grind.{common_steps}
use Rattle.std.proofs.lemmas.Option.{get_or_from_slice_get, slice_get_within, slice_get-get_or}
use Rattle.pals_base.specs.PeriodBoundAndReleases.{alarm, backoff, step_period, sent_steps}
use Rattle.pals_model.specs.declared.design.Link.{Link}
use Rattle.pals_model.specs.Delays.{delay_of}
use Rattle.pals_model.specs.DesignRules.{IsLink}
use Rattle.pals_model.proofs.FirstMatches.{at_element}
use Rattle.pals_runs.specs.declared.journal.Cause.{Cause}
use Rattle.pals_runs.specs.declared.journal.Cause.TheVariants.{NotSent, InTransit, Lost}
use Rattle.pals_runs.specs.declared.journal.Stop.{Stop}
use Rattle.pals_runs.specs.declared.journal.Stop.TheVariants as stop
use Rattle.pals_runs.specs.declared.journal.JournalEntry.{JournalEntry}
use Rattle.bus_machine.specs.Plans.{plan_of, component_at, link_at, no_link}
use Rattle.bus_machine.specs.BusStates.{BusState, node_at}
use Rattle.bus_machine.specs.RunParameters.{Run}
use Rattle.bus_machine.specs.Agreement.{PhaseAgrees}
use Rattle.bus_machine.specs.proof.AgreementLaws.{IsRunOf}
use Rattle.run_laws.specs.JournalReadings.{sends}
use Rattle.pals_clock.specs.declared.clock.Clocks.TheVariants.{Meet}
use Rattle.run_laws.specs.Runs.{Runs}
use Rattle.run_laws.specs.proof.LinkTiming.{due_of}
use Rattle.run_laws.specs.proof.ReadingsAndStopCauses.{StopsAtStart, CauseFits, StopFits}
use Rattle.run_laws.specs.Meetings.{IsLate, MeetingStop}
use Rattle.run_laws.specs.BoundsBrokenAtStops.{DelaysFit}
use Rattle.run_laws.specs.proof.MeetingLaws.{MeetingsStop, MeetingsEnd, NoMeetingStops}
use Rattle.run_laws.proofs.NodePicksAndRunReplay.{runs_agree, node_agrees}
use Rattle.run_laws.proofs.LinkTiming.{links_timed}
use Rattle.run_laws.proofs.RisingTargets.{next_alarm}
use Rattle.run_laws.proofs.StartAndSendReadings.{all_times_fit}
use Rattle.run_laws.proofs.SentBeforeStart.{alarm_le}
use Rattle.run_laws.proofs.StopCauses.{stops_fit}
use Rattle.run_laws.proofs.LinkTimingPreservation.{sent_of}

-- ---- the reading of a due reading's send
pub link_is : (run : Run) (number : ℕ) (link : Link) → slice_get run.design.links number ≡ Some link
    → link_at run.design number ≡ link
link_is run number link is = get_or_from_slice_get run.design.links number link no_link is

pub source_within : (run : Run) (number : ℕ) (link : Link) → IsRunOf run → slice_get run.design.links number ≡ Some link
    → link.source.0 < length run.design.components
source_within run number link rules is =
    (at_element (IsLink run.design) run.design.links number link rules.design.links.each is).source.node_is

pub target_within : (run : Run) (number : ℕ) (link : Link) → IsRunOf run → slice_get run.design.links number ≡ Some link
    → link.target.0 < length run.design.components
target_within run number link rules is =
    (at_element (IsLink run.design) run.design.links number link rules.design.links.each is).target.node_is

-- ---- with a meeting
meeting_cause : (run : Run) (journal : List JournalEntry) (s : BusState) (number round : ℕ) (reading : Option ℕ)
    (cause : Cause) → IsRunOf run → Runs run Meet journal s
    → (x : StopsAtStart run Meet s number reading) → (node_at s x.link.target.0).count ≡ round + 1
    → CauseFits run Meet s x.link.source.0
    (due_of (delay_of run.delays number) (sends x.link.source.0 journal) round) x.at cause
    → IsLate run number round × (cause ≡ InTransit) × (reading ≡ Some (alarm run.design.period (round + 1)))
meeting_cause run journal s number round reading NotSent rules runs x next fits = absurd fits.1
meeting_cause run journal s number round reading Lost rules runs x next fits = absurd fits
meeting_cause run journal s number round reading InTransit rules runs x next fits =
    let sent = sent_of (delay_of run.delays number) (sends x.link.source.0 journal) round fits.0 fits.1 in
    let at =
    (all_times_fit run Meet journal s x.link.source.0 rules runs
    (source_within run number x.link rules x.is_link)).sends_fit round sent.0 sent.1 in
    let plan = plan_of run.design x.link.source.0 in
    let here : x.at ≡ alarm run.design.period (round + 1) = x.shown ∙ ap (alarm run.design.period) next in
    let after' = next_alarm run.design.period round in
    let due = sent.2 in
    let late = fits.2 in
    let more = x.begins in
    let over : run.design.period < plan.release_offset + delay_of run.delays number round = omega arith in (
      record {
        within = slice_get_within run.design.links number x.link x.is_link;
        followed = omega arith;
        late =
            subst (λ (l : Link). run.design.period
            < (plan_of run.design l.source.0).release_offset + delay_of run.delays number round)
            (sym (link_is run number x.link x.is_link)) over;
      },
      refl,
      x.reading_is ∙ ap Some here,
    )

meeting_early : (run : Run) (journal : List JournalEntry) (s : BusState) (number round : ℕ) (reading : Option ℕ)
    → IsRunOf run → Runs run Meet journal s
    → (x : StopsAtStart run Meet s number reading) → (node_at s x.link.target.0).count ≤ round → (d : ℕ)
    → due_of (delay_of run.delays number) (sends x.link.source.0 journal) round ≡ Some d → d ≤ x.at
    → ((plan_of run.design (link_at run.design number).source.0).release_offset + delay_of run.delays number round ≡ 0)
    × (reading ≡ Some (alarm run.design.period round))
meeting_early run journal s number round reading rules runs x early d due most =
    let sent = sent_of (delay_of run.delays number) (sends x.link.source.0 journal) round d due in
    let at =
    (all_times_fit run Meet journal s x.link.source.0 rules runs
    (source_within run number x.link rules x.is_link)).sends_fit round sent.0 sent.1 in
    let plan = plan_of run.design x.link.source.0 in
    let le = alarm_le run.design.period (node_at s x.link.target.0).count round early in
    let here = x.shown in
    let is_due = sent.2 in
    let none : plan.release_offset + delay_of run.delays number round ≡ 0 = omega arith in
    let own : x.at ≡ alarm run.design.period round = omega arith in (
      subst (λ (l : Link). (plan_of run.design l.source.0).release_offset + delay_of run.delays number round ≡ 0)
          (sym (link_is run number x.link x.is_link)) none,
      x.reading_is ∙ ap Some own,
    )

meeting_by : (run : Run) (journal : List JournalEntry) (s : BusState) (why : Option Stop) → IsRunOf run
    → Runs run Meet journal s → StopFits run Meet journal s why → IfSome why (MeetingStop run)
meeting_by run journal s None rules runs fits = tt
meeting_by run journal s (Some (stop.Missed link round reading cause)) rules runs fits =
    meeting_cause run journal s link.0 round reading cause rules runs fits.0 fits.1 fits.2
meeting_by run journal s (Some (stop.Early link round reading)) rules runs fits =
    meeting_early run journal s link.0 round reading rules runs fits.0 fits.1 fits.2.0 fits.2.1 fits.2.2

pub meetings_stop : MeetingsStop
meetings_stop run journal s rules runs =
    meeting_by run journal s s.stop rules runs (stops_fit run Meet journal s rules runs)

pub meetings_end : MeetingsEnd
meetings_end run journal s rules runs done number round late =
    let l = link_at run.design number in
    let is : slice_get run.design.links number ≡ Some l =
    slice_get-get_or run.design.links number no_link late.within in
    let timed = links_timed run Meet journal s number l rules runs is in
    let within = target_within run number l rules is in
    let agree = runs_agree run Meet journal s rules runs in
    let all =
    (subst (PhaseAgrees run l.target.0 (component_at run.design l.target.0) (node_at s l.target.0))
    (done l.target.0 within) (node_agrees run s l.target.0 agree within).phase).1 in
    let followed = late.followed in
    let in_time = timed.taken_in round (omega arith) in
    let sent = sent_of (delay_of run.delays number) (sends l.source.0 journal) round in_time.due in_time.due_is in
    let at =
    (all_times_fit run Meet journal s l.source.0 rules runs (source_within run number l rules is)).sends_fit round
    sent.0 sent.1 in
    let start =
    (all_times_fit run Meet journal s l.target.0 rules runs within).starts_fit (round + 1) in_time.at
    in_time.at_is in
    let next = next_alarm run.design.period round in
    let due = sent.2 in
    let before = in_time.before in
    let over = late.late in
    omega arith

-- ---- the bounds
-- a backoff plus the minimum delay is at least two skews, and a message that is sent in time can arrive in time
pub record Bounds (run : Run) (node : ℕ) : Type 0 where
  pub early : 2 * run.design.gamma.eps ≤ (plan_of run.design node).release_offset + run.design.gamma.mu_min
  pub late : max (backoff run.design.gamma)
      (((plan_of run.design node).sent_steps - 1) * (plan_of run.design node).step_period + run.design.gamma.alpha_max)
      + run.design.gamma.mu_max ≤ run.design.period
  pub release : (plan_of run.design node).release_offset + run.design.gamma.mu_max ≤ run.design.period

fits_by : (rest each few : ℕ) → few ≤ 1 + rest / each → (few - 1) * each ≤ rest
fits_by rest zero few most = let none : (few - 1) * 0 ≡ 0 = omega arith in omega arith
fits_by rest (suc each) few most =
    let le : (few - 1) * suc each ≤ (rest / suc each) * suc each =
    (let less : few - 1 ≤ rest / suc each = omega arith in grind (arith, common_steps)) in
    let all : (rest / suc each) * suc each ≤ rest = omega arith in
    omega arith

pub bounds : (run : Run) (node : ℕ) → IsRunOf run → node < length run.design.components → Bounds run node
bounds run node rules within =
    let g = run.design.gamma in
    let c = component_at run.design node in
    let t = run.design.period in
    let bound = rules.design.bound in
    let few : sent_steps g t c.rate ≤ 1 + (t - g.mu_max - 2 * g.eps - g.alpha_max) / step_period t c.rate =
    omega arith in
    let last : (sent_steps g t c.rate - 1) * step_period t c.rate ≤ t - g.mu_max - 2 * g.eps - g.alpha_max =
    fits_by (t - g.mu_max - 2 * g.eps - g.alpha_max) (step_period t c.rate) (sent_steps g t c.rate) few in
    record { early = omega arith; late = omega arith; release = omega arith }

abbrev link_of : Stop → ℕ
link_of (stop.Missed link round reading cause) = link.0
link_of (stop.Early link round reading) = link.0

no_stop_by : (run : Run) (why : Option Stop) → IsRunOf run → DelaysFit run
    → ((link : ℕ) → slice_get run.design.links link ≡ Some (link_at run.design link) → link < length run.design.links)
    → IfSome why (λ w. MeetingStop run w × (link_of w < length run.design.links)) → why ≡ None
no_stop_by run None rules delays within is = refl
no_stop_by run (Some (stop.Missed link round reading cause)) rules delays within is =
    let late = is.0.0 in
    let l = link_at run.design link.0 in
    let there : slice_get run.design.links link.0 ≡ Some l =
    slice_get-get_or run.design.links link.0 no_link late.within in
    let b = bounds run l.source.0 rules (source_within run link.0 l rules there) in
    let fits = delays link.0 round late.within in
    let over = late.late in
    let release = b.release in
    absurd (omega (arith, fits.1))
no_stop_by run (Some (stop.Early link round reading)) rules delays within is =
    let l = link_at run.design link.0 in
    let there : slice_get run.design.links link.0 ≡ Some l = slice_get-get_or run.design.links link.0 no_link is.1 in
    let b = bounds run l.source.0 rules (source_within run link.0 l rules there) in
    let fits = delays link.0 round is.1 in
    let early = b.early in
    let skew = rules.design.gamma.skew.0 in
    absurd (omega (arith, fits.0, is.0.0))

stop_within : (run : Run) (journal : List JournalEntry) (s : BusState) (why : Option Stop)
    → StopFits run Meet journal s why → IfSome why (MeetingStop run)
    → IfSome why (λ w. MeetingStop run w × (link_of w < length run.design.links))
stop_within run journal s None fits is = tt
stop_within run journal s (Some (stop.Missed link round reading cause)) fits is =
    (is, slice_get_within run.design.links link.0 fits.0.link fits.0.is_link)
stop_within run journal s (Some (stop.Early link round reading)) fits is =
    (is, slice_get_within run.design.links link.0 fits.0.link fits.0.is_link)

pub no_meeting_stops : NoMeetingStops
no_meeting_stops run journal s rules runs delays =
    no_stop_by run s.stop rules delays (λ link is. slice_get_within run.design.links link (link_at run.design link) is)
    (stop_within run journal s s.stop (stops_fit run Meet journal s rules runs)
    (meetings_stop run journal s rules runs))
