-- Each stop shows which bound was not kept, with any clocks: StopsAreBounded.
use Rattle.std.proofs.Common.{◌≡◌, ℕ, ◌+◌, ◌-◌, ◌*◌, ◌<◌, ◌≤◌, max, List, slice_get, Option, Some, None, sym, ap, ◌∙◌}
use Rattle.std.proofs.Common.{subst, arith}
use Rattle.std.specs.Prelude.{IfSome}
use Rattle.std.proofs.lemmas.Option.{same_Some}
use Rattle.pals_base.specs.PeriodBoundAndReleases.{alarm, backoff}
use Rattle.pals_model.specs.declared.design.Link.{Link}
use Rattle.pals_model.specs.Delays.{delay_of}
use Rattle.pals_runs.specs.declared.journal.Cause.{Cause}
use Rattle.pals_runs.specs.declared.journal.Cause.TheVariants.{NotSent, InTransit, Lost}
use Rattle.pals_runs.specs.declared.journal.Stop.{Stop}
use Rattle.pals_runs.specs.declared.journal.Stop.TheVariants as stop
use Rattle.pals_runs.specs.declared.journal.JournalEntry.{JournalEntry}
use Rattle.bus_machine.specs.Plans.{plan_of, link_at}
use Rattle.bus_machine.specs.BusStates.{BusState, node_at}
use Rattle.bus_machine.specs.RunParameters.{Run}
use Rattle.bus_machine.specs.proof.AgreementLaws.{IsRunOf}
use Rattle.run_laws.specs.JournalReadings.{sends}
use Rattle.pals_clock.specs.declared.clock.Clocks.{Clocks}
use Rattle.pals_clock.specs.declared.clock.Clocks.TheVariants.{Meet, Lists}
use Rattle.run_laws.specs.Runs.{Runs}
use Rattle.run_laws.specs.proof.LinkTiming.{due_of}
use Rattle.run_laws.specs.proof.ReadingsAndStopCauses.{IsFor, StopsAtStart, CauseFits, StopFits}
use Rattle.run_laws.specs.BoundsBrokenAtStops.{sent_at, BoundedStop}
use Rattle.run_laws.specs.proof.BoundsBrokenAtStops.{StopsAreBounded}
use Rattle.run_laws.proofs.RisingTargets.{next_alarm}
use Rattle.run_laws.proofs.StartAndSendReadings.{all_times_fit}
use Rattle.run_laws.proofs.StopCauses.{stops_fit}
use Rattle.run_laws.proofs.LinkTimingPreservation.{sent_of}
use Rattle.run_laws.proofs.MeetingStopsAndBounds.{bounds, link_is, source_within}

pub no_less : (clocks : Clocks) (t at : ℕ) → IsFor clocks t at → t ≤ at
no_less Meet t at is = omega arith
no_less (Lists clocks) t at is = is

transit_by : (run : Run) (clocks : Clocks) (journal : List JournalEntry) (s : BusState) (number round : ℕ)
    (reading : Option ℕ) (cause : Cause) → IsRunOf run
    → (x : StopsAtStart run clocks s number reading) → (node_at s x.link.target.0).count ≡ round + 1
    → CauseFits run clocks s x.link.source.0
    (due_of (delay_of run.delays number) (sends x.link.source.0 journal) round) x.at cause
    → cause ≡ InTransit → (at : ℕ) → sent_at run journal number round ≡ Some at
    → delay_of run.delays number round ≤ run.design.gamma.mu_max
    → (let plan = plan_of run.design (link_at run.design number).source.0 in
    alarm run.design.period round
    + max (backoff run.design.gamma) ((plan.sent_steps - 1) * plan.step_period + run.design.gamma.alpha_max) < at)
transit_by run clocks journal s number round reading NotSent rules x next fits is at sent short = absurd (cc)
transit_by run clocks journal s number round reading Lost rules x next fits is at sent short = absurd (cc)
transit_by run clocks journal s number round reading InTransit rules x next fits is at sent short =
    let here = link_is run number x.link x.is_link in
    let b = bounds run x.link.source.0 rules (source_within run number x.link rules x.is_link) in
    let plan = plan_of run.design x.link.source.0 in
    let of = sent_of (delay_of run.delays number) (sends x.link.source.0 journal) round fits.0 fits.1 in
    let same : of.0 ≡ at = same_Some _ _
    (sym of.1 ∙ ap (λ (l : Link). slice_get (sends l.source.0 journal) round) (sym here) ∙ sent) in
    let shown : alarm run.design.period (round + 1) ≤ x.at =
    subst (λ c. alarm run.design.period c ≤ x.at) next (no_less clocks _ x.at x.shown) in
    let after' = next_alarm run.design.period round in
    let due = of.2 in
    let late = fits.2 in
    let bound = b.late in
    let own : alarm run.design.period round + max (backoff run.design.gamma)
    ((plan.sent_steps - 1) * plan.step_period + run.design.gamma.alpha_max) < at = omega arith in
    subst (λ (l : Link). alarm run.design.period round
    + max (backoff run.design.gamma)
    (((plan_of run.design l.source.0).sent_steps - 1) * (plan_of run.design l.source.0).step_period
    + run.design.gamma.alpha_max) < at) (sym here) own

bounded_by : (run : Run) (clocks : Clocks) (journal : List JournalEntry) (s : BusState) (why : Option Stop)
    → IsRunOf run → Runs run clocks journal s → StopFits run clocks journal s why → IfSome why (BoundedStop run journal)
bounded_by run clocks journal s None rules runs fits = tt
bounded_by run clocks journal s (Some (stop.Missed link round reading cause)) rules runs fits =
    transit_by run clocks journal s link.0 round reading cause rules fits.0 fits.1 fits.2
bounded_by run clocks journal s (Some (stop.Early link round reading)) rules runs fits = λ at is short.
    let x = fits.0 in
    let here : x.at ≡ at = same_Some _ _ (sym x.reading_is ∙ is) in
    let of = sent_of (delay_of run.delays link.0) (sends x.link.source.0 journal) round fits.2.0 fits.2.1 in
    let within = source_within run link.0 x.link rules x.is_link in
    let release =
    no_less clocks _ of.0 ((all_times_fit run clocks journal s x.link.source.0 rules runs within).sends_fit round
    of.0 of.1) in
    let b = bounds run x.link.source.0 rules within in
    let early = b.early in
    let due = of.2 in
    let most = fits.2.2 in
    omega arith

pub stops_are_bounded : StopsAreBounded
stops_are_bounded run clocks journal s rules runs =
    bounded_by run clocks journal s s.stop rules runs (stops_fit run clocks journal s rules runs)
