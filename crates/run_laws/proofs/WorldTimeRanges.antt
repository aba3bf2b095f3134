-- The times of a world (deadlines of nodes and messages, and next alarms) are small enough to be readings: the claim
-- TimesAreReadings.
use Rattle.std.proofs.Common.{◌≡◌, ◌≢◌, ℕ, suc, ◌+◌, ◌-◌, ◌*◌, ◌<◌, ◌≤◌, Bool, true, false, length, Option, Some, None}
use Rattle.std.proofs.Common.{refl, sym, ◌∙◌, arith}
use Rattle.std.specs.Prelude.{max, min, if◌then◌else◌}
use Rattle.std.proofs.lemmas.Nat.{mul-le}
use Rattle.std.proofs.lemmas.Option.{same_Some, none-some}
use Rattle.bus_machine.proofs.SentRounds.{sent_most}
use Rattle.pals_base.specs.declared.limits.TheConstants.{READING, ROUNDS, HOUR}
use Rattle.pals_base.specs.PeriodBoundAndReleases.{alarm}
use Rattle.pals_runs.specs.declared.phase.Phase.{Phase}
use Rattle.pals_runs.specs.declared.phase.Phase.TheVariants.{Waiting, Running, Between, Holding, Done}
use Rattle.bus_machine.specs.Plans.{plan_of, component_at, link_at}
use Rattle.bus_machine.specs.Nodes.{NodeState, sent_rounds}
use Rattle.bus_machine.specs.NodeEvents.{may_send}
use Rattle.bus_machine.specs.AlarmsAndReleases.{start_alarm, step_alarm, release_reading}
use Rattle.bus_machine.specs.BusStates.{node_at}
use Rattle.bus_machine.specs.RunParameters.{Run}
use Rattle.bus_machine.specs.MissedMessages.{rounds_sent_on}
use Rattle.bus_machine.specs.Agreement.{PhaseAgrees}
use Rattle.bus_machine.specs.proof.AgreementLaws.{IsRunOf}
use Rattle.run_laws.specs.Worlds.{World, reading_at, since_at, ready_at}
use Rattle.run_laws.specs.Deadlines.{last_before, lesser, message_deadline}
use Rattle.run_laws.specs.proof.WorldInvariant.{KeepsTime}
use Rattle.run_laws.specs.proof.WorldLaws.{TimesAreReadings}
use Rattle.run_laws.proofs.TimeArithmetic.{alarm_more}
use Rattle.run_laws.proofs.WorldNodeTiming.{fits_at, phase_last, send_last, deadline_is, next_alarm, phase_agrees}
use Rattle.run_laws.proofs.WorldNodeTiming.{rounds_at_most, late}
use Rattle.run_laws.proofs.WorldLinkTiming.{rule_of}

-- ---- products
small : (t rounds count : ℕ) → t ≤ HOUR → rounds ≤ ROUNDS → count ≤ rounds → (count + 1) * t + 4 * HOUR ≤ READING
small t rounds count hour few most =
    let product : (count + 1) * t ≤ (ROUNDS + 1) * HOUR = mul-le (count + 1) t (ROUNDS + 1) HOUR (omega arith) hour in
    omega arith

left_small : (a : ℕ) (b : Option ℕ) (last most : ℕ) → a ≤ most → lesser (Some a) b ≡ Some last → last ≤ most
left_small a None last most below is = let same : a ≡ last = same_Some a last is in omega arith
left_small a (Some b) last most below is = let same : min a b ≡ last = same_Some (min a b) last is in omega arith

right_small : (b : Option ℕ) (last most : ℕ) → ((x : ℕ) → b ≡ Some x → x ≤ most) → lesser None b ≡ Some last
    → last ≤ most
right_small b last most below is = below last is

send_small : (may : Bool) (a x most : ℕ) → (may ≡ true → a ≤ most) → (if may then Some a else None) ≡ Some x → x ≤ most
send_small true a x most below is = let same : a ≡ x = same_Some a x is in let few = below refl in omega arith
send_small false a x most below is = absurd (none-some x is)

module _ (run : Run) (w : World) (rules : IsRunOf run) (few : run.rounds ≤ ROUNDS) (keeps : KeepsTime run w) where
  alarms_small : (node : ℕ) → node < length run.design.components
      → alarm run.design.period (node_at w.bus node).count + 4 * HOUR ≤ READING
  alarms_small node within =
      small run.design.period run.rounds (node_at w.bus node).count rules.design.period.1 few
      (rounds_at_most run w rules keeps node within)

  clocks_small : (node : ℕ) → node < length run.design.components → (node_at w.bus node).phase ≢ Done
      → reading_at w node ≤ READING
  clocks_small node within busy =
      let last = late run w rules keeps node within busy in
      let clock = keeps.clocks node within in
      let most = alarms_small node within in
      let skew = rules.design.gamma.skew.1 in
      omega arith

  module _ (node : ℕ) (within : node < length run.design.components) where
    abbrev here : NodeState
    here = node_at w.bus node

    -- a step that is out, or waited for
    step_small : (i round : ℕ) → here.count ≡ suc round → i < (plan_of run.design node).rate
        → step_alarm (plan_of run.design node) here i + 4 * HOUR ≤ READING
    step_small i round is below =
        let fit = fits_at run node rules within in
        let most = alarms_small node within in
        let next : alarm run.design.period here.count ≡ alarm run.design.period (here.count - 1) + run.design.period =
        next_alarm run.design.period here.count round is in
        let more : i * (plan_of run.design node).step_period ≤ (plan_of run.design node).rate *
        (plan_of run.design node).step_period = mul-le i _ (plan_of run.design node).rate _ (omega arith)
        (omega arith) in
        let all = fit.steps in
        omega arith

    release_small : may_send (plan_of run.design node) here ≡ true
        → max (ready_at w node) (last_before (release_reading (plan_of run.design node) here)
        run.design.gamma.eps) ≤ READING
    release_small may =
        let plan = plan_of run.design node in
        let fit = fits_at run node rules within in
        let ready = (keeps.nodes node within).unsent may in
        let most = alarms_small node within in
        let before : alarm run.design.period (here.count - 1) ≤ alarm run.design.period here.count =
        alarm_more run.design.period (here.count - 1) here.count (omega arith) in
        let r = fit.release in
        let x = fit.executed in
        let hour = rules.design.period.1 in
        let skew = rules.design.gamma.skew.1 in
        omega arith

    last_small : (p : Phase) → here.phase ≡ p → PhaseAgrees run node (component_at run.design node) here p → (last : ℕ)
        → lesser (phase_last run.design.gamma (plan_of run.design node) here (since_at w node) p)
        (send_last run.design.gamma (plan_of run.design node) here (ready_at w node)) ≡ Some last → last ≤ READING
    last_small Waiting is agrees last same =
        let most = alarms_small node within in
        let skew = rules.design.gamma.skew.1 in
        left_small (last_before (start_alarm (plan_of run.design node) here) run.design.gamma.eps) _ last READING
        (omega arith) same
    last_small (Running step) is agrees last same =
        let out = (keeps.nodes node within).running step is in
        let most = step_small step agrees.under_way.round agrees.under_way.count agrees.within in
        let skew = rules.design.gamma.skew.1 in
        let alpha = rules.design.gamma.execution.1 in
        left_small (since_at w node + run.design.gamma.alpha_max) _ last READING (omega arith) same
    last_small (Between steps) is agrees last same =
        let most = step_small steps agrees.0.under_way.round agrees.0.under_way.count agrees.0.within in
        let skew = rules.design.gamma.skew.1 in
        left_small (last_before (step_alarm (plan_of run.design node) here steps) run.design.gamma.eps) _ last READING
        (omega arith) same
    last_small Holding is agrees last same =
        send_small (may_send (plan_of run.design node) here) _ last READING release_small same
    last_small Done is agrees last same =
        send_small (may_send (plan_of run.design node) here) _ last READING release_small same

  message_small : (number round : ℕ) → number < length run.design.links → round < rounds_sent_on run w.bus number
      → message_deadline run w number round ≤ READING
  message_small number round within sent =
      let source = (link_at run.design number).source.0 in
      let from : source < length run.design.components = (rule_of run number rules within).source.node_is in
      let each = (keeps.sends source from).each in
      let moment = (keeps.sends source from).sent round (omega arith) in
      let fit = fits_at run source rules from in
      let most = rounds_at_most run w rules keeps source from in
      let fewer : sent_rounds (node_at w.bus source) ≤ (node_at w.bus source).count =
      sent_most (node_at w.bus source).sent (node_at w.bus source).count in
      let bound = small run.design.period run.rounds round rules.design.period.1 few (omega arith) in
      let r = fit.release in
      let x = fit.executed in
      let o = fit.offset in
      let hour = rules.design.period.1 in
      let skew = rules.design.gamma.skew.1 in
      let prompt = moment.prompt in
      omega arith

pub times_are_readings : TimesAreReadings
times_are_readings run w rules few keeps = record {
  nodes = λ node last within is.
      last_small run w rules few keeps node within (node_at w.bus node).phase refl
      (phase_agrees run w rules keeps node within) last (sym (deadline_is run w node) ∙ is);
  messages = message_small run w rules few keeps;
  clocks = clocks_small run w rules few keeps;
}
