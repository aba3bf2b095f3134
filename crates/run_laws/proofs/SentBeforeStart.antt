-- In virtual time, the source of a message has sent it before the start that reads it.
use Rattle.std.proofs.Common.{◌≡◌, ℕ, zero, suc, ◌+◌, ◌-◌, ◌*◌, ◌<◌, ◌≤◌, nat_lt, Bool, true, false, cond, length}
use Rattle.std.proofs.Common.{Option, Some, refl, ap, ◌∙◌, arith}
use Rattle.std.specs.Prelude.{if◌then◌else◌}
use Rattle.std.proofs.lemmas.Bool.{ltb-false}
use Rattle.std.proofs.lemmas.Grind.{common_steps}
use Rattle.pals_base.specs.PeriodBoundAndReleases.{alarm}
use Rattle.pals_runs.specs.declared.phase.Phase.{Phase}
use Rattle.pals_runs.specs.declared.phase.Phase.TheVariants.{Waiting, Running, Between, Holding, Done}
use Rattle.bus_machine.specs.declared.plan.Plan.{Plan}
use Rattle.bus_machine.specs.Plans.{plan_of, component_at}
use Rattle.bus_machine.specs.Nodes.{NodeState, round_of, sent_rounds}
use Rattle.bus_machine.specs.BusStates.{BusState, node_at}
use Rattle.bus_machine.specs.RunParameters.{Run}
use Rattle.bus_machine.specs.Agreement.{PhaseAgrees, Agrees}
use Rattle.bus_machine.specs.proof.AgreementLaws.{IsRunOf}
use Rattle.bus_machine.specs.declared.node_action.NodeAction.TheVariants as action
use Rattle.bus_machine.specs.ActionsAndTargets.{Progress, target, send_is_next, next_action}
use Rattle.run_laws.specs.Runs.{IsLeast}
use Rattle.run_laws.proofs.NodePicksAndRunReplay.{node_agrees}
use Rattle.run_laws.proofs.RisingTargets.{IsTimedPlan, next_alarm, aim_in, running_aim}
use Rattle.run_laws.proofs.MeetingReadings.{times_of}

abbrev Below : Plan → ℕ → Option ℕ → Type 0
Below plan round o = (t : ℕ) × (o ≡ Some t) × (t < alarm plan.period (round + 1))

pub alarm_le : (period a b : ℕ) → a ≤ b → alarm period a ≤ alarm period b
alarm_le period a b le = let more : a + 1 ≤ b + 1 = omega arith in grind (arith, common_steps)

within_round : (plan : Plan) (own round offset : ℕ) → own ≤ round → offset < plan.period
    → alarm plan.period own + offset < alarm plan.period (round + 1)
within_round plan own round offset le below =
    let most = alarm_le plan.period own round le in
    let next = next_alarm plan.period round in
    omega arith

below_by : (plan : Plan) (n : NodeState) (steps round : ℕ) (send more : Bool) → IsTimedPlan plan → n.count - 1 ≤ round
    → steps * plan.step_period < plan.period → nat_lt steps plan.rate ≡ more → steps < plan.rate
    → target plan (cond send (action.Send (round_of n))
    (cond more (action.Step (round_of n) steps) (action.Start (round_of n + 1)))) < alarm plan.period (round + 1)
below_by plan n steps round true more times le short lt below =
    within_round plan (round_of n) round plan.release_offset le times.release
below_by plan n steps round false true times le short lt below =
    within_round plan (round_of n) round (steps * plan.step_period) le short
below_by plan n steps round false false times le short lt below =
    absurd (let over = ltb-false steps plan.rate lt in omega arith)

pub sent_true : (n : NodeState) → n.sent ≡ true → sent_rounds n ≡ n.count
sent_true n is = ap (λ b. if b then n.count else round_of n) is

at_least : (sent : Bool) (count round : ℕ) → (if sent then count else (count - 1)) ≤ round → count - 1 ≤ round
at_least true count round le = omega arith
at_least false count round le = le

short_step : (plan : Plan) (steps : ℕ) → 1 ≤ plan.period → IsTimedPlan plan → steps < plan.rate
    → steps * plan.step_period < plan.period
short_step plan steps long times below = by plan.step_period refl
  where
    by : (each : ℕ) → plan.step_period ≡ each → steps * plan.step_period < plan.period
    by zero is = let none : steps * plan.step_period ≡ 0 = ap (λ e. steps * e) is ∙ omega arith in omega arith
    by (suc each) is =
        let more : (steps + 1) * plan.step_period ≤ plan.rate * plan.step_period =
        (let le : steps + 1 ≤ plan.rate = omega arith in grind (arith, common_steps)) in
        let whole : (steps + 1) * plan.step_period ≡ steps * plan.step_period + plan.step_period = omega arith in
        let all = times.steps in
        omega arith

source_aim : (run : Run) (j round : ℕ) (n : NodeState) (p : Phase) → IsTimedPlan (plan_of run.design j)
    → 1 ≤ run.design.period → PhaseAgrees run j (component_at run.design j) n p → sent_rounds n ≤ round
    → round < run.rounds
    → Below (plan_of run.design j) round (aim_in (plan_of run.design j) n p)
source_aim run j round n Waiting times long agree few more =
    let plan = plan_of run.design j in
    let all = sent_true n agree.0.sent in
    (alarm plan.period n.count, refl, (let less = within_round plan n.count round 0 (omega arith) long in omega arith))
source_aim run j round n (Running i) times long agree few more =
    let plan = plan_of run.design j in (
      alarm plan.period (round_of n) + i * plan.step_period,
      running_aim plan n i,
      within_round plan (round_of n) round (i * plan.step_period) (at_least n.sent n.count round few)
          (short_step plan i long times agree.within),
    )
source_aim run j round n (Between i) times long agree few more =
    let plan = plan_of run.design j in
    let p : Progress = record { round = round_of n; steps = i; sent = n.sent } in (
      target plan (next_action plan p),
      refl,
      below_by plan n i round (send_is_next plan p) (nat_lt i plan.rate) times (at_least n.sent n.count round few)
          (short_step plan i long times agree.0.within) refl agree.0.within,
    )
source_aim run j round n Holding times long agree few more =
    let plan = plan_of run.design j in (
      alarm plan.period (round_of n) + plan.release_offset,
      refl,
      within_round plan (round_of n) round plan.release_offset (at_least n.sent n.count round few) times.release,
    )
source_aim run j round n Done times long agree few more =
    absurd (let all = sent_true n agree.0.sent in let rounds = agree.1 in omega arith)

pub meeting_sent : (run : Run) (s : BusState) (j round at : ℕ) → IsRunOf run → Agrees run s
    → j < length run.design.components → IsLeast run s at → at ≡ alarm run.design.period (round + 1)
    → round < run.rounds → sent_rounds (node_at s j) ≤ round → ⊥
meeting_sent run s j round at rules agree within least is more few =
    let n = node_at s j in
    let below =
    source_aim run j round n n.phase (times_of run j rules within) rules.design.period.0
    (node_agrees run s j agree within).phase few more in
    let most = least j below.0 within below.1 in
    let less = below.2 in
    omega arith
