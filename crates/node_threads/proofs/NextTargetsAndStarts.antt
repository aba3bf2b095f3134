-- For `look` and `begin`: the target of a node's next action is a reading, and a start is that of the round that the
-- node waits for.
use Rattle.std.proofs.Common.{◌≡◌, ◌≢◌, ℕ, ◌+◌, ◌*◌, ◌<◌, ◌≤◌, nat_lt, Bool, true, false, cond, length, Some, refl, sym}
use Rattle.std.proofs.Common.{ap, ◌∙◌, subst, arith}
use Rattle.std.proofs.Math.Nat.{mul-le-mul}
use Rattle.std.proofs.lemmas.Grind.{common_steps}
use Rattle.std.proofs.lemmas.Option.{same_Some}
use Rattle.pals_base.specs.declared.limits.TheConstants.{HOUR, RATE, READING, ROUNDS}
use Rattle.pals_runs.specs.declared.phase.Phase.{Phase}
use Rattle.pals_runs.specs.declared.phase.Phase.TheVariants.{Waiting, Running, Between, Holding, Done}
use Rattle.bus_machine.specs.declared.plan.Plan.{Plan}
use Rattle.bus_machine.specs.declared.node_action.NodeAction.{NodeAction}
use Rattle.bus_machine.specs.declared.node_action.NodeAction.TheVariants as action
use Rattle.bus_machine.specs.Agreement.{PhaseAgrees, Agrees}
use Rattle.bus_machine.specs.proof.AgreementLaws.{IsRunOf}
use Rattle.bus_machine.specs.Nodes.{NodeState, round_of}
use Rattle.bus_machine.specs.Plans.{plan_of, component_at}
use Rattle.bus_machine.specs.BusStates.{BusState, node_at}
use Rattle.bus_machine.specs.RunParameters.{Run}
use Rattle.bus_machine.specs.ActionsAndTargets.{target, send_is_next, next_in}
use Rattle.pals_node.specs.proof.NodeInvariants.{IsPlan}
use Rattle.pals_node.proofs.Plans.{plan_keeps}
use Rattle.run_laws.specs.NodeActions.{upcoming}
use Rattle.run_laws.proofs.NodePicksAndRunReplay.{node_agrees}

-- the numbers of an action
abbrev Fits : NodeAction → Type 0
Fits (action.Start round) = round ≤ ROUNDS
Fits (action.Step round step) = (round ≤ ROUNDS) × (step ≤ RATE)
Fits (action.Send round) = round ≤ ROUNDS

alarm_fits : (period round : ℕ) → period ≤ HOUR → round ≤ ROUNDS → (round + 1) * period ≤ (ROUNDS + 1) * HOUR
alarm_fits period round short few = let next : round + 1 ≤ ROUNDS + 1 = omega arith in mul-le-mul next short

target_by : (plan : Plan) (a : NodeAction) → IsPlan plan → Fits a → target plan a ≤ READING
target_by plan (action.Start round) rules fits = let alarm' =
    alarm_fits plan.period round rules.period fits in omega arith
target_by plan (action.Step round step) rules fits =
    let alarm' = alarm_fits plan.period round rules.period fits.0 in
    let steps : step * plan.step_period ≤ RATE * HOUR = mul-le-mul fits.1 rules.step_period in
    omega arith
target_by plan (action.Send round) rules fits = let alarm' = alarm_fits plan.period round rules.period fits in
    let offset = rules.offset in omega arith

between_fits : (plan : Plan) (round steps : ℕ) (sent : Bool) (a : NodeAction) (send : Bool) → steps < plan.rate
    → plan.rate ≤ RATE → round ≤ ROUNDS
    → cond send (action.Send round) (cond (nat_lt steps plan.rate) (action.Step round steps) (action.Start (round + 1)))
    ≡ a → Fits a
between_fits plan round steps sent a true less most few is = subst Fits is few
between_fits plan round steps sent a false less most few is =
    let below : nat_lt steps plan.rate ≡ true = grind (arith, common_steps) in
    subst Fits (ap (λ b. cond b (action.Step round steps) (action.Start (round + 1))) (sym below) ∙ is)
    (few, omega arith)

-- the rate, where the phase is between two steps
abbrev IsAmid : Plan → Phase → Type 0
IsAmid plan Waiting = Unit {0}
IsAmid plan (Running step) = Unit {0}
IsAmid plan (Between steps) = steps < plan.rate
IsAmid plan Holding = Unit {0}
IsAmid plan Done = Unit {0}

amid_by : (run : Run) (node : ℕ) (n : NodeState) (p : Phase) → PhaseAgrees run node (component_at run.design node) n p
    → IsAmid (plan_of run.design node) p
amid_by run node n Waiting agree = tt
amid_by run node n (Running step) agree = tt
amid_by run node n (Between steps) agree = agree.0.within
amid_by run node n Holding agree = tt
amid_by run node n Done agree = tt

fits_in : (plan : Plan) (n : NodeState) (p : Phase) (a : NodeAction) → IsPlan plan → n.count ≤ ROUNDS → IsAmid plan p
    → next_in plan n p ≡ Some a → Fits a
fits_in plan n Waiting a rules few amid is = subst Fits (same_Some (action.Start n.count) a is) few
fits_in plan n (Running step) a rules few amid is = absurd (cc)
fits_in plan n (Between steps) a rules few amid is =
    between_fits plan (round_of n) steps n.sent a
    (send_is_next plan (record { round = round_of n; steps = steps; sent = n.sent })) amid rules.rate.1
    (omega arith) (same_Some _ a is)
fits_in plan n Holding a rules few amid is = subst Fits (same_Some (action.Send (round_of n)) a is) (omega arith)
fits_in plan n Done a rules few amid is = absurd (cc)

-- the target of a node's next action is a reading
pub target_fits : (run : Run) (s : BusState) (node : ℕ) (a : NodeAction) → IsRunOf run → run.rounds ≤ ROUNDS
    → Agrees run s
    → node < length run.design.components
    → upcoming (plan_of run.design node) (node_at s node) ≡ Some a → target (plan_of run.design node) a ≤ READING
target_fits run s node a rules few agrees within is =
    let n = node_at s node in
    let here = node_agrees run s node agrees within in
    let plan = plan_of run.design node in
    let keeps = plan_keeps run.design node rules.design within in
    target_by plan a keeps (fits_in plan n n.phase a keeps (let most = here.rounds in omega arith)
    (amid_by run node n n.phase here.phase) is)

-- ---- a start
not_start : (plan : Plan) (round steps r : ℕ) (send : Bool) → steps < plan.rate
    → cond send (action.Send round) (cond (nat_lt steps plan.rate) (action.Step round steps) (action.Start (round + 1)))
    ≢ action.Start r
not_start plan round steps r true less is = absurd (cc)
not_start plan round steps r false less is =
    let below : nat_lt steps plan.rate ≡ true = grind (arith, common_steps) in
    let both : action.Step round steps ≡ action.Start r =
    ap (λ b. cond b (action.Step round steps) (action.Start (round + 1))) (sym below) ∙ is in
    absurd (cc)

pub record Waits (n : NodeState) (round : ℕ) : Type 0 where
  pub phase : n.phase ≡ Waiting
  pub round_is : round ≡ n.count

waits_in : (plan : Plan) (n : NodeState) (p : Phase) (round : ℕ) → n.phase ≡ p → IsAmid plan p
    → next_in plan n p ≡ Some (action.Start round) → Waits n round
waits_in plan n Waiting round phase amid is = let same : action.Start n.count ≡ action.Start round = same_Some _ _ is in
    record { phase = phase; round_is = cc }
waits_in plan n (Running step) round phase amid is = absurd (cc)
waits_in plan n (Between steps) round phase amid is =
    absurd (not_start plan (round_of n) steps round
    (send_is_next plan (record { round = round_of n; steps = steps; sent = n.sent })) amid (same_Some _ _ is))
waits_in plan n Holding round phase amid is =
    absurd (let both : action.Send (round_of n) ≡ action.Start round = same_Some _ _ is in cc)
waits_in plan n Done round phase amid is = absurd (cc)

-- a node that starts next waits, and starts the round that it has come to
pub start_waits : (run : Run) (s : BusState) (node round : ℕ) → Agrees run s → node < length run.design.components
    → upcoming (plan_of run.design node) (node_at s node) ≡ Some (action.Start round) → Waits (node_at s node) round
start_waits run s node round agrees within is =
    let n = node_at s node in
    waits_in (plan_of run.design node) n n.phase round refl
    (amid_by run node n n.phase (node_agrees run s node agrees within).phase) is
