-- A node's phase, counts and times are in range, and the last time that it allows is the one that the world has for
-- it.
use Rattle.std.proofs.Common.{◌≡◌, ℕ, ◌+◌, ◌<◌, ◌≤◌, true, length, Option, Some, None, refl, ap, ap₂, ◌∙◌, sym, subst}
use Rattle.std.proofs.Common.{arith}
use Rattle.std.specs.Prelude.{is_some, slice_index_or}
use Rattle.std.proofs.lemmas.Bool.{false≢true}
use Rattle.pals_base.specs.declared.limits.TheConstants.{READING, ROUNDS}
use Rattle.pals_runs.specs.declared.phase.Phase.{Phase}
use Rattle.pals_runs.specs.declared.phase.Phase.TheVariants.{Waiting, Running, Between, Holding, Done}
use Rattle.pals_base.specs.declared.period_bound_and_releases.Gamma.{Gamma}
use Rattle.bus_machine.specs.declared.plan.Plan.{Plan}
use Rattle.bus_machine.specs.Plans.{plan_of, component_at}
use Rattle.bus_machine.specs.BusStates.{node_at}
use Rattle.bus_machine.specs.RunParameters.{Run}
use Rattle.bus_machine.specs.Agreement.{PhaseAgrees}
use Rattle.bus_machine.specs.proof.AgreementLaws.{IsRunOf}
use Rattle.run_laws.specs.Worlds.{World, since_at, ready_at}
use Rattle.run_laws.specs.Deadlines.{node_deadline, phase_deadline, lesser}
use Rattle.run_laws.specs.proof.WorldInvariant.{KeepsDeadline, KeepsTime}
use Rattle.run_laws.proofs.WorldNodeTiming.{deadline_is, phase_agrees, rounds_at_most, send_last as of_send}
use Rattle.run_laws.proofs.WorldNodeTiming.{phase_last as of_phase}
use Rattle.run_laws.proofs.WorldTimeRanges.{times_are_readings}
use Rattle.timed_world.specs.declared.node_standing.NodeStanding.{NodeStanding}
use Rattle.timed_world.specs.proof.WorldValuesAndMoves.{WorldValue, KeepsWorld, world_of}
use Rattle.timed_world.specs.proof.NodeStandings.{IsSound, standing_of, phase_last, send_last, last_time}

-- ---- a moment is at most the time, if there is a last time
some_lesser : (a : ℕ) (b : Option ℕ) → is_some (lesser (Some a) b) ≡ true
some_lesser a None = refl
some_lesser a (Some b) = refl

time_small : (time most : ℕ) (o : Option ℕ) → is_some o ≡ true → KeepsDeadline time o
    → ((last : ℕ) → o ≡ Some last → last ≤ most) → time ≤ most
time_small time most None some in_time small = absurd (false≢true some)
time_small time most (Some last) some in_time small = let few = small last refl in
    let before : time ≤ last = in_time in omega arith

module _ (run : Run) (w : World) (rules : IsRunOf run) (few : run.rounds ≤ ROUNDS) (keeps : KeepsTime run w) (node : ℕ)
    (within : node < length run.design.components) where
  since_small : (step : ℕ) → (node_at w.bus node).phase ≡ Running step → since_at w node ≤ READING
  since_small step is =
      let g = run.design.gamma in
      let plan = plan_of run.design node in
      let n = node_at w.bus node in
      let past = ((keeps.nodes node within).running step is).past in
      let there : is_some (node_deadline run w node) ≡ true =
      ap is_some (deadline_is run w node
      ∙ ap (λ p. lesser (of_phase g plan n (since_at w node) p) (of_send g plan n (ready_at w node))) is)
      ∙ some_lesser (since_at w node + g.alpha_max) (of_send g plan n (ready_at w node)) in
      let small =
      time_small w.time READING (node_deadline run w node) there (keeps.in_time node within)
      (λ last same. (times_are_readings run w rules few keeps).nodes node last within same) in
      omega arith

  -- the node's phase on the bus
  abbrev Agreed : Phase → Type 0
  Agreed p = PhaseAgrees run node (component_at run.design node) (node_at w.bus node) p

  agreed : (p : Phase) → (node_at w.bus node).phase ≡ p → Agreed p
  agreed p is = subst Agreed is (phase_agrees run w rules keeps node within)

  pub stands_sound : IsSound (plan_of run.design node) (standing_of w node)
  stands_sound =
      let most = rounds_at_most run w rules keeps node within in
      record {
        count = omega arith;
        between = λ steps is. (agreed (Between steps) is).0.within;
        running = λ step is. record { within = (agreed (Running step) is).within; since = since_small step is };
      }

-- so is every state with its count, its phase, and the time since which it is in the phase
pub sound_again : (v : WorldValue) (node : ℕ) (s : NodeStanding) → KeepsWorld v
    → node < length v.bus.run.design.components
    → s.count ≡ (node_at v.bus.state node).count → s.phase ≡ (node_at v.bus.state node).phase
    → s.since ≡ slice_index_or v.since node 0
    → IsSound (plan_of v.bus.run.design node) s
sound_again v node s keeps within count phase since =
    let sound = stands_sound v.bus.run (world_of v) keeps.rules keeps.few keeps.keeps node within in
    record {
      count = subst (λ n. n ≤ ROUNDS) (sym count) sound.count;
      between = λ steps is. sound.between steps (sym phase ∙ is);
      running = λ step is.
          let runs = sound.running step (sym phase ∙ is) in
          record { within = runs.within; since = subst (λ n. n ≤ READING) (sym since) runs.since };
    }

-- ---- the last time
phase_is : (run : Run) (w : World) (node : ℕ) (p : Phase)
    → phase_deadline run w node p ≡ phase_last (plan_of run.design node) (standing_of w node) run.design.gamma p
phase_is run w node Waiting = refl
phase_is run w node (Running step) = refl
phase_is run w node (Between steps) = refl
phase_is run w node Holding = refl
phase_is run w node Done = refl

pub last_is : (run : Run) (w : World) (node : ℕ) (plan : Plan) (s : NodeStanding) (g : Gamma)
    → plan ≡ plan_of run.design node → s ≡ standing_of w node
    → g ≡ run.design.gamma → last_time plan s g ≡ node_deadline run w node
last_is run w node plan s g plan_is is gamma_is =
    let here = plan_of run.design node in
    let stands = standing_of w node in
    ap (λ p. last_time p s g) plan_is ∙ ap₂ (λ x y. last_time here x y) is gamma_is
    ∙ sym (ap (λ o. lesser o (send_last here stands run.design.gamma)) (phase_is run w node (node_at w.bus node).phase))
