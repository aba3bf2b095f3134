-- A ring that has gone through its schedule.
use Rattle.std.proofs.Common.{◌≡◌, ◌∙◌, ℕ, zero, suc, ◌+◌, ◌-◌, ◌<◌, ◌≤◌, List, length, Option, Some, None, slice_get}
use Rattle.std.proofs.Common.{pos, ◌+ℤ◌, refl, sym, ap, ap₂, subst, arith, FitsSigned, w64, to_z, of_z}
use Rattle.std.specs.Prelude.{ℤ, slice_index_or}
use Rattle.std.proofs.lemmas.Int.{ints, to_z-of_z}
use Rattle.std.proofs.lemmas.Option.{none-some, same_Some}
use Rattle.pals_base.specs.declared.limits.TheConstants.{COMPONENTS}
use Rattle.pals_base.specs.declared.frames.Frame.{Frame}
use Rattle.pals_base.proofs.UpwardNumbers.{length-map_upwards, slice_get-map_upwards}
use Rattle.pals_model.specs.declared.design.Component.{Component}
use Rattle.pals_model.specs.declared.design.DesignParts.{DesignParts}
use Rattle.pals_model.specs.declared.environment.Env.{Env}
use Rattle.pals_model.specs.declared.part.Part.{Part}
use Rattle.pals_model.specs.Composition.{comp, state, part}
use Rattle.pals_model.specs.ComponentInputs.{no_env}
use Rattle.pals_runs.specs.declared.phase.Phase.{Phase}
use Rattle.pals_runs.specs.declared.phase.Phase.TheVariants.{Waiting, Running, Between, Holding, Done}
use Rattle.pals_runs.specs.declared.events_and_faults.Event.{Event}
use Rattle.step_code.specs.declared.instr.CodeParts.{CodeParts}
use Rattle.bus_machine.specs.Nodes.{NodeState}
use Rattle.bus_machine.specs.BusStates.{node_at}
use Rattle.bus_machine.specs.RunParameters.{Run}
use Rattle.bus_machine.specs.Agreement.{PhaseAgrees, Agrees}
use Rattle.pals_bus.specs.BusValues.{BusValue}
use Rattle.run_laws.specs.Worlds.{World, world_run}
use Rattle.timed_world.specs.proof.WorldValuesAndMoves.{WorldValue, opening_value}
use Rattle.timed_world.specs.proof.EventLists.{Leads}
use Rattle.loose_world.proofs.FinishedRows.{part_is}
use Rattle.world_gen.specs.proof.ScheduleLaws.{IsWhole}
use Rattle.world_gen.specs.Rings.{ring, ring_component, ring_number}
use Rattle.world_texts.specs.RingResultLines.{number_in, IsDoneRing}
use Rattle.world_texts.proofs.RingSumsAndCodes.{sum_first, sum_is_below, sum_more}

last_frame : (design : DesignParts) (env : Env) (node rounds : ℕ) → 0 < rounds
    → (part design env node (rounds - 1)).frame ≡ state design env node rounds
unfolding part state comp
last_frame design env node zero some = absurd (omega arith)
last_frame design env node (suc rounds) some =
    let before : suc rounds - 1 ≡ rounds = omega arith in
    ap (λ (r : ℕ). (part design env node r).frame) before

-- a node that is done has finished all rounds
all_finished : (run : Run) (node : ℕ) (c : Component) (n : NodeState) (p : Phase) → n.phase ≡ p → p ≡ Done
    → PhaseAgrees run node c n p → length n.parts ≡ run.rounds
all_finished run node c n Waiting is done agrees = absurd (cc done)
all_finished run node c n (Running step) is done agrees = absurd (cc done)
all_finished run node c n (Between steps) is done agrees = absurd (cc done)
all_finished run node c n Holding is done agrees = absurd (cc done)
all_finished run node c n Done is done agrees = agrees.0.finished ∙ agrees.1

last_part : (n rounds node : ℕ) (bus : BusValue) → IsDoneRing n rounds bus → Agrees bus.run bus.state
    → 1 ≤ rounds → node < n
    → slice_get (node_at bus.state node).parts (rounds - 1) ≡ Some (part (ring n) no_env node (rounds - 1))
last_part n rounds node bus ring_done agrees some within =
    let run : Run = world_run (ring n) no_env rounds in
    let agree : Agrees run bus.state = subst (λ (r : Run). Agrees r bus.state) ring_done.run agrees in
    let count : length (ring n).components ≡ n = length-map_upwards ring_component 0 n in
    let there : node < length (ring n).components = omega (arith, count, within) in
    let c = ring_component node in
    let is_c : slice_get (ring n).components node ≡ Some c = slice_get-map_upwards ring_component n node within in
    let here = node_at bus.state node in
    let all : length here.parts ≡ rounds =
    all_finished run node c here here.phase refl (ring_done.done node within) (agree.nodes node c is_c).phase in
    part_is run bus node (rounds - 1) agree there (omega (arith, all, some))

pub part_is_there : (n rounds node : ℕ) (bus : BusValue) (found : Option Part) → IsDoneRing n rounds bus
    → Agrees bus.run bus.state → 1 ≤ rounds → node < n
    → found ≡ slice_get (node_at bus.state node).parts (rounds - 1) → found ≡ None → ⊥
part_is_there n rounds node bus found ring_done agrees some within is none =
    none-some _ (sym none ∙ is ∙ last_part n rounds node bus ring_done agrees some within)

pub last_number : (n rounds node : ℕ) (bus : BusValue) (last : Part) → IsDoneRing n rounds bus
    → Agrees bus.run bus.state → 1 ≤ rounds → node < n
    → Some last ≡ slice_get (node_at bus.state node).parts (rounds - 1) → number_in last ≡ ring_number n rounds node
last_number n rounds node bus last ring_done agrees some within is =
    ap number_in (same_Some last (part (ring n) no_env node (rounds - 1))
    (is ∙ last_part n rounds node bus ring_done agrees some within))
    ∙ ap (λ (f : Frame). slice_index_or f.vars 0 (pos 0)) (last_frame (ring n) no_env node rounds some)

pub next_sum_fits : (n rounds node : ℕ) → n ≤ COMPONENTS → node < n
    → FitsSigned w64 (sum_first n rounds node +ℤ ring_number n rounds node)
next_sum_fits n rounds node few within =
    let bounds = sum_is_below n rounds (node + 1) in
    let low = bounds.0 in
    let high = bounds.1 in
    let more = sum_more n rounds node in
    omega (arith, ints, low, high, more)

-- two numbers of 64 bits, and what they stand for
pub added : (bits : ℕ) (x sum number : ℤ) → to_z w64 bits ≡ sum → x ≡ number → FitsSigned w64 x
    → to_z w64 bits +ℤ to_z w64 (of_z w64 x) ≡ sum +ℤ number
added bits x sum number so_far is fits = ap₂ (λ a b. a +ℤ b) so_far (to_z-of_z w64 x fits ∙ is)

pub all_done : (n rounds : ℕ) (design : DesignParts) (codes : List CodeParts) (env : Env) (events : List Event)
    (old new : WorldValue) → design ≡ ring n
    → env ≡ no_env → old ≡ opening_value design codes env rounds
    → ((env : Env) → IsWhole (world_run design env rounds) events) → Leads old events new
    → IsDoneRing n rounds new.bus
all_done n rounds design codes env events old new is_ring is_env opens whole leads =
    let opened : WorldValue = opening_value (ring n) codes no_env rounds in
    let run : Run = world_run (ring n) no_env rounds in
    let from : old ≡ opened = opens
    ∙ ap₂ (λ (d : DesignParts) (e : Env). opening_value d codes e rounds) is_ring is_env in
    let here : Leads opened events new = subst (λ (v : WorldValue). Leads v events new) from leads in
    let all : IsWhole run events =
    subst (λ (d : DesignParts). IsWhole (world_run d no_env rounds) events) is_ring (whole no_env) in
    record {
      run = ap (λ (b : BusValue). b.run) here.others;
      done = λ node within.
          ap (λ (w : World). (node_at w.bus node).phase) here.left
          ∙ all.done node (let count = length-map_upwards ring_component 0 n in omega (arith, count, within));
    }
