-- Laws of rings.
use Rattle.std.specs.Prelude.{◌≡◌, ℕ, ◌*◌, ◌<◌, ◌≤◌, ℤ, pos, ◌+ℤ◌, ◌≤ℤ◌, ◌<ℤ◌, map, fold, sum_by, slice_index_or}
use Rattle.pals_base.specs.declared.limits.TheConstants.{COMPONENTS}
use Rattle.pals_base.specs.UpwardNumbers.{upwards}
use Rattle.pals_model.specs.ComponentInputs.{no_env}
use Rattle.pals_model.specs.DesignRules.{IsDesign}
use Rattle.pals_runs.specs.declared.phase.Phase.TheVariants.{Done}
use Rattle.bus_machine.specs.BusStates.{BusState, node_at}
use Rattle.bus_machine.specs.RunParameters.{Run}
use Rattle.bus_machine.specs.MissedMessages.{rounds_sent_on}
use Rattle.bus_machine.specs.Agreement.{Agrees}
use Rattle.run_laws.specs.Worlds.{world_run}
use Rattle.world_gen.specs.Rings.{ring, ring_number, ring_sum}

-- each ring of two components or more is a design
abbrev pub RingsAreDesigns : Type 0
RingsAreDesigns = (n : ℕ) → 2 ≤ n → n ≤ COMPONENTS → IsDesign (ring n)

-- what the numbers of two small rings come to
pub record RingsAddUp : Type 0 where
  pub two : ring_sum 2 3 ≡ pos 57
  pub three : ring_sum 3 3 ≡ pos 97

-- each number of a ring is from 0 to 999, so the sum of all fits 64 bits
abbrev pub RingNumbersAreSmall : Type 0
RingNumbersAreSmall =
    (n rounds node : ℕ) → (pos 0 ≤ℤ ring_number n rounds node) × (ring_number n rounds node <ℤ pos 1000)

-- ---- a ring in a world
abbrev pub ring_run : ℕ → ℕ → Run
ring_run n rounds = world_run (ring n) no_env rounds

-- the number x of a node
abbrev pub number_at : BusState → ℕ → ℤ
number_at bus node = slice_index_or (node_at bus node).frame.vars 0 (pos 0)

-- the numbers add up to the sum of the composition, and each link has brought a message in each round
pub record IsRingDone (n rounds : ℕ) (bus : BusState) : Type 0 where
  pub sum : fold ◌+ℤ◌ (pos 0) (map (number_at bus) (upwards 0 n)) ≡ ring_sum n rounds
  pub messages : sum_by (rounds_sent_on (ring_run n rounds) bus) (upwards 0 n) ≡ n * rounds

abbrev pub DoneRingsAddUp : Type 0
DoneRingsAddUp =
    (n rounds : ℕ) (bus : BusState) → 2 ≤ n → Agrees (ring_run n rounds) bus
    → ((node : ℕ) → node < n → (node_at bus node).phase ≡ Done) → IsRingDone n rounds bus
