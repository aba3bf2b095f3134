-- The line of a ring that has gone through its schedule.
use Rattle.std.specs.Prelude.{◌≡◌, ℕ, ℤ, pos, ◌*◌, ◌<◌, List, [], ◌∷◌, codes, decimal, slice_index_or}
use Rattle.std.specs.Fmt.{signed_decimal}
use Rattle.pals_model.specs.declared.part.Part.{Part}
use Rattle.pals_model.specs.ComponentInputs.{no_env}
use Rattle.pals_model.specs.RoundTexts.{text_of}
use Rattle.pals_runs.specs.declared.phase.Phase.TheVariants.{Done}
use Rattle.pals_runs.specs.JournalLines.{spaced}
use Rattle.bus_machine.specs.BusStates.{node_at}
use Rattle.run_laws.specs.Worlds.{world_run}
use Rattle.pals_bus.specs.BusValues.{BusValue}
use Rattle.world_gen.specs.Rings.{ring, ring_sum}

-- as many links as components, and one message on each link in each round
abbrev pub message_count : ℕ → ℕ → ℕ
message_count n rounds = n * rounds

abbrev pub ring_line : ℕ → ℕ → List ℕ
ring_line n rounds =
    spaced (
    codes "ring" ∷ decimal n ∷ codes "rounds" ∷ decimal rounds ∷ codes "messages" ∷ decimal (message_count n rounds)
    ∷ codes "sum"
    ∷ signed_decimal (ring_sum n rounds) ∷ []
    )

abbrev pub ring_text : ℕ → ℕ → List ℕ
ring_text n rounds = text_of (ring_line n rounds ∷ [])

-- the number of a component that has left this part
abbrev pub number_in : Part → ℤ
number_in part = slice_index_or part.frame.vars 0 (pos 0)

-- a bus belongs to this ring and these rounds, and each node has done all of them
pub record IsDoneRing (n rounds : ℕ) (bus : BusValue) : Type 0 where
  pub run : bus.run ≡ world_run (ring n) no_env rounds
  pub done : (node : ℕ) → node < n → (node_at bus.state node).phase ≡ Done
