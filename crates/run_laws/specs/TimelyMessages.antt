-- With list clocks: which rounds of links are in time.
use Rattle.std.specs.Prelude.{ℕ, ◌+◌, ◌<◌, ◌≤◌, List}
use Rattle.pals_clock.specs.ClockStates.{ClockState}
use Rattle.pals_model.specs.Delays.{delay_of}
use Rattle.bus_machine.specs.Plans.{link_at}
use Rattle.bus_machine.specs.RunParameters.{Run}
use Rattle.run_laws.specs.PicksAndJournalLines.{IsPickFor}
use Rattle.bus_machine.specs.declared.node_action.NodeAction.TheVariants as action

-- a round of a link is in time: where its target's picks reach the start of the round after it, its source's picks
-- reach its send, and that pick plus the delay is no more than the pick of the start
abbrev pub IsTimely : Run → List ClockState → ℕ → ℕ → Type 0
IsTimely run clocks number round = let link = link_at run.design number in
    (start : ℕ) → round + 1 < run.rounds → IsPickFor run clocks link.target.0 (action.Start (round + 1)) start
    → (send : ℕ) × IsPickFor run clocks link.source.0 (action.Send round) send
    × (send + delay_of run.delays number round ≤ start)
