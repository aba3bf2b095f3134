-- What it is to hold of each node, or of each link, of a run.
use Rattle.std.specs.Prelude.{ℕ, ◌<◌, length}
use Rattle.bus_machine.specs.RunParameters.{Run}

abbrev pub EachNode : Run → (ℕ → Type 0) → Type 0
EachNode run P = (node : ℕ) → node < length run.design.components → P node

abbrev pub EachLink : Run → (ℕ → Type 0) → Type 0
EachLink run P = (number : ℕ) → number < length run.design.links → P number
