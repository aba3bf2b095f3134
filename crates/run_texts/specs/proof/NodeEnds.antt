-- How the nodes of a run ended: the first one whose clock ended. The theorem cites none of it.
use Rattle.std.specs.Prelude.{◌≡◌, ◌⊎◌, ℕ, ◌<◌, List, Option, Some, None, slice_get}
use Rattle.pals_base.specs.declared.basic_types.NodeNo.{NodeNo}
use Rattle.node_threads.specs.declared.node_end.NodeEnd.{NodeEnd}
use Rattle.node_threads.specs.declared.node_end.NodeEnd.TheVariants.{Finished, ClockEnded}

-- a node is done, or its list has ended
abbrev pub IsComeEnd : NodeEnd → Type 0
IsComeEnd e = (e ≡ Finished) ⊎ ((goal : ℕ) × (e ≡ ClockEnded goal))

-- the first of some ends that is the end of a list, with the requested target; `None` if all nodes are done
abbrev pub IsFirst : List NodeEnd → ℕ → Option (NodeNo × ℕ) → Type 0
IsFirst ends many None = (node : ℕ) → node < many → slice_get ends node ≡ Some Finished
IsFirst ends many (Some named) =
    (named.0.0 < many) × (slice_get ends named.0.0 ≡ Some (ClockEnded named.1))
    × ((node : ℕ) → node < named.0.0 → slice_get ends node ≡ Some Finished)

-- each of the first ends is a node's that is done or whose list has ended, and the first of the latter is named
pub record AreFirst (ends : List NodeEnd) (many : ℕ) (named : Option (NodeNo × ℕ)) : Type 0 where
  pub each : (node : ℕ) → node < many → (e : NodeEnd) × (slice_get ends node ≡ Some e) × IsComeEnd e
  pub first : IsFirst ends many named
