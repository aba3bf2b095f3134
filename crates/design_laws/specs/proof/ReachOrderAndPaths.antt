-- The existence of lists of declarations that contain one another: the declarations that one reaches, an order of
-- all, and the paths to marked ones.
use Rattle.std.specs.Prelude.{◌↔◌, ℕ, Bool, List, Contains}
use Rattle.aadl_uses.specs.proof.ContainmentGraphs.{Graph, IsReached, LeadsBack}
use Rattle.aadl_uses.specs.proof.ContainmentOrders.{IsOrder}
use Rattle.aadl_uses.specs.proof.MarkedPathCounts.{IsMarkedAt}
use Rattle.aadl_uses.specs.proof.OrderedLists.{AreListed}
use Rattle.aadl_uses.specs.ThreadsBelow.{path_before}

-- all declarations that a declaration reaches
pub record HasReach (g : Graph) (from : ℕ) : Type 0 where
  pub keys : List ℕ
  pub are : (n : ℕ) → Contains keys n ↔ IsReached g from n

-- no subcomponent leads back to the declaration that contains it
abbrev pub IsAcyclic : Graph → Type 0
IsAcyclic g = (n s : ℕ) → LeadsBack g n s → ⊥

-- all declarations, each after the declarations that it contains
abbrev pub HasOrder : Graph → Type 0
HasOrder g = (keys : List ℕ) × IsOrder g keys

-- all paths to marked declarations, in order
abbrev pub HasPaths : Graph → List Bool → ℕ → Type 0
HasPaths g marks n = (paths : List (List ℕ)) × AreListed (IsMarkedAt g marks n) path_before paths
