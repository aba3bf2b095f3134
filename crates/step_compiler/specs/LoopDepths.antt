-- How deep loops nest in actions.
use Rattle.std.specs.Prelude.{ℕ, ◌+◌, max, List, [], ◌∷◌}
use Rattle.pals_base.specs.ExpressionAndActionTrees.{Action, Assign, Emit, If, For, Actions, Nothing, Do, Branches}
use Rattle.pals_base.specs.ExpressionAndActionTrees.{NoBranch, Where}
use Rattle.pals_base.specs.ExpressionAndActionTrees.{Edge}

abbrev mutual
  pub depth_act : Action → ℕ
  depth_act (Assign x e) = 0
  depth_act (Emit p e) = 0
  depth_act (If branches otherwise) = max (depth_branches branches) (depth_acts otherwise)
  depth_act (For low high body) = depth_acts body + 1

  pub depth_acts : Actions → ℕ
  depth_acts Nothing = 0
  depth_acts (Do a rest) = max (depth_act a) (depth_acts rest)

  pub depth_branches : Branches → ℕ
  depth_branches NoBranch = 0
  depth_branches (Where guard actions rest) = max (depth_acts actions) (depth_branches rest)

abbrev pub depth_edges : List Edge → ℕ
depth_edges [] = 0
depth_edges (e ∷ es) = max (depth_acts e.actions) (depth_edges es)
