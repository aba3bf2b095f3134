-- The models of properties: a name, and a formula as a plain tree.
use Rattle.std.specs.Prelude.{ℕ, List}
use Rattle.pals_runs.specs.Formula.{Formula}

pub record PropertyValue : Type 0 where
  pub name : List ℕ
  pub form : Formula
