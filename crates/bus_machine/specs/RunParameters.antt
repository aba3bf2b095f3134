-- What a run is of: a design, the values of its root in ports, how many rounds, and how long messages take.
use Rattle.std.specs.Prelude.{ℕ}
use Rattle.pals_model.specs.declared.design.DesignParts.{DesignParts}
use Rattle.pals_model.specs.declared.environment.Env.{Env}
use Rattle.pals_model.specs.declared.delays.Delays.{Delays}

-- what a run is of: a design, the values of its root in ports, how many rounds, and how long messages take
pub record Run : Type 0 where
  pub design : DesignParts
  pub env : Env
  pub rounds : ℕ
  pub delays : Delays
