-- Formulas of monitors as plain trees, without their place in memory.
use Rattle.std.specs.Prelude.{ℕ, ℤ}
use Rattle.pals_runs.specs.declared.forms.Compare.{Compare}

pub data Formula : Type 0 where
  Var : ℕ → ℕ → Compare → ℤ → Formula
  Halted : ℕ → Formula
  Not : Formula → Formula
  And : Formula → Formula → Formula
  Or : Formula → Formula → Formula
  Previous : Formula → Formula
  Once : Formula → Formula
  Historically : Formula → Formula
  Since : Formula → Formula → Formula
