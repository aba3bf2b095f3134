-- A reader or a writer with a count of failed calls.
use Rattle.std.specs.Prelude.{ℕ}

pub record Counted (A : Type 0) : Type 0 where
  pub inner : A
  -- the number of failed calls, up to 2^64 - 1
  pub faults : ℕ
