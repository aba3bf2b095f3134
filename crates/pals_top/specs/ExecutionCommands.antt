-- The kinds of executions: the result of each command with step codes for a design, its codes and a scenario.
use Rattle.std.specs.Prelude.{Bool}

pub data Execution : Type 0 where
  -- what a list of events within the bounds leaves
  TimedWorld : Execution
  -- what a list of events without time leaves
  LooseWorld : Execution
  -- the result of a run of the nodes in threads, with its journal if a trace is requested
  Run : Bool → Execution
  -- the verdict on a trace
  Audit : Execution
  -- the round budgets of processors
  Budget : Execution
