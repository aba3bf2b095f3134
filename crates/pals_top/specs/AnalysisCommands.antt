-- The kinds of analyses: the result of each command without step codes for a design and a scenario.

pub data Analysis : Type 0 where
  -- the rounds of the synchronous composition
  Sync : Analysis
  -- the values of properties in each round
  Watch : Analysis
  -- the rounds with replicas that vote
  Vote : Analysis
  -- the rounds in which plants answer their controllers within the step
  Fuse : Analysis
