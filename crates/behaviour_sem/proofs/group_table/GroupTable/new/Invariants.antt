use Rattle.std.proofs.Common.{◌≡◌, ℕ, [], length, take, slice_index_or}
use Rattle.behaviour_sem.specs.proof.GroupedTransitions.{sources_of, numbers_of}
use Rattle.behaviour_sem.proofs.group_table.GroupTable.new.Given as goal

-- the transitions so far are in their groups
abbrev pub invariant-loop-transition : goal.invariant-loop-transition
invariant-loop-transition l = record {
  sources : l.sources ≡ sources_of (take l.transition-index l.transition-items);
  len : length l.groups ≡ length l.behaviour.states;
  groups : (state : ℕ) → slice_index_or l.groups state [] ≡ numbers_of state 0 l.sources;
}
