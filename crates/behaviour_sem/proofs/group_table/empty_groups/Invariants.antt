use Rattle.std.proofs.Common.{◌≡◌, ℕ, [], length, slice_index_or}
use Rattle.behaviour_sem.proofs.group_table.empty_groups.Given as goal

abbrev pub invariant-loop : goal.invariant-loop
invariant-loop l = record {
  len : length l.groups ≡ l.counter;
  empty : (state : ℕ) → slice_index_or l.groups state [] ≡ [];
}
