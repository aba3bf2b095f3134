use Rattle.std.proofs.Common.{◌≡◌, drop}
use Rattle.std.specs.List.{flat_map}
use Rattle.aadl_names.specs.proof.FirstFaultSoFar.{found}
use Rattle.aadl_names.specs.DuplicateNames.{again}
use Rattle.aadl_names.proofs.duplicate_names.look_up_all.Given as goal

-- the remaining entries are still to be looked up
abbrev pub invariant-loop-entry : goal.invariant-loop-entry
invariant-loop-entry l =
    found l.initial.finder (flat_map (again l.entries) l.entries)
    ≡ found l.finder (flat_map (again l.entries) (drop l.entry-index l.entries))
