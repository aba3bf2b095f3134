use Rattle.std.proofs.Common.{◌≡◌, ◌<◌, ℕ, [], Some, get_or, length}
use Rattle.aadl_tree.specs.proof.PackageViews.{placed}
use Rattle.aadl_names.specs.NameResolution.{features_of, type_numbered}
use Rattle.aadl_instance.specs.proof.PortNumberTables.{AreAmong}
use Rattle.aadl_instance.proofs.port_numbers.PortNumbers.of.Given as goal

-- the rows of the declarations so far
abbrev pub invariant-loop-number : goal.invariant-loop-number
invariant-loop-number l =
    (length l.numbers ≡ l.number)
    × ((n : ℕ) → n < l.number
    → AreAmong (features_of (type_numbered (placed l.wires.uses.names.tree.now) (Some n))) (get_or l.numbers n []))
