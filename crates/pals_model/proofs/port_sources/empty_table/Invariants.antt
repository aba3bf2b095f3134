use Rattle.std.proofs.Common.{◌≡◌, ◌++◌, map, drop}
use Rattle.std.specs.List.{enumerate_from}
use Rattle.pals_model.specs.proof.SourceTables.{table_of, nothing}
use Rattle.pals_model.proofs.SourceTables.{row}
use Rattle.pals_model.proofs.port_sources.empty_table.Given as goal

-- the rows so far, and the rows of the remaining components
abbrev pub invariant-loop-component : goal.invariant-loop-component
invariant-loop-component l =
    l.table ++ map (row nothing) (enumerate_from l.component-index (drop l.component-index l.components))
    ≡ table_of l.components nothing
