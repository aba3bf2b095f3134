use Rattle.std.proofs.Common.{◌≡◌}
use Rattle.pals_model.specs.proof.SourceTables.{table_of, linked_from}
use Rattle.pals_model.proofs.port_sources.add_links.Given as goal

-- the links from this number on are in the table
abbrev pub invariant-loop-at : goal.invariant-loop-at
invariant-loop-at l = l.table ≡ table_of l.design.components (linked_from l.design l.at)
