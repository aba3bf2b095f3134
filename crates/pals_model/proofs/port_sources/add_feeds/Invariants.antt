use Rattle.std.proofs.Common.{◌≡◌}
use Rattle.pals_model.specs.proof.SourceTables.{table_of, fed_from}
use Rattle.pals_model.proofs.port_sources.add_feeds.Given as goal

-- the feeds from this number on are in the table
abbrev pub invariant-loop-at : goal.invariant-loop-at
invariant-loop-at l = l.table ≡ table_of l.design.components (fed_from l.design l.at)
