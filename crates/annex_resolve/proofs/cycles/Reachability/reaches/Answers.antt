use Rattle.std.proofs.Common.{ap, ◌∙◌}
use Rattle.annex_resolve.specs.proof.ReachabilityTables.{cell}
use Rattle.annex_resolve.proofs.ReachabilityTableCells.{cell_of_table}
use Rattle.annex_resolve.proofs.cycles.Reachability.reaches.Goals as goal

pub returns : goal.returns
returns c =
    c.cell.ensures ∙ ap (λ rows. cell rows c.args.source c.args.target) c.requires.table
    ∙ cell_of_table c.args.self.now.between c.args.parts.now c.args.source c.args.target c.requires.source
    c.requires.target
