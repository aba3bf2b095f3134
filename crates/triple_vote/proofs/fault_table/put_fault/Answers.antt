use Rattle.std.proofs.Common.{◌∙◌, sym, arith}
use Rattle.triple_vote.proofs.FaultTables.{placed_within}
use Rattle.triple_vote.proofs.fault_table.put_fault.Goals as goal

pub set-requires : goal.set-requires
set-requires c =
    let inside = placed_within c.args.links c.args.fault.now (sym c.is_placed.ensures ∙ c.if-is_placed.true) in
    omega (arith, inside, c.place-at.ensures, c.requires)
