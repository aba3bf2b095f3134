use Rattle.std.proofs.Common.{◌≤◌, ◌-◌, vec_len}
use Rattle.pals_io.proofs.RepeatedTransfers.{GivesFirst}
use Rattle.pals_io.proofs.transfers.read_all.Given as goal

-- the bytes read so far, within the limit
abbrev pub invariant-loop-all : goal.invariant-loop-all
invariant-loop-all g l = record {
  within : vec_len l.all ≤ l.most;
  given : GivesFirst (g.S.Source.shown l.fn.source) (g.S.Source.shown l.source) l.all.items;
}

abbrev pub decreases-loop-all : goal.decreases-loop-all
decreases-loop-all g l = l.most - vec_len l.all
