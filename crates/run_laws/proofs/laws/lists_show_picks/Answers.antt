use Rattle.run_laws.proofs.LinePicks.{lines_are_picks}
use Rattle.run_laws.proofs.NodePicksAndRunReplay.{nodes_pick, readings_are_picks}
use Rattle.run_laws.proofs.laws.lists_show_picks.Goals as goal

pub returns : goal.returns
returns c = record {
  nodes = λ run clocks journal s rules runs node within. nodes_pick run clocks journal s node rules runs within;
  readings =
      λ run clocks journal s rules runs node within. readings_are_picks run clocks journal s node rules runs within;
  lines = lines_are_picks;
}
