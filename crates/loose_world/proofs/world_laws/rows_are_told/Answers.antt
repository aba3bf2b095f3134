use Rattle.loose_world.proofs.FinishedRows.{finished_rows, common_rows, rounds_without_nodes}
use Rattle.loose_world.proofs.world_laws.rows_are_told.Goals as goal

pub returns : goal.returns
returns c = record { world = finished_rows; common = common_rows; none = rounds_without_nodes }
