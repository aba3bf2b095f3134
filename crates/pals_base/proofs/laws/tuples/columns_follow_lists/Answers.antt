use Rattle.pals_base.proofs.ColumnsAndCutTuples.{length-columns, length-each_column, slice_get-columns}
use Rattle.pals_base.proofs.laws.tuples.columns_follow_lists.Goals as goal

pub returns-clause-count : goal.returns-clause-count
returns-clause-count c = length-columns

pub returns-clause-each : goal.returns-clause-each
returns-clause-each c = length-each_column

pub returns-clause-place : goal.returns-clause-place
returns-clause-place c = slice_get-columns
