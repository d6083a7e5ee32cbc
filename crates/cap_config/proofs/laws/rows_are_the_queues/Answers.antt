use Rattle.cap_config.proofs.RowPaths.{levels_are_few}
use Rattle.cap_config.proofs.RowCounts.{one_row_each}
use Rattle.cap_config.proofs.RowBounds.{rows_are_few}
use Rattle.cap_config.proofs.laws.rows_are_the_queues.Goals as goal

pub returns-clause-levels : goal.returns-clause-levels
returns-clause-levels c = levels_are_few

pub returns-clause-rows : goal.returns-clause-rows
returns-clause-rows c = one_row_each

pub returns-clause-few : goal.returns-clause-few
returns-clause-few c = rows_are_few
