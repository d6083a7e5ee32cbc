use Rattle.cap_base.proofs.paths.Levels.{levels_in_order}
use Rattle.cap_base.proofs.paths.Listed.{listings_stand_below}
use Rattle.cap_base.proofs.paths.Paths.{under_by_path}
use Rattle.cap_base.proofs.paths.Trees.{trees_are_tested}
use Rattle.cap_base.proofs.laws.paths_are_trees.Goals as goal

pub returns-clause-under : goal.returns-clause-under
returns-clause-under c = under_by_path

pub returns-clause-tested : goal.returns-clause-tested
returns-clause-tested c = trees_are_tested

pub returns-clause-listed : goal.returns-clause-listed
returns-clause-listed c = listings_stand_below

pub returns-clause-levels : goal.returns-clause-levels
returns-clause-levels c = levels_in_order
