use Rattle.table_tests.proofs.TrioStands.{trio_stands, of_trio}
use Rattle.table_tests.proofs.tables.opened.Goals as goal

pub returns-clause-stand : goal.returns-clause-stand
returns-clause-stand c = trio_stands _ _ c.in_ok-set.ensures c.in_ok-tables.ensures

pub returns-clause-txns : goal.returns-clause-txns
returns-clause-txns c = (of_trio _ _ c.in_ok-set.ensures c.in_ok-tables.ensures).txns

pub returns-clause-items : goal.returns-clause-items
returns-clause-items c = (of_trio _ _ c.in_ok-set.ensures c.in_ok-tables.ensures).items

pub returns-clause-periods : goal.returns-clause-periods
returns-clause-periods c = (of_trio _ _ c.in_ok-set.ensures c.in_ok-tables.ensures).periods

pub returns-clause-rows : goal.returns-clause-rows
returns-clause-rows c = (of_trio _ _ c.in_ok-set.ensures c.in_ok-tables.ensures).rows

pub returns-clause-tallies : goal.returns-clause-tallies
returns-clause-tallies c = (of_trio _ _ c.in_ok-set.ensures c.in_ok-tables.ensures).tallies
