use Rattle.table_tests.proofs.TrioCompiled.{of_trio, of_ceilings}
use Rattle.table_tests.proofs.trio.trio.Goals as goal

pub of-requires-clause-compiled : goal.of-requires-clause-compiled
of-requires-clause-compiled c = of_trio _ _ _ c.in_ok-items.ensures c.in_ok-txns.ensures c.new-together.ensures.items

pub of-requires-clause-ceilings : goal.of-requires-clause-ceilings
of-requires-clause-ceilings c =
    of_ceilings _ _ _ _ c.in_ok-items.ensures c.in_ok-txns.ensures c.new-together.ensures.items c.in_ok-ceilings.ensures
