-- For the tests: a set without transactions.
use Rattle.std.specs.Prelude.{[]}
use Rattle.txn_set.specs.Set.{Set}

abbrev pub set_of_none : Set
set_of_none = record { items = []; txns = []; together = [] }
