-- For the tests: two transactions that read and write nothing, and bodies that always compute or always quit.
use Rattle.std.specs.Prelude.{ℕ, Bool, true, false, List, [], ◌∷◌}
use Rattle.rt_base.specs.declared.operation.Op.{Op}
use Rattle.rt_base.specs.declared.operation.Op.TheVariants.{Compute, Quit}
use Rattle.txn_set.specs.declared.decl.TxnDecl.{TxnDecl}
use Rattle.txn_set.specs.Set.{Set, declared}

abbrev pub steady_txn : (prio period : ℕ) → TxnDecl
steady_txn prio period = declared prio period 2 [] []

abbrev pub steady_txns : List TxnDecl
steady_txns = steady_txn 2 4 ∷ steady_txn 1 8 ∷ []

abbrev pub steady_set : Set
steady_set = record { items = []; txns = steady_txns; together = [] }

abbrev pub steady_op : Bool → Op
steady_op true = Compute
steady_op false = Quit
