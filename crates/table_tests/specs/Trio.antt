-- A set for the tests: two readers and a writer of one state item, and rows of it.
use Rattle.std.specs.Prelude.{ℕ, List, [], ◌∷◌, Option, None, Some, pos}
use Rattle.rt_base.specs.declared.ids.ItemId.{ItemId}
use Rattle.rt_base.specs.declared.ids.JobId.{JobId}
use Rattle.item_model.specs.declared.decl.ItemKind.TheVariants.{State}
use Rattle.item_model.specs.declared.decl.ItemDecl.{ItemDecl}
use Rattle.item_model.specs.declared.stored.Stored.{Stored}
use Rattle.txn_set.specs.declared.decl.TxnDecl.{TxnDecl}
use Rattle.txn_set.specs.declared.decl.Ceilings.{Ceilings}
use Rattle.txn_set.specs.Set.{Set, declared}
use Rattle.step_journal.specs.State.{Row, new_row}
use Rattle.step_journal.specs.Instant.{with_row}

abbrev pub x : ItemId
x = record { 0 = 0 }

abbrev pub trio_items : List ItemDecl
trio_items = record { kind = State; initial = pos 7 } ∷ []

abbrev pub trio_txns : List TxnDecl
trio_txns = declared 3 20 4 (x ∷ []) [] ∷ declared 2 20 4 (x ∷ []) [] ∷ declared 1 40 4 [] (x ∷ []) ∷ []

abbrev pub trio_ceilings : List Ceilings
trio_ceilings = record { write = 1; absolute = 3 } ∷ []

abbrev pub trio : Set
trio = record { items = trio_items; txns = trio_txns; together = [] }

abbrev pub first_job : ℕ → JobId
first_job tx = record { tx = record { 0 = tx }; serial = 0 }

abbrev pub trio_stored : List Stored
trio_stored = record { value = pos 0; stamp = 0 } ∷ []

abbrev pub no_rows : List (Option Row)
no_rows = None ∷ None ∷ None ∷ []

-- the writer has written
abbrev pub written_row : Row
written_row = record (new_row (first_job 2) 0) { used = 1; work = record { reads = []; writes = record { item = x; value = pos 9 } ∷ [] } }

abbrev pub high_row : Row
high_row = new_row (first_job 0) 1

abbrev pub written_rows : List (Option Row)
written_rows = Some high_row ∷ None ∷ Some written_row ∷ []

-- the middle one has read, and the high one is released
abbrev pub read_row : Row
read_row = record (new_row (first_job 1) 0) { used = 1; work = record { reads = record { item = x; stamp = 0 } ∷ []; writes = [] } }

abbrev pub read_rows : List (Option Row)
read_rows = Some high_row ∷ Some read_row ∷ None ∷ []

-- both readers have read
abbrev pub both_rows : List (Option Row)
both_rows = Some (record high_row { used = 1; work = record { reads = record { item = x; stamp = 0 } ∷ []; writes = [] } }) ∷ Some read_row ∷ None ∷ []

-- and the writer is released
abbrev pub last_rows : List (Option Row)
last_rows = with_row 2 both_rows (first_job 2)
