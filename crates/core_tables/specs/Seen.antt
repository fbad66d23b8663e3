-- What contracts see of the tables, and the tallies of ended jobs.
use Rattle.std.specs.Prelude.{ℕ, ◌+◌, List, None, Some, slice_index_or, slice_set}
use Rattle.rt_base.specs.declared.operation.End.{End}
use Rattle.item_model.specs.declared.stored.Stored.{Stored}
use Rattle.release_calendar.specs.Agenda.{Agenda}
use Rattle.core_tables.specs.Rows.{PendingSeen}
use Rattle.core_tables.specs.declared.tally.Tally.{Tally}

-- the present tick, the items, the plans and planned releases, the pending jobs, and by transaction what is kept of the ended ones
pub record TablesSeen : Type 0 where
  pub clock : ℕ
  pub items : List Stored
  pub calendar : Agenda
  pub pending : PendingSeen
  pub tallies : List Tally

abbrev pub no_tally : Tally
no_tally = record { number = 0; last = None }

abbrev pub tally_of : List Tally → ℕ → Tally
tally_of tallies tx = slice_index_or tallies tx no_tally

-- a tally with one more ended job
abbrev pub counted : Tally → End → Tally
counted t end = record { number = t.number + 1; last = Some end }

abbrev pub tallies_after : List Tally → ℕ → End → List Tally
tallies_after tallies tx end = slice_set tallies tx (counted (tally_of tallies tx) end)
