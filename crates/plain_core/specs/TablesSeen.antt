-- The tables as contracts see them: the state, with the list of ended jobs kept as tallies.
use Rattle.std.specs.Prelude.{ℕ, ◌+◌, List, [], map, None, Some, slice_index_or, slice_set}
use Rattle.std.specs.List.{fold}
use Rattle.rt_base.specs.declared.operation.End.{End}
use Rattle.txn_set.specs.Set.{Set}
use Rattle.step_journal.specs.declared.entry.EndedJob.{EndedJob}
use Rattle.step_journal.specs.State.{State}
use Rattle.plain_core.specs.declared.tally.Tally.{Tally}

-- Of the ended jobs only their number and the latest end are kept for each transaction: the state's own list is empty.
pub record TablesSeen : Type 0 where
  pub state : State
  pub tallies : List Tally

abbrev pub no_tally : Tally
no_tally = record { number = 0; last = None }

abbrev pub tally_of : List Tally → ℕ → Tally
tally_of tallies tx = slice_index_or tallies tx no_tally

abbrev pub counted : Tally → End → Tally
counted t end = record { number = t.number + 1; last = Some end }

-- the tallies with one more ended job
abbrev pub with_ended : List Tally → EndedJob → List Tally
with_ended tallies e = slice_set tallies e.job.tx.0 (counted (tally_of tallies e.job.tx.0) e.end)

abbrev pub tallies_of : Set → List EndedJob → List Tally
tallies_of set ended = fold with_ended (map (λ t. no_tally) set.txns) ended

-- a state without its list of ended jobs
abbrev pub cut : State → State
cut s = record s { ended = [] }

abbrev pub tables_of : Set → State → TablesSeen
tables_of set s = record { state = cut s; tallies = tallies_of set s.ended }
