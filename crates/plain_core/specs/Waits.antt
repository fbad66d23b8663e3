-- A job that is refused waits.
use Rattle.std.specs.Prelude.{Option, None, Some, slice_set}
use Rattle.rt_base.specs.declared.ids.JobId.{JobId}
use Rattle.step_journal.specs.State.{Row, row_of}
use Rattle.plain_core.specs.TablesSeen.{TablesSeen}

abbrev pub waiting : JobId → Option Row → Option Row
waiting by None = None
waiting by (Some row) = Some (record row { waits_on = Some by })

abbrev pub waited : TablesSeen → JobId → JobId → TablesSeen
waited t job by = record t { state = record t.state { rows = slice_set t.state.rows job.tx.0 (waiting by (row_of t.state.rows job.tx.0)) } }
