-- The effect of a granted step on the tables: the row goes on, or its job ends with its writes installed or not.
use Rattle.std.specs.Prelude.{ℕ, ◌+◌, ◌<◌, ◌==◌, if◌then◌else◌, List, Option, None, Some, slice_set}
use Rattle.rt_base.specs.declared.ids.JobId.{JobId}
use Rattle.rt_base.specs.declared.ids.TogetherDecl.{TogetherDecl}
use Rattle.rt_base.specs.declared.operation.Op.{Op}
use Rattle.rt_base.specs.declared.operation.Op.TheVariants.{Read, Write, Compute, Commit, Quit}
use Rattle.rt_base.specs.declared.operation.End.{End}
use Rattle.rt_base.specs.declared.operation.End.TheVariants as end
use Rattle.item_model.specs.declared.decl.ItemDecl.{ItemDecl}
use Rattle.item_model.specs.declared.stored.Stored.{Stored}
use Rattle.item_model.specs.Work.{Work, work_after, verdict, items_after}
use Rattle.txn_set.specs.declared.decl.TxnDecl.{TxnDecl}
use Rattle.step_journal.specs.State.{Row, row_of}
use Rattle.plain_core.specs.Places.{most_items}
use Rattle.plain_core.specs.TablesSeen.{TablesSeen}
use Rattle.plain_core.specs.Arrivals.{ended_tables}

-- the item of an operation, if it has one, is an item of a set
abbrev pub IsLow : Op → Type 0
IsLow (Read item) = item.0 < most_items
IsLow (Write item value) = item.0 < most_items
IsLow Compute = Unit {0}
IsLow Commit = Unit {0}
IsLow Quit = Unit {0}

-- how the step ends a job that has used so many steps with it, if it does
abbrev pub overrun_at : TxnDecl → ℕ → Option End
overrun_at txn used = if used == txn.steps then Some end.Overrun else None

abbrev pub end_here : List ItemDecl → List TogetherDecl → TxnDecl → Work → (used tick : ℕ) → Op → Option End
end_here decls together txn work used tick Commit = Some (verdict decls together txn.reads work tick)
end_here decls together txn work used tick Quit = Some end.Quit
end_here decls together txn work used tick other = overrun_at txn used

-- a row after a step
abbrev pub stepped : List Stored → Op → Option Row → Option Row
stepped items op None = None
stepped items op (Some row) = Some (record row { used = row.used + 1; work = work_after items row.work op })

abbrev pub stepped_tables : TablesSeen → JobId → Op → TablesSeen
stepped_tables t job op =
    record t { state = record t.state { rows = slice_set t.state.rows job.tx.0 (stepped t.state.items op (row_of t.state.rows job.tx.0)) } }

-- the items after the job of a row ended so
abbrev pub installed : List ItemDecl → End → Option Row → List Stored → List Stored
installed decls e None items = items
installed decls e (Some row) items = items_after decls row.work row.release e items

abbrev pub settled_by : List ItemDecl → TablesSeen → JobId → Option End → TablesSeen
settled_by decls t job None = t
settled_by decls t job (Some e) =
    ended_tables (record t { state = record t.state { items = installed decls e (row_of t.state.rows job.tx.0) t.state.items } }) job e
