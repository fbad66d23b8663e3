-- How the tables change where jobs end or are released, and what an operation is refused for before the room is looked at.
use Rattle.std.specs.Prelude.{ℕ, ◌-◌, ◌==◌, nat_lt, not, if◌then◌else◌, List, map, Option, None, Some, slice_set}
use Rattle.std.specs.List.{filter, fold}
use Rattle.std.specs.Option.{option_map}
use Rattle.rt_base.specs.declared.ids.JobId.{JobId}
use Rattle.rt_base.specs.declared.ids.ItemId.{ItemId}
use Rattle.rt_base.specs.declared.operation.Op.{Op}
use Rattle.rt_base.specs.declared.operation.Op.TheVariants.{Read, Write, Commit}
use Rattle.rt_base.specs.declared.operation.End.{End}
use Rattle.rt_base.specs.declared.operation.End.TheVariants as end
use Rattle.rt_base.specs.declared.release.Release.{Release}
use Rattle.item_model.specs.declared.stored.Stored.{Stored}
use Rattle.item_model.specs.Work.{items_after}
use Rattle.txn_set.specs.Set.{Set, txn_of, names_item}
use Rattle.step_journal.specs.State.{Row, pending}
use Rattle.step_journal.specs.LockRule.{in_falling_priority}
use Rattle.step_journal.specs.Instant.{freed, is_due}
use Rattle.board.specs.declared.replies.StepReply.{StepReply}
use Rattle.board.specs.declared.replies.StepReply.TheVariants as reply
use Rattle.board.specs.Answers.{unwritten}
use Rattle.core_tables.specs.Rows.{PendingSeen}
use Rattle.core_tables.specs.declared.tally.Tally.{Tally}
use Rattle.core_tables.specs.Seen.{tallies_after}

-- a job ends
abbrev pub rows_without : List (Option Row) → JobId → List (Option Row)
rows_without rows job = map (option_map (freed job)) (slice_set rows job.tx.0 None)

-- the jobs whose deadline is a tick, in falling priority
abbrev pub late_jobs : Set → ℕ → List (Option Row) → List JobId
late_jobs set tick rows = map (λ r. r.job) (in_falling_priority set (filter (is_due set tick) (pending rows)))

abbrev pub rows_cancelled : Set → ℕ → List (Option Row) → List (Option Row)
rows_cancelled set tick rows = fold rows_without rows (late_jobs set tick rows)

abbrev pub tally_late : List Tally → JobId → List Tally
tally_late tallies job = tallies_after tallies job.tx.0 end.Late

abbrev pub tallies_cancelled : Set → ℕ → List (Option Row) → List Tally → List Tally
tallies_cancelled set tick rows tallies = fold tally_late tallies (late_jobs set tick rows)

-- the jobs planned for a tick, and the releases planned for others
abbrev pub due_jobs : ℕ → List Release → List JobId
due_jobs tick planned = map (λ r. r.job) (filter (λ r. r.tick == tick) planned)

abbrev pub later : ℕ → List Release → List Release
later tick planned = filter (λ r. not (r.tick == tick)) planned

-- the items after a step of this row, where it ends the job or not
abbrev pub items_settled : Set → Row → Option End → List Stored → List Stored
items_settled set row None items = items
items_settled set row (Some e) items = items_after set.items row.work row.release e items

-- why an access is refused, by the declared items and the quiet steps
abbrev pub access_by : List ItemId → ItemId → (quiet used : ℕ) → Option StepReply
access_by declared item quiet used =
    if names_item declared item.0
    then (if nat_lt used quiet then Some (reply.TooEarly (quiet - used)) else None)
    else Some (reply.Undeclared item)

-- why an operation is refused before the room is looked at, if it is: undeclared, too early, unwritten
abbrev pub denied : Set → Row → Op → Option StepReply
denied set row (Read item) = access_by (txn_of set row.job.tx.0).reads item (txn_of set row.job.tx.0).quiet row.used
denied set row (Write item value) = access_by (txn_of set row.job.tx.0).writes item (txn_of set row.job.tx.0).quiet row.used
denied set row Commit = option_map (λ i. reply.Unwritten i) (unwritten set (txn_of set row.job.tx.0).writes row.work)
denied set row other = None

-- the pending rows and the tallies after a step of this row, where it ends the job or not
abbrev pub pending_settled : Row → Option End → PendingSeen → PendingSeen
pending_settled row None p = p
pending_settled row (Some e) p = record p { rows = rows_without p.rows row.job }

abbrev pub tallies_settled : ℕ → Option End → List Tally → List Tally
tallies_settled tx None tallies = tallies
tallies_settled tx (Some e) tallies = tallies_after tallies tx e
