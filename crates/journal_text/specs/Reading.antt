-- The entry of a line.
use Rattle.std.specs.Prelude.{ℕ, List, [], ◌∷◌, codes, Option, Some, None, option_map, if◌then◌else◌}
use Rattle.std.specs.Str.{bytes_eq}
use Rattle.rt_base.specs.declared.name.Names.{Names}
use Rattle.rt_base.specs.declared.operation.Op.{Op}
use Rattle.rt_base.specs.declared.operation.Op.TheVariants.{Read, Write, Compute, Commit, Quit}
use Rattle.rt_base.specs.declared.operation.Outcome.{Outcome}
use Rattle.rt_base.specs.declared.operation.Outcome.TheVariants.{Got, Put, Computed, Closed}
use Rattle.rt_base.specs.declared.operation.End.{End}
use Rattle.rt_base.specs.declared.operation.End.TheVariants as end
use Rattle.step_journal.specs.declared.entry.Entry.{Entry}
use Rattle.step_journal.specs.declared.entry.Entry.TheVariants.{Planned, Step, Blocked, Idle}
use Rattle.line_fields.specs.Cuts.{◌>>=◌, word_of, field_of, next, word_is, done_of}
use Rattle.line_fields.specs.Numbers.{unsigned_of, short_of, signed_of}
use Rattle.journal_text.specs.Ids.{tx_of, item_of, job_of}

-- ---- operations, after their first word

unfoldable pub read_of : Names → List ℕ → Option (Op × List ℕ)
read_of names bs = do
  item ← next (item_of names.items) bs
  Some (Read item.0, item.1)

unfoldable pub write_of : Names → List ℕ → Option (Op × List ℕ)
write_of names bs = do
  item ← next (item_of names.items) bs
  value ← next signed_of item.1
  Some (Write item.0 value.0, value.1)

unfoldable pub op_form : Names → List ℕ → List ℕ → Option (Op × List ℕ)
op_form names w bs =
    if bytes_eq w (codes "read") then read_of names bs else (
    if bytes_eq w (codes "write") then write_of names bs else (
    if bytes_eq w (codes "compute") then Some (Compute, bs) else (
    if bytes_eq w (codes "commit") then Some (Commit, bs) else (
    if bytes_eq w (codes "quit") then Some (Quit, bs) else None))))

unfoldable pub op_of : Names → List ℕ → Option (Op × List ℕ)
op_of names bs = do
  w ← field_of bs
  op_form names w.0 w.1

-- ---- outcomes

unfoldable pub stamp_of : List ℕ → Option (Option ℕ)
stamp_of w = if bytes_eq w (codes "own") then Some None else option_map (λ n. Some n) (unsigned_of w)

unfoldable pub got_of : List ℕ → Option (Outcome × List ℕ)
got_of bs = do
  value ← next signed_of bs
  stamp ← next stamp_of value.1
  Some (Got value.0 stamp.0, stamp.1)

unfoldable pub outcome_of : Op → List ℕ → Option (Outcome × List ℕ)
outcome_of (Read item) bs = got_of bs
outcome_of (Write item value) bs = Some (Put, bs)
outcome_of Compute bs = Some (Computed, bs)
outcome_of other bs = Some (Closed, bs)

-- ---- ends

unfoldable pub stale_of : Names → List ℕ → Option (End × List ℕ)
stale_of names bs = do
  item ← next (item_of names.items) bs
  stamp ← next unsigned_of item.1
  Some (end.Stale item.0 stamp.0, stamp.1)

unfoldable pub apart_of : Names → List ℕ → Option (End × List ℕ)
apart_of names bs = do
  a ← next (item_of names.items) bs
  b ← next (item_of names.items) a.1
  Some (end.Apart a.0 b.0, b.1)

unfoldable pub end_form : Names → List ℕ → List ℕ → Option (End × List ℕ)
end_form names w bs =
    if bytes_eq w (codes "committed") then Some (end.Committed, bs) else (
    if bytes_eq w (codes "overrun") then Some (end.Overrun, bs) else (
    if bytes_eq w (codes "late") then Some (end.Late, bs) else (
    if bytes_eq w (codes "stale") then stale_of names bs else (
    if bytes_eq w (codes "apart") then apart_of names bs else (
    if bytes_eq w (codes "quit") then Some (end.Quit, bs) else None)))))

unfoldable pub end_of : Names → List ℕ → Option (End × List ℕ)
end_of names bs = do
  w ← field_of bs
  end_form names w.0 w.1

unfoldable pub over_of : Names → List ℕ → Option (Option End)
over_of names [] = Some None
over_of names (b ∷ bs) = do
  w ← next (word_is (codes "end")) (b ∷ bs)
  e ← end_of names w.1
  over ← done_of e.1
  Some (Some e.0)

-- ---- entries, after their first word

unfoldable pub plan_of : Names → List ℕ → Option Entry
plan_of names bs = do
  tx ← next (tx_of names.txns) bs
  tick ← next unsigned_of tx.1
  over ← done_of tick.1
  Some (Planned tx.0 tick.0)

-- an operation and its outcome
abbrev pub answers_of : Option (Op × List ℕ) → Option ((Op × Outcome) × List ℕ)
answers_of o = do
  op ← o
  outcome ← outcome_of op.0 op.1
  Some ((op.0, outcome.0), outcome.1)

unfoldable pub step_of : Names → List ℕ → Option Entry
step_of names bs = do
  job ← next (job_of names.txns) bs
  tick ← next unsigned_of job.1
  answer ← answers_of (op_of names tick.1)
  over ← over_of names answer.1
  Some (Step job.0 answer.0.0 answer.0.1 over tick.0)

unfoldable pub block_of : Names → List ℕ → Option Entry
block_of names bs = do
  job ← next (job_of names.txns) bs
  tick ← next unsigned_of job.1
  op ← op_of names tick.1
  w ← next (word_is (codes "by")) op.1
  by ← next (job_of names.txns) w.1
  ceiling ← next short_of by.1
  over ← done_of ceiling.1
  Some (Blocked job.0 op.0 by.0 ceiling.0 tick.0)

unfoldable pub idle_of : List ℕ → Option Entry
idle_of bs = do
  from ← next unsigned_of bs
  to ← next unsigned_of from.1
  over ← done_of to.1
  Some (Idle from.0 to.0)

unfoldable pub form_of : Names → List ℕ → List ℕ → Option Entry
form_of names w bs =
    if bytes_eq w (codes "plan") then plan_of names bs else (
    if bytes_eq w (codes "step") then step_of names bs else (
    if bytes_eq w (codes "block") then block_of names bs else (
    if bytes_eq w (codes "idle") then idle_of bs else None)))

abbrev pub entry_of : Names → List ℕ → Option Entry
entry_of names line = form_of names (word_of line).0 (word_of line).1
