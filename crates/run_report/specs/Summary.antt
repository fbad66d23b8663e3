-- The summary of a history.
use Rattle.std.specs.Prelude.{ℕ, Bool, true, false, List, map, length, codes, decimal}
use Rattle.std.specs.List.{count_by}
use Rattle.rt_base.specs.declared.operation.End.{End}
use Rattle.rt_base.specs.declared.operation.End.TheVariants as end
use Rattle.txn_set.specs.Set.{Set}
use Rattle.txn_set.specs.Ceilings.{greatest}
use Rattle.step_journal.specs.declared.entry.Entry.{Entry}
use Rattle.step_journal.specs.declared.entry.Entry.TheVariants.{Step, Blocked, Idle}
use Rattle.step_journal.specs.declared.entry.EndedJob.{EndedJob}
use Rattle.step_journal.specs.History.{state_of}
use Rattle.line_fields.specs.Cuts.{field}
use Rattle.job_rows.specs.Rows.{job_rows}
use Rattle.job_rows.specs.Upkeep.{is_plan}
use Rattle.journal_text.specs.Lines.{◌⊕◌}
use Rattle.report_text.specs.Texts.{line_end}

-- by the end: committed, overrun, late, with values that are stale or apart, or quit
abbrev pub by_end : {A : Type 0} → A → A → A → A → A → End → A
by_end committed overrun late stale quit end.Committed = committed
by_end committed overrun late stale quit end.Overrun = overrun
by_end committed overrun late stale quit end.Late = late
by_end committed overrun late stale quit end.Quit = quit
by_end committed overrun late stale quit other = stale

abbrev pub is_committed : End → Bool
is_committed e = by_end true false false false false e

abbrev pub is_overrun : End → Bool
is_overrun e = by_end false true false false false e

abbrev pub is_late : End → Bool
is_late e = by_end false false true false false e

abbrev pub is_stale : End → Bool
is_stale e = by_end false false false true false e

abbrev pub is_quit : End → Bool
is_quit e = by_end false false false false true e

abbrev pub is_step : Entry → Bool
is_step (Step job op outcome over tick) = true
is_step other = false

abbrev pub is_block : Entry → Bool
is_block (Blocked job op by ceiling tick) = true
is_block other = false

abbrev pub is_idle : Entry → Bool
is_idle (Idle from to) = true
is_idle other = false

-- how many jobs ended so
abbrev pub ended_by : (End → Bool) → List EndedJob → ℕ
ended_by test ended = count_by (λ e. test e.end) ended

-- a word and a number
abbrev pub counted : List ℕ → ℕ → List ℕ
counted word n = field word ⊕ field (decimal n)

-- the ended jobs, in all and by end
abbrev pub jobs_line : ℕ → ℕ → ℕ → ℕ → ℕ → ℕ → List ℕ
jobs_line all committed overrun late stale quit =
    codes "jobs" ⊕ field (decimal all) ⊕ counted (codes "committed") committed ⊕ counted (codes "overrun") overrun
    ⊕ counted (codes "late") late ⊕ counted (codes "stale") stale ⊕ counted (codes "quit") quit ⊕ line_end

-- the entries, in all and by kind
abbrev pub entries_line : ℕ → ℕ → ℕ → ℕ → ℕ → List ℕ
entries_line all plans steps blocks idles =
    codes "entries" ⊕ field (decimal all) ⊕ counted (codes "plans") plans ⊕ counted (codes "steps") steps
    ⊕ counted (codes "blocks") blocks ⊕ counted (codes "idles") idles ⊕ line_end

-- the last instant and the greatest delay of a job
abbrev pub last_line : ℕ → ℕ → List ℕ
last_line now delay = codes "now" ⊕ field (decimal now) ⊕ counted (codes "longest-delay") delay ⊕ line_end

abbrev pub jobs_counted : List EndedJob → List ℕ
jobs_counted ended =
    jobs_line (length ended) (ended_by is_committed ended) (ended_by is_overrun ended) (ended_by is_late ended)
    (ended_by is_stale ended) (ended_by is_quit ended)

abbrev pub entries_counted : List Entry → List ℕ
entries_counted entries =
    entries_line (length entries) (count_by is_plan entries) (count_by is_step entries) (count_by is_block entries)
    (count_by is_idle entries)

abbrev pub summary_of : Set → List Entry → List ℕ
summary_of set entries =
    jobs_counted (state_of set entries).ended ⊕ entries_counted entries
    ⊕ last_line (state_of set entries).now (greatest (map (λ row. row.delay) (job_rows set entries)))
