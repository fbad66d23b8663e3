-- The entries in which the locks of a part are looked for.
use Rattle.std.specs.Prelude.{ℕ, nat_lt, if◌then◌else◌, List, Option, None, Some}
use Rattle.step_journal.specs.declared.entry.Entry.{Entry}
use Rattle.step_journal.specs.declared.entry.Entry.TheVariants.{Step}
use Rattle.job_rows.specs.declared.row.JobRow.{JobRow}
use Rattle.schedule_marks.specs.declared.part.Part.{Part}
use Rattle.schedule_marks.specs.Marks.{until_of}

-- a step of a job that ends after the part begins
abbrev pub seen_in : Part → ℕ → List JobRow → Entry → Option Entry
seen_in part stop rows (Step job op outcome over tick) =
    if nat_lt part.from (until_of stop rows job) then Some (Step job op outcome over tick) else None
seen_in part stop rows e = None
