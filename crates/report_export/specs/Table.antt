-- The jobs of a report as a table (CSV, RFC 4180, with a line feed after each row). No value needs quotes: names and words have
-- no comma, quote or line end. What a report writes as `-` is empty.
use Rattle.std.specs.Prelude.{ℕ, ◌-◌, List, codes, decimal, Option, Some, None}
use Rattle.rt_base.specs.declared.name.Names.{Names}
use Rattle.rt_base.specs.declared.ids.JobId.{JobId}
use Rattle.rt_base.specs.declared.operation.End.{End}
use Rattle.journal_text.specs.Ids.{name_at, job_text}
use Rattle.journal_text.specs.Lines.{◌⊕◌}
use Rattle.job_rows.specs.declared.row.JobRow.{JobRow}
use Rattle.report_text.specs.Rows.{numbered}
use Rattle.report_export.specs.Json.{counted, end_words}

abbrev pub header : List ℕ
header = codes "txn,serial,release,tick,end,response,by,delay\n"

-- the tick, the end and the response
abbrev pub close_cells : Names → ℕ → Option (End × ℕ) → List ℕ
close_cells names release None = codes ",,pending,"
close_cells names release (Some e) =
    counted (codes ",") e.1 ⊕ codes "," ⊕ end_words names e.0 ⊕ counted (codes ",") (e.1 - release)

abbrev pub by_cell : Names → Option JobId → List ℕ
by_cell names None = codes ","
by_cell names (Some job) = codes "," ⊕ job_text names.txns job

-- each cell but the first with the comma before it
abbrev pub job_cells : Names → ℕ → JobRow → List ℕ
job_cells names place row =
    name_at names.txns row.job.tx.0 ⊕ codes "," ⊕ decimal row.job.serial ⊕ counted (codes ",") row.release
    ⊕ close_cells names row.release row.end ⊕ by_cell names row.delayed_by ⊕ counted (codes ",") row.delay ⊕ codes "\n"

-- a row for each job, in the order of the rows
abbrev pub table_with : Names → List JobRow → List ℕ
table_with names rows = header ⊕ numbered (job_cells names) 0 rows
