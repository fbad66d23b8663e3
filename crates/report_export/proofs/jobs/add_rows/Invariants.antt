use Rattle.std.proofs.Common.{◌≡◌, ◌++◌, drop}
use Rattle.report_text.specs.Rows.{numbered}
use Rattle.report_export.specs.Table.{job_cells}
use Rattle.report_export.proofs.jobs.add_rows.Given as goal

abbrev pub invariant-loop-row : goal.invariant-loop-row
invariant-loop-row l =
    l.into.items ++ numbered (job_cells l.names) l.row-index (drop l.row-index l.rows)
    ≡ l.fn.into.items ++ numbered (job_cells l.names) 0 l.rows
