use Rattle.std.proofs.Common.{◌≡◌, ◌++◌, drop}
use Rattle.report_text.specs.Rows.{numbered}
use Rattle.report_export.specs.Json.{job_json}
use Rattle.report_export.proofs.jobs.add_jobs.Given as goal

abbrev pub invariant-loop-row : goal.invariant-loop-row
invariant-loop-row l =
    l.into.items ++ numbered (job_json l.names) l.row-index (drop l.row-index l.rows)
    ≡ l.fn.into.items ++ numbered (job_json l.names) 0 l.rows
