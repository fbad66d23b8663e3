-- A report of which nothing is written yet.
use Rattle.std.specs.Prelude.{◌≡◌, ℕ, ◌≤◌, [], vec_capacity}
use Rattle.txn_set.specs.Set.{Set}
use Rattle.job_rows.specs.Upkeep.{Follows}
use Rattle.report_text.specs.Texts.{NamesSet}
use Rattle.run_report.specs.Report.{opening_text}
use Rattle.scenario_run.specs.declared.report.Report.{Report}

-- The report of a set: it names the set's items and transactions, has the rows of no job yet, and its head declares the set,
-- as admitted or as a trial. There is a place for a line.
pub record IsOpened (set : Set) (r : Report) : Type 0 where
  pub one_each : NamesSet r.names.now set
  pub rows : Follows set r.writer []
  pub head_is : r.head.items ≡ opening_text r.names.now set r.admitted
  pub empty : r.lines.items ≡ []
  pub enough : 256 ≤ vec_capacity r.lines
