use Rattle.report_text.specs.Texts.{job_line}
use Rattle.report_text.proofs.RowLaws.{next_row, all_rows}
use Rattle.report_text.proofs.closing.add_jobs.Goals as goal

pub loop-i-preserved : goal.loop-i-preserved
loop-i-preserved c =
    next_row (job_line c.args.names.now) _ _ _ c.args.rows.now c.loop-i.i _ c.loop-i-test.true c.in_ok-add_job.ensures
    c.loop-i.invariant

pub returns : goal.returns
returns c =
    all_rows (job_line c.args.names.now) _ _ c.args.rows.now c.loop-i.i c.loop-i-test.false c.loop-i.invariant
