use Rattle.std.proofs.Common.{ℕ, ◌+◌, ◌-◌, ◌<◌, ◌^◌, List, length, drop, get_or, None, sym, subst, ◌∙◌, arith, length-drop}
use Rattle.std.proofs.lemmas.List.Elements.{All-drop}
use Rattle.job_rows.specs.declared.row.JobRow.{JobRow}
use Rattle.report_export.specs.declared.tally.Tally.{Tally}
use Rattle.report_export.specs.Tallies.{tally_at, FewJobs}
use Rattle.report_export.proofs.Tallying.{few_jobs}
use Rattle.report_export.proofs.tally.tallies.Goals as goal

abbrev no_row : JobRow
no_row = record { job = record { tx = record { 0 = 0 }; serial = 0 }; release = 0; end = None; delayed_by = None; delay = 0 }

pub count_job-requires-clause-few : goal.count_job-requires-clause-few
count_job-requires-clause-few c =
    let rows : List JobRow = c.args.rows.now in
    let i : ℕ = c.loop-i.i in
    let row : JobRow = get_or rows (i - 1) no_row in
    let n : ℕ = c.args.txns in
    let lt : row.job.tx.0 < n = c.requires (i - 1) no_row (omega arith) in
    let short : length (drop i rows) + 1 < 2 ^ 64 = omega (arith, length-drop i rows) in
    subst (λ (ts : List Tally). FewJobs (tally_at ts row.job.tx.0)) (sym (c.as_mut_slice.ensures.value ∙ c.loop-i.invariant))
    (few_jobs n (drop i rows) row.job.tx.0 lt (All-drop (λ (r : JobRow). r.job.tx.0 < n) i rows c.requires) short)
