use Rattle.std.proofs.Common.{◌∙◌, ap, refl, subst, List, map, arith}
use Rattle.std.specs.List.{count_by}
use Rattle.std.proofs.lemmas.List.Sums.{length-filter}
use Rattle.job_rows.specs.Upkeep.{is_plan}
use Rattle.txn_set.specs.Ceilings.{greatest}
use Rattle.job_rows.specs.declared.row.JobRow.{JobRow}
use Rattle.run_report.specs.Counts.{row_is, AreEnds}
use Rattle.run_report.proofs.Summed.{summed}
use Rattle.run_report.proofs.summing.summary.Goals as goal

pub rows_of_jobs-requires-clause-jobs : goal.rows_of_jobs-requires-clause-jobs
rows_of_jobs-requires-clause-jobs c = omega (arith, length-filter is_plan c.args.entries.now, c.count_kinds-kinds.ensures.plans)

pub returns : goal.returns
returns c =
    summed c.args.set.now c.args.entries.now c.in_ok-rows.rows c.count_ends.result _ c.count_kinds-kinds.result c.last_instant.result c.longest_delay.result
    c.new-text.result.items c.add_ends.new.into.items c.add_kinds.new.into.items c.add_last.new.into.items
    c.new-text.ensures.items c.in_ok-rows.ensures
    (subst (λ (l : List JobRow). AreEnds c.count_ends.result (λ test. count_by (row_is test) l)) c.as_slice.ensures c.count_ends.ensures)
    refl c.count_kinds-kinds.ensures c.last_instant.ensures
    (c.longest_delay.ensures ∙ ap (λ (l : List JobRow). greatest (map (λ row. row.delay) l)) c.as_slice-2.ensures)
    c.in_ok-add_ends.ensures c.in_ok-add_kinds.ensures c.in_ok-add_last.ensures
