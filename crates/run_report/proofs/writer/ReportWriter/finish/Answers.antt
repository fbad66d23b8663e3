use Rattle.std.proofs.Common.{◌∙◌, sym, subst, ap, arith, length}
use Rattle.std.specs.List.{All}
use Rattle.job_rows.specs.Upkeep.{RowsSeen, Follows}
use Rattle.report_text.specs.Texts.{KnownRow}
use Rattle.run_report.proofs.Writing.{closes_rows, closes_few, closes_each}
use Rattle.run_report.proofs.writer.ReportWriter.finish.Goals as goal

pub add_closing-requires-clause-rows : goal.add_closing-requires-clause-rows
add_closing-requires-clause-rows c =
    subst (All (KnownRow c.args.names.now))
    (sym (c.as_slice.ensures
    ∙ c.into_rows-rows.ensures c.requires.set c.requires.history
    (subst (λ (r : RowsSeen). Follows c.requires.set r c.requires.history) (sym c.self.view_is) c.requires.follows)))
    (closes_rows _ _ _ c.requires)

pub add_closing-requires-clause-items : goal.add_closing-requires-clause-items
add_closing-requires-clause-items c = omega (arith, ap length c.as_slice-2.ensures, closes_each _ _ _ c.requires)

pub add_closing-requires-clause-few : goal.add_closing-requires-clause-few
add_closing-requires-clause-few c = omega (arith, ap length c.as_slice-2.ensures, closes_few _ _ _ c.requires)
