use Rattle.std.proofs.Common.{◌++◌, List, ℕ, sym, ap, ◌∙◌, subst}
use Rattle.job_rows.specs.Upkeep.{RowsSeen, GoOn}
use Rattle.run_report.proofs.Writing.{continues_lines, goes_on, lines_are}
use Rattle.run_report.proofs.writer.ReportWriter.push_all.Goals as goal

pub push_all-requires : goal.push_all-requires
push_all-requires c = subst (λ (r : RowsSeen). GoOn r c.args.entries.now) (sym c.self.view_is) (goes_on _ _ _ c.requires.next)

pub write_entries-requires-clause-known : goal.write_entries-requires-clause-known
write_entries-requires-clause-known c = continues_lines _ _ _ c.requires.next

pub returns-clause-text : goal.returns-clause-text
returns-clause-text c = c.write_entries.ensures.items ∙ ap (λ (t : List ℕ). c.args.into.now.items ++ t) (lines_are c.args.names.now c.args.entries.now)
