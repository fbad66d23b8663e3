use Rattle.run_report.proofs.Writing.{writes_line}
use Rattle.run_report.proofs.writer.ReportWriter.push.Goals as goal

pub write_entry-requires-clause-known : goal.write_entry-requires-clause-known
write_entry-requires-clause-known c = writes_line _ _ _ c.requires.next
