use Rattle.std.proofs.Common.{sym}
use Rattle.line_fields.proofs.CutLaws.{cut_lacks}
use Rattle.journal_text.proofs.next_step.NextStep.first_entry.Goals as goal

pub entry-requires-clause-lacks : goal.entry-requires-clause-lacks
entry-requires-clause-lacks c =
    cut_lacks 10 c.args.text.now c.in_ok-line.line.now c.in_ok-line.more.now (sym c.in_ok-line.ensures)
