use Rattle.report_text.proofs.RowLaws.{next_row}
use Rattle.txn_priorities.specs.declared.refusal.Unplaced.{Unplaced}
use Rattle.tool_command.specs.Priorities.{unplaced_line}
use Rattle.tool_command.proofs.priority_lines.put_unplaced.Goals as goal

abbrev filler : Unplaced
filler = record { tx = record { 0 = 0 }; limit = 0; demand = 0 }

pub loop-place-preserved : goal.loop-place-preserved
loop-place-preserved c =
    next_row (λ place. unplaced_line c.args.names.now) _ _ _ c.args.rows.now c.loop-place.place filler c.loop-place-test.true c.in_ok-put_unplaced_row.ensures
    c.loop-place.invariant
