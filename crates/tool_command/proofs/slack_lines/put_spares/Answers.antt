use Rattle.std.proofs.Common.{Option, ◌++◌, ap, ◌∙◌}
use Rattle.item_model.specs.declared.decl.ItemDecl.{ItemDecl}
use Rattle.report_text.proofs.RowLaws.{next_row, no_item}
use Rattle.scale_margin.specs.declared.limits.Spare.{Spare}
use Rattle.scale_margin.specs.Spares.{spare_of}
use Rattle.tool_command.specs.Slacks.{spare_line}
use Rattle.tool_command.proofs.slack_lines.put_spares.Goals as goal

pub loop-place-preserved : goal.loop-place-preserved
loop-place-preserved c =
    next_row (λ i (d : ItemDecl). spare_line c.args.names.now i (spare_of c.args.set.now i)) _ _ _ c.args.set.now.items c.loop-place.place no_item
    (rw (c.items-place-end.ensures, c.set.ensures) at c.loop-place-test.true)
    (c.in_ok-put_spare.ensures ∙ ap (λ (o : Option Spare). c.loop-place.out.items ++ spare_line c.args.names.now c.loop-place.place o) c.spare.ensures)
    c.loop-place.invariant
