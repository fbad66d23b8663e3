use Rattle.std.proofs.Common.{◌∙◌, sym, subst, ap, arith, length}
use Rattle.std.specs.List.{All}
use Rattle.board.proofs.Counts.{items_count}
use Rattle.report_text.specs.Texts.{KnownRow}
use Rattle.run_report.proofs.LegalRows.{legal_rows}
use Rattle.run_report.proofs.whole.report_ends.Goals as goal

pub add_closing-requires-clause-rows : goal.add_closing-requires-clause-rows
add_closing-requires-clause-rows c =
    subst (All (KnownRow c.args.names.now)) (sym (c.as_slice.ensures ∙ c.in_ok-rows.ensures))
    (legal_rows c.args.names.now c.args.set.now c.args.entries.now c.requires.names c.is_compiled.ensures c.requires.legal)

pub add_closing-requires-clause-items : goal.add_closing-requires-clause-items
add_closing-requires-clause-items c =
    omega (arith, ap length c.as_slice-2.ensures, ap length c.requires.last, items_count c.args.set.now c.args.entries.now, c.requires.names.items)

pub add_closing-requires-clause-few : goal.add_closing-requires-clause-few
add_closing-requires-clause-few c =
    omega (arith, ap length c.as_slice-2.ensures, ap length c.requires.last, items_count c.args.set.now c.args.entries.now, c.is_compiled.ensures.few_items)
