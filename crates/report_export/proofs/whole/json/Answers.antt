use Rattle.std.proofs.Common.{◌∙◌, sym, subst, ap, arith, length, rules}
use Rattle.std.specs.List.{All}
use Rattle.board.proofs.Counts.{items_count}
use Rattle.report_text.specs.Texts.{KnownRow}
use Rattle.report_export.proofs.Chains.{joined, begun}
use Rattle.report_export.proofs.whole.json.Goals as goal

pub add_entries-requires : goal.add_entries-requires
add_entries-requires c =
    c.legal_has_lines.ensures c.args.names.now c.args.set.now c.args.entries.now c.requires.names c.is_compiled.ensures c.requires.legal

pub add_closing-requires-clause-rows : goal.add_closing-requires-clause-rows
add_closing-requires-clause-rows c =
    subst (All (KnownRow c.args.names.now)) (sym (c.as_slice.ensures ∙ c.in_ok-rows.ensures))
    (c.legal_has_rows.ensures c.args.names.now c.args.set.now c.args.entries.now c.requires.names c.is_compiled.ensures c.requires.legal)

pub add_closing-requires-clause-items : goal.add_closing-requires-clause-items
add_closing-requires-clause-items c =
    omega (arith, ap length c.as_slice-2.ensures, ap length c.requires.last, items_count c.args.set.now c.args.entries.now, c.requires.names.items)

pub add_closing-requires-clause-few : goal.add_closing-requires-clause-few
add_closing-requires-clause-few c =
    omega (arith, ap length c.as_slice-2.ensures, ap length c.requires.last, items_count c.args.set.now c.args.entries.now, c.is_compiled.ensures.few_items)

pub returns : goal.returns
returns c =
    let opening = rw c.new-text.ensures.items at c.in_ok-add_opening.ensures in
    let closing = rw (c.as_slice.ensures ∙ c.in_ok-rows.ensures, c.as_slice-2.ensures ∙ c.requires.last) at c.in_ok-add_closing.ensures in
    search (rules, joined, begun, opening, c.in_ok-add_entries.ensures, closing)
