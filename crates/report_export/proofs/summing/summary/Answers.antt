use Rattle.std.proofs.Common.{◌∙◌, sym, subst, rules}
use Rattle.std.specs.List.{All}
use Rattle.report_text.specs.Texts.{KnownRow}
use Rattle.report_export.proofs.Chains.{begun}
use Rattle.report_export.proofs.summing.summary.Goals as goal

pub add_txns-requires-clause-rows : goal.add_txns-requires-clause-rows
add_txns-requires-clause-rows c =
    subst (All (KnownRow c.args.names.now)) (sym (c.as_slice.ensures ∙ c.in_ok-rows.ensures))
    (c.legal_has_rows.ensures c.args.names.now c.args.set.now c.args.entries.now c.requires.names c.is_compiled.ensures c.requires.legal)

pub add_items-requires-clause-rows : goal.add_items-requires-clause-rows
add_items-requires-clause-rows c =
    subst (All (KnownRow c.args.names.now)) (sym (c.as_slice-2.ensures ∙ c.in_ok-rows.ensures))
    (c.legal_has_rows.ensures c.args.names.now c.args.set.now c.args.entries.now c.requires.names c.is_compiled.ensures c.requires.legal)

pub returns : goal.returns
returns c =
    let txns = rw (c.new-text.ensures.items, c.as_slice.ensures ∙ c.in_ok-rows.ensures) at c.in_ok-add_txns.ensures in
    let items = rw (c.as_slice-2.ensures ∙ c.in_ok-rows.ensures) at c.in_ok-add_items.ensures in
    search (rules, begun, txns, items)
