use Rattle.std.proofs.Common.{ℕ, List, ◌++◌, ◌∙◌, ap, sym, subst}
use Rattle.std.specs.List.{All}
use Rattle.report_text.specs.Texts.{KnownRow}
use Rattle.report_export.specs.Table.{table_with}
use Rattle.report_export.proofs.whole.table.Goals as goal

pub add_table-requires : goal.add_table-requires
add_table-requires c =
    subst (All (KnownRow c.args.names.now)) (sym (c.as_slice.ensures ∙ c.in_ok-rows.ensures))
    (c.legal_has_rows.ensures c.args.names.now c.args.set.now c.args.entries.now c.requires.names c.is_compiled.ensures c.requires.legal)

pub returns : goal.returns
returns c =
    c.in_ok-add_table.ensures
    ∙ (ap (λ (t : List ℕ). t ++ table_with c.args.names.now c.as_slice.result.now) c.new-text.ensures.items
    ∙ ap (table_with c.args.names.now) (c.as_slice.ensures ∙ c.in_ok-rows.ensures))
