use Rattle.std.proofs.Common.{ℕ, List, ap, ◌∙◌, codes, ◌++◌, ◌≡◌}
use Rattle.item_model.specs.declared.stored.Stored.{Stored}
use Rattle.job_rows.specs.declared.row.JobRow.{JobRow}
use Rattle.picture_text.proofs.Sums.{back}
use Rattle.picture_command.specs.Page.{figure, page_head}
use Rattle.picture_command.specs.Tables.{item_table, txn_table}
use Rattle.picture_command.proofs.whole.add_page.Goals as goal

pub returns : goal.returns
returns c =
    let step_1 : c.add_head.new.into.items ≡ c.args.into.now.items ++ (page_head c.args.view.part) = c.in_ok-add_head.ensures in
    let step_2 : c.add_txns.new.into.items ≡ c.add_head.new.into.items ++ (txn_table c.args.names.now c.args.set.now c.args.limits.now.responses c.args.contents.now.rows) =
    c.in_ok-add_txns.ensures ∙ (ap (λ (r : List ℕ). c.add_head.new.into.items ++ txn_table c.args.names.now c.args.set.now r c.as_slice.result.now) c.as_slice-responses.ensures ∙ ap (λ (r : List JobRow). c.add_head.new.into.items ++ txn_table c.args.names.now c.args.set.now c.args.limits.now.responses r) c.as_slice.ensures) in
    let step_3 : c.add_figure.new.into.items ≡ c.add_txns.new.into.items ++ (figure c.args.names.now c.args.set.now c.args.view c.args.limits.now.ages c.args.contents.now.shown) =
    c.in_ok-add_figure.ensures ∙ ap (λ (r : List ℕ). c.add_txns.new.into.items ++ figure c.args.names.now c.args.set.now c.args.view r c.args.contents.now.shown) c.as_slice-ages.ensures in
    let step_4 : c.add_items.new.into.items ≡ c.add_figure.new.into.items ++ (item_table c.args.names.now c.args.set.now c.args.limits.now.ages c.args.contents.now.items) =
    c.in_ok-add_items.ensures ∙ (ap (λ (r : List ℕ). c.add_figure.new.into.items ++ item_table c.args.names.now c.args.set.now r c.as_slice-2.result.now) c.as_slice-ages.ensures ∙ ap (λ (r : List Stored). c.add_figure.new.into.items ++ item_table c.args.names.now c.args.set.now c.args.limits.now.ages r) c.as_slice-2.ensures) in
    let step_5 : c.add.new.into.items ≡ c.add_items.new.into.items ++ (codes "</body>\n</html>\n") = c.in_ok-add.ensures in
    let from_4 : c.add.new.into.items ≡ c.add_figure.new.into.items ++ ((item_table c.args.names.now c.args.set.now c.args.limits.now.ages c.args.contents.now.items) ++ (codes "</body>\n</html>\n")) =
    back c.add.new.into.items c.add_items.new.into.items c.add_figure.new.into.items (item_table c.args.names.now c.args.set.now c.args.limits.now.ages c.args.contents.now.items) (codes "</body>\n</html>\n") step_5 step_4 in
    let from_3 : c.add.new.into.items ≡ c.add_txns.new.into.items ++ ((figure c.args.names.now c.args.set.now c.args.view c.args.limits.now.ages c.args.contents.now.shown) ++ ((item_table c.args.names.now c.args.set.now c.args.limits.now.ages c.args.contents.now.items) ++ (codes "</body>\n</html>\n"))) =
    back c.add.new.into.items c.add_figure.new.into.items c.add_txns.new.into.items (figure c.args.names.now c.args.set.now c.args.view c.args.limits.now.ages c.args.contents.now.shown) ((item_table c.args.names.now c.args.set.now c.args.limits.now.ages c.args.contents.now.items) ++ (codes "</body>\n</html>\n")) from_4 step_3 in
    let from_2 : c.add.new.into.items ≡ c.add_head.new.into.items ++ ((txn_table c.args.names.now c.args.set.now c.args.limits.now.responses c.args.contents.now.rows) ++ ((figure c.args.names.now c.args.set.now c.args.view c.args.limits.now.ages c.args.contents.now.shown) ++ ((item_table c.args.names.now c.args.set.now c.args.limits.now.ages c.args.contents.now.items) ++ (codes "</body>\n</html>\n")))) =
    back c.add.new.into.items c.add_txns.new.into.items c.add_head.new.into.items (txn_table c.args.names.now c.args.set.now c.args.limits.now.responses c.args.contents.now.rows) ((figure c.args.names.now c.args.set.now c.args.view c.args.limits.now.ages c.args.contents.now.shown) ++ ((item_table c.args.names.now c.args.set.now c.args.limits.now.ages c.args.contents.now.items) ++ (codes "</body>\n</html>\n"))) from_3 step_2 in
    let from_1 : c.add.new.into.items ≡ c.args.into.now.items ++ ((page_head c.args.view.part) ++ ((txn_table c.args.names.now c.args.set.now c.args.limits.now.responses c.args.contents.now.rows) ++ ((figure c.args.names.now c.args.set.now c.args.view c.args.limits.now.ages c.args.contents.now.shown) ++ ((item_table c.args.names.now c.args.set.now c.args.limits.now.ages c.args.contents.now.items) ++ (codes "</body>\n</html>\n"))))) =
    back c.add.new.into.items c.add_head.new.into.items c.args.into.now.items (page_head c.args.view.part) ((txn_table c.args.names.now c.args.set.now c.args.limits.now.responses c.args.contents.now.rows) ++ ((figure c.args.names.now c.args.set.now c.args.view c.args.limits.now.ages c.args.contents.now.shown) ++ ((item_table c.args.names.now c.args.set.now c.args.limits.now.ages c.args.contents.now.items) ++ (codes "</body>\n</html>\n")))) from_2 step_1 in
    from_1
