use Rattle.std.proofs.Common.{codes, rules, ◌++◌, ◌≡◌}
use Rattle.item_model.specs.Work.{stored_of}
use Rattle.picture_text.proofs.Sums.{back}
use Rattle.picture_command.specs.Tables.{item_cells, value_cells}
use Rattle.picture_command.proofs.items.add_line.Goals as goal

pub returns : goal.returns
returns c =
    let step_1 : c.add.new.into.items ≡ c.args.into.now.items ++ (codes "<tr>") = c.in_ok-add.ensures in
    let step_2 : c.add_item.new.into.items ≡ c.add.new.into.items ++ (item_cells c.args.names.now c.args.set.now c.args.ages.now c.args.item.0) = c.in_ok-add_item.ensures in
    let step_3 : c.add_value.new.into.items ≡ c.add_item.new.into.items ++ (value_cells (stored_of c.args.items.now c.args.item.0)) = search rules in
    let step_4 : c.add-2.new.into.items ≡ c.add_value.new.into.items ++ (codes "</tr>\n") = c.in_ok-add-2.ensures in
    let from_3 : c.add-2.new.into.items ≡ c.add_item.new.into.items ++ ((value_cells (stored_of c.args.items.now c.args.item.0)) ++ (codes "</tr>\n")) =
    back c.add-2.new.into.items c.add_value.new.into.items c.add_item.new.into.items (value_cells (stored_of c.args.items.now c.args.item.0)) (codes "</tr>\n") step_4 step_3 in
    let from_2 : c.add-2.new.into.items ≡ c.add.new.into.items ++ ((item_cells c.args.names.now c.args.set.now c.args.ages.now c.args.item.0) ++ ((value_cells (stored_of c.args.items.now c.args.item.0)) ++ (codes "</tr>\n"))) =
    back c.add-2.new.into.items c.add_item.new.into.items c.add.new.into.items (item_cells c.args.names.now c.args.set.now c.args.ages.now c.args.item.0) ((value_cells (stored_of c.args.items.now c.args.item.0)) ++ (codes "</tr>\n")) from_3 step_2 in
    let from_1 : c.add-2.new.into.items ≡ c.args.into.now.items ++ ((codes "<tr>") ++ ((item_cells c.args.names.now c.args.set.now c.args.ages.now c.args.item.0) ++ ((value_cells (stored_of c.args.items.now c.args.item.0)) ++ (codes "</tr>\n")))) =
    back c.add-2.new.into.items c.add.new.into.items c.args.into.now.items (codes "<tr>") ((item_cells c.args.names.now c.args.set.now c.args.ages.now c.args.item.0) ++ ((value_cells (stored_of c.args.items.now c.args.item.0)) ++ (codes "</tr>\n"))) from_2 step_1 in
    from_1
