use Rattle.std.proofs.Common.{rules, ◌++◌, ◌≡◌}
use Rattle.journal_text.specs.Ids.{name_at}
use Rattle.picture_text.proofs.Sums.{back}
use Rattle.picture_command.specs.Tables.{cell, number_cell}
use Rattle.txn_set.specs.Set.{txn_of}
use Rattle.picture_command.proofs.jobs.add_declared.Goals as goal

pub returns : goal.returns
returns c =
    let step_1 : c.add_cell.new.into.items ≡ c.args.into.now.items ++ (cell (name_at c.args.names.now.txns c.args.tx.0)) = search rules in
    let step_2 : c.add_number_cell.new.into.items ≡ c.add_cell.new.into.items ++ (number_cell (txn_of c.args.set.now c.args.tx.0).prio) = search rules in
    let step_3 : c.add_number_cell-2.new.into.items ≡ c.add_number_cell.new.into.items ++ (number_cell (txn_of c.args.set.now c.args.tx.0).period) = search rules in
    let step_4 : c.add_number_cell-3.new.into.items ≡ c.add_number_cell-2.new.into.items ++ (number_cell (txn_of c.args.set.now c.args.tx.0).deadline) = search rules in
    let from_3 : c.add_number_cell-3.new.into.items ≡ c.add_number_cell.new.into.items ++ ((number_cell (txn_of c.args.set.now c.args.tx.0).period) ++ (number_cell (txn_of c.args.set.now c.args.tx.0).deadline)) =
    back c.add_number_cell-3.new.into.items c.add_number_cell-2.new.into.items c.add_number_cell.new.into.items (number_cell (txn_of c.args.set.now c.args.tx.0).period) (number_cell (txn_of c.args.set.now c.args.tx.0).deadline) step_4 step_3 in
    let from_2 : c.add_number_cell-3.new.into.items ≡ c.add_cell.new.into.items ++ ((number_cell (txn_of c.args.set.now c.args.tx.0).prio) ++ ((number_cell (txn_of c.args.set.now c.args.tx.0).period) ++ (number_cell (txn_of c.args.set.now c.args.tx.0).deadline))) =
    back c.add_number_cell-3.new.into.items c.add_number_cell.new.into.items c.add_cell.new.into.items (number_cell (txn_of c.args.set.now c.args.tx.0).prio) ((number_cell (txn_of c.args.set.now c.args.tx.0).period) ++ (number_cell (txn_of c.args.set.now c.args.tx.0).deadline)) from_3 step_2 in
    let from_1 : c.add_number_cell-3.new.into.items ≡ c.args.into.now.items ++ ((cell (name_at c.args.names.now.txns c.args.tx.0)) ++ ((number_cell (txn_of c.args.set.now c.args.tx.0).prio) ++ ((number_cell (txn_of c.args.set.now c.args.tx.0).period) ++ (number_cell (txn_of c.args.set.now c.args.tx.0).deadline)))) =
    back c.add_number_cell-3.new.into.items c.add_cell.new.into.items c.args.into.now.items (cell (name_at c.args.names.now.txns c.args.tx.0)) ((number_cell (txn_of c.args.set.now c.args.tx.0).prio) ++ ((number_cell (txn_of c.args.set.now c.args.tx.0).period) ++ (number_cell (txn_of c.args.set.now c.args.tx.0).deadline))) from_2 step_1 in
    from_1
