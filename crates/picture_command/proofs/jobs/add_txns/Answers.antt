use Rattle.std.proofs.Common.{◌++◌, ◌≡◌}
use Rattle.picture_text.proofs.Sums.{back}
use Rattle.picture_command.specs.Tables.{table_end, txn_head, txn_lines}
use Rattle.picture_command.proofs.jobs.add_txns.Goals as goal

pub returns : goal.returns
returns c =
    let from_2 : c.add_end.new.into.items ≡ c.add_head.new.into.items ++ ((txn_lines c.args.names.now c.args.set.now c.args.responses.now c.args.rows.now) ++ (table_end)) =
    back c.add_end.new.into.items c.add_lines.new.into.items c.add_head.new.into.items (txn_lines c.args.names.now c.args.set.now c.args.responses.now c.args.rows.now) (table_end) c.in_ok-add_end.ensures c.in_ok-add_lines.ensures in
    let from_1 : c.add_end.new.into.items ≡ c.args.into.now.items ++ ((txn_head) ++ ((txn_lines c.args.names.now c.args.set.now c.args.responses.now c.args.rows.now) ++ (table_end))) =
    back c.add_end.new.into.items c.add_head.new.into.items c.args.into.now.items (txn_head) ((txn_lines c.args.names.now c.args.set.now c.args.responses.now c.args.rows.now) ++ (table_end)) from_2 c.in_ok-add_head.ensures in
    from_1
