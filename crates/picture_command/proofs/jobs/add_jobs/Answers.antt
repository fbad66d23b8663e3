use Rattle.std.proofs.Common.{rules, slice_get, ◌++◌, ◌≡◌}
use Rattle.picture_text.proofs.Sums.{back}
use Rattle.picture_command.specs.Tables.{committed_in, delay_in, ended_in, maybe_cell, number_cell, response_in, total, worst}
use Rattle.picture_command.proofs.jobs.add_jobs.Goals as goal

pub returns : goal.returns
returns c =
    let step_1 : c.add_number_cell.new.into.items ≡ c.args.into.now.items ++ (number_cell (total (ended_in c.args.tx.0) c.args.rows.now)) = search rules in
    let step_2 : c.add_number_cell-2.new.into.items ≡ c.add_number_cell.new.into.items ++ (number_cell (total (committed_in c.args.tx.0) c.args.rows.now)) = search rules in
    let step_3 : c.add_number_cell-3.new.into.items ≡ c.add_number_cell-2.new.into.items ++ (number_cell (worst (response_in c.args.tx.0) c.args.rows.now)) = search rules in
    let step_4 : c.add_maybe_cell.new.into.items ≡ c.add_number_cell-3.new.into.items ++ (maybe_cell (slice_get c.args.responses.now c.args.tx.0)) = search rules in
    let step_5 : c.add_number_cell-4.new.into.items ≡ c.add_maybe_cell.new.into.items ++ (number_cell (worst (delay_in c.args.tx.0) c.args.rows.now)) = search rules in
    let from_4 : c.add_number_cell-4.new.into.items ≡ c.add_number_cell-3.new.into.items ++ ((maybe_cell (slice_get c.args.responses.now c.args.tx.0)) ++ (number_cell (worst (delay_in c.args.tx.0) c.args.rows.now))) =
    back c.add_number_cell-4.new.into.items c.add_maybe_cell.new.into.items c.add_number_cell-3.new.into.items (maybe_cell (slice_get c.args.responses.now c.args.tx.0)) (number_cell (worst (delay_in c.args.tx.0) c.args.rows.now)) step_5 step_4 in
    let from_3 : c.add_number_cell-4.new.into.items ≡ c.add_number_cell-2.new.into.items ++ ((number_cell (worst (response_in c.args.tx.0) c.args.rows.now)) ++ ((maybe_cell (slice_get c.args.responses.now c.args.tx.0)) ++ (number_cell (worst (delay_in c.args.tx.0) c.args.rows.now)))) =
    back c.add_number_cell-4.new.into.items c.add_number_cell-3.new.into.items c.add_number_cell-2.new.into.items (number_cell (worst (response_in c.args.tx.0) c.args.rows.now)) ((maybe_cell (slice_get c.args.responses.now c.args.tx.0)) ++ (number_cell (worst (delay_in c.args.tx.0) c.args.rows.now))) from_4 step_3 in
    let from_2 : c.add_number_cell-4.new.into.items ≡ c.add_number_cell.new.into.items ++ ((number_cell (total (committed_in c.args.tx.0) c.args.rows.now)) ++ ((number_cell (worst (response_in c.args.tx.0) c.args.rows.now)) ++ ((maybe_cell (slice_get c.args.responses.now c.args.tx.0)) ++ (number_cell (worst (delay_in c.args.tx.0) c.args.rows.now))))) =
    back c.add_number_cell-4.new.into.items c.add_number_cell-2.new.into.items c.add_number_cell.new.into.items (number_cell (total (committed_in c.args.tx.0) c.args.rows.now)) ((number_cell (worst (response_in c.args.tx.0) c.args.rows.now)) ++ ((maybe_cell (slice_get c.args.responses.now c.args.tx.0)) ++ (number_cell (worst (delay_in c.args.tx.0) c.args.rows.now)))) from_3 step_2 in
    let from_1 : c.add_number_cell-4.new.into.items ≡ c.args.into.now.items ++ ((number_cell (total (ended_in c.args.tx.0) c.args.rows.now)) ++ ((number_cell (total (committed_in c.args.tx.0) c.args.rows.now)) ++ ((number_cell (worst (response_in c.args.tx.0) c.args.rows.now)) ++ ((maybe_cell (slice_get c.args.responses.now c.args.tx.0)) ++ (number_cell (worst (delay_in c.args.tx.0) c.args.rows.now)))))) =
    back c.add_number_cell-4.new.into.items c.add_number_cell.new.into.items c.args.into.now.items (number_cell (total (ended_in c.args.tx.0) c.args.rows.now)) ((number_cell (total (committed_in c.args.tx.0) c.args.rows.now)) ++ ((number_cell (worst (response_in c.args.tx.0) c.args.rows.now)) ++ ((maybe_cell (slice_get c.args.responses.now c.args.tx.0)) ++ (number_cell (worst (delay_in c.args.tx.0) c.args.rows.now))))) from_2 step_1 in
    from_1
