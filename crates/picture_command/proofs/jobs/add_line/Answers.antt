use Rattle.std.proofs.Common.{codes, ◌++◌, ◌≡◌}
use Rattle.picture_text.proofs.Sums.{back}
use Rattle.picture_command.specs.Tables.{declared_cells, job_cells}
use Rattle.picture_command.proofs.jobs.add_line.Goals as goal

pub returns : goal.returns
returns c =
    let from_3 : c.add-2.new.into.items ≡ c.add_declared.new.into.items ++ ((job_cells c.args.responses.now c.args.rows.now c.args.tx.0) ++ (codes "</tr>\n")) =
    back c.add-2.new.into.items c.add_jobs.new.into.items c.add_declared.new.into.items (job_cells c.args.responses.now c.args.rows.now c.args.tx.0) (codes "</tr>\n") c.in_ok-add-2.ensures c.in_ok-add_jobs.ensures in
    let from_2 : c.add-2.new.into.items ≡ c.add.new.into.items ++ ((declared_cells c.args.names.now c.args.set.now c.args.tx.0) ++ ((job_cells c.args.responses.now c.args.rows.now c.args.tx.0) ++ (codes "</tr>\n"))) =
    back c.add-2.new.into.items c.add_declared.new.into.items c.add.new.into.items (declared_cells c.args.names.now c.args.set.now c.args.tx.0) ((job_cells c.args.responses.now c.args.rows.now c.args.tx.0) ++ (codes "</tr>\n")) from_3 c.in_ok-add_declared.ensures in
    let from_1 : c.add-2.new.into.items ≡ c.args.into.now.items ++ ((codes "<tr>") ++ ((declared_cells c.args.names.now c.args.set.now c.args.tx.0) ++ ((job_cells c.args.responses.now c.args.rows.now c.args.tx.0) ++ (codes "</tr>\n")))) =
    back c.add-2.new.into.items c.add.new.into.items c.args.into.now.items (codes "<tr>") ((declared_cells c.args.names.now c.args.set.now c.args.tx.0) ++ ((job_cells c.args.responses.now c.args.rows.now c.args.tx.0) ++ (codes "</tr>\n"))) from_2 c.in_ok-add.ensures in
    from_1
