use Rattle.std.proofs.Common.{◌≡◌, ◌<◌, length, Some, subst, sym, arith}
use Rattle.step_journal.specs.State.{row_of}
use Rattle.core_tables.specs.Rows.{PendingSeen}
use Rattle.core_tables.proofs.RowsBy.{rows_length}
use Rattle.core_tables.proofs.Calls.{work_is}
use Rattle.core_tables.proofs.pending.Pending.work.Goals as goal

pub returns-clause-work : goal.returns-clause-work
returns-clause-work c row h =
    let lt = subst (λ (p : PendingSeen). c.args.tx.0 < length p.rows) (sym c.self.view_is) c.requires in
    let low : c.args.tx.0 < length c.self.inside.works.items =
    omega (arith, lt, rows_length c.self.inside.heads.items c.self.inside.works.items c.self.inside.waits.on, c.self.invariant.heads_size, c.self.invariant.works_size) in
    work_is c.self.inside.heads.items c.self.inside.works.items c.self.inside.waits.on c.args.tx.0 c.index.result.now row low c.index.ensures (subst (λ (p : PendingSeen). row_of p.rows c.args.tx.0 ≡ Some row) (sym c.self.view_is) h)
