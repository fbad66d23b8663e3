use Rattle.std.proofs.Common.{◌≡◌, ◌<◌, ◌∙◌, length, None, subst, sym, arith}
use Rattle.std.proofs.lemmas.List.{get_or_read}
use Rattle.std.specs.Option.{option_map}
use Rattle.step_journal.specs.State.{row_of}
use Rattle.core_tables.specs.Rows.{PendingSeen, head_of}
use Rattle.core_tables.proofs.RowsBy.{rows_length}
use Rattle.core_tables.proofs.Calls.{head_is}
use Rattle.core_tables.proofs.pending.Pending.head.Goals as goal

pub returns : goal.returns
returns c =
    let lt = subst (λ (p : PendingSeen). c.args.tx.0 < length p.rows) (sym c.self.view_is) c.requires in
    let low : c.args.tx.0 < length c.self.inside.heads.items = omega (arith, lt, rows_length c.self.inside.heads.items c.self.inside.works.items c.self.inside.waits.on) in
    get_or_read c.self.inside.heads.items c.args.tx.0 c.index.result.now low c.index.ensures None
    ∙ subst (λ (p : PendingSeen). Rattle.core_tables.specs.PendingTables.head_at c.self.inside.heads.items c.args.tx.0 ≡ option_map head_of (row_of p.rows c.args.tx.0)) c.self.view_is (head_is c.self.inside.heads.items c.self.inside.works.items c.self.inside.waits.on c.args.tx.0)
