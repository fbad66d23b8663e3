use Rattle.std.proofs.Common.{sym, ◌∙◌}
use Rattle.core_tables.proofs.Planned.{plan_free}
use Rattle.core_tables.proofs.tables.CoreTables.plan.Goals as goal

pub note_plan-requires-clause-free : goal.note_plan-requires-clause-free
note_plan-requires-clause-free c =
    let stand = c.requires.stand.1 in
    plan_free c.requires.stand.0 _ stand.state c.args.kept c.args.room c.args.tx.0 c.args.tick c.in-Ok.job stand.are
    (sym (c.plan_check.ensures c.requires.stand.0 stand.state stand.are) ∙ c.in-Ok.is)
