use Rattle.core_tables.proofs.Plans.{plan_refused, plan_full, plan_ok}
use Rattle.core_tables.proofs.Planned.{at_view}
use Rattle.core_tables.proofs.tables.CoreTables.plan_check.Goals as goal

pub returns-in-Err : goal.returns-in-Err
returns-in-Err c = λ set s are.
    plan_refused set _ s c.args.kept c.args.room c.args.tx.0 c.args.tick c.in-Err.refused (at_view set _ _ s c.self.view_is are) c.in-Err.ensures.rule

pub returns-in-Ok : goal.returns-in-Ok
returns-in-Ok c = λ set s are.
    plan_full set _ s c.args.kept c.args.room c.args.tx.0 c.args.tick (at_view set _ _ s c.self.view_is are) c.in-Ok.ensures.rule c.if-room-kept.true

pub returns-in-Ok-2 : goal.returns-in-Ok-2
returns-in-Ok-2 c = λ set s are.
    plan_ok set _ s c.args.kept c.args.room c.args.tx.0 c.args.tick c.in-Ok.field-0 (at_view set _ _ s c.self.view_is are) c.in-Ok.ensures.rule c.if-room-kept.false c.in-Ok.ensures.serial
