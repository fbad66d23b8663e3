use Rattle.std.proofs.Common.{List, sym, subst}
use Rattle.step_journal.specs.declared.entry.Entry.{Entry}
use Rattle.durable_journal.specs.Log.{Stood}
use Rattle.scenario_run.proofs.Left.{refused_after}
use Rattle.scenario_run.proofs.opening.opened.Goals as goal

pub returns-in-Ok-clause-stands : goal.returns-in-Ok-clause-stands
returns-in-Ok-clause-stands g c =
    let d = g.D.Disk in
    let log = c.in-Ok.log in
    subst (λ (l : List Entry). Stood c.args.names.now c.args.set.now (d.seen log.disk) (d.may_leave log.disk) log.count log.stopped l) (sym c.new.ensures.items)
    (c.in-Ok.ensures.stands c.args.names.now c.args.set.now)

pub returns-in-Ok-false-clause-made_err : goal.returns-in-Ok-false-clause-made_err
returns-in-Ok-false-clause-made_err g c =
    let d = g.D.Disk in
    refused_after d.seen d.may_leave d.moment d.left_since c.args.names.now c.args.set.now c.args.room c.args.disk c.is_empty.new.disk c.open.result c.is_empty.ensures.passes c.open.ensures.touched_err
