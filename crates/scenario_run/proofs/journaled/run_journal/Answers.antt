use Rattle.step_script.specs.Shown.{Shown, shown}
use Rattle.command_replies.specs.declared.reply.Reply.{Reply}
use Rattle.std.proofs.lemmas.Result.{IfOk-weaker}
use Rattle.command_replies.proofs.Replying.{taken, refused_by}
use Rattle.scenario_run.proofs.JournalBegun.{journal_reply, journaled_begun}
use Rattle.scenario_run.proofs.Kept.{kept_none}
use Rattle.scenario_run.proofs.journaled.run_journal.Goals as goal

pub run_over-requires-clause-begun : goal.run_over-requires-clause-begun
run_over-requires-clause-begun g c =
    let s : Shown = shown c.args.scenario in
    (s, c.in-Ok.ensures.begun s (taken _ _ _ c.in-Ok-Ok.field-0-is c.in-Ok-Ok.ensures.plan))

pub returns-in-Ok-clause-reply : goal.returns-in-Ok-clause-reply
returns-in-Ok-clause-reply g c =
    let s : Shown = shown c.args.scenario in
    let begun = c.in-Ok.ensures.begun s (taken _ _ _ c.in-Ok-Ok.field-0-is c.in-Ok-Ok.ensures.plan) in
    IfOk-weaker c.run_over.result.0 _ _ (λ (r : Reply) h. journal_reply s (g.D.Disk.seen c.args.disk) r.status r.text.items begun.admitted_without_eager h) (c.run_over.ensures.reply s begun)

pub returns-in-Ok-clause-holds : goal.returns-in-Ok-clause-holds
returns-in-Ok-clause-holds g c =
    let s : Shown = shown c.args.scenario in
    c.run_over.ensures.holds s (c.in-Ok.ensures.begun s (taken _ _ _ c.in-Ok-Ok.field-0-is c.in-Ok-Ok.ensures.plan))

pub returns-in-Ok-Err-clause-reply : goal.returns-in-Ok-Err-clause-reply
returns-in-Ok-Err-clause-reply g c = (refused_by _ _ _ c.in-Ok-Err.field-0-is c.in-Ok-Err.ensures.refused).1 (g.D.Disk.seen c.args.disk)

pub returns-in-Ok-clause-untouched : goal.returns-in-Ok-clause-untouched
returns-in-Ok-clause-untouched g c =
    let s : Shown = shown c.args.scenario in
    let begun = c.in-Ok.ensures.begun s (taken _ _ _ c.in-Ok-Ok.field-0-is c.in-Ok-Ok.ensures.plan) in
    IfOk-weaker c.run_over.result.0 _ _ (λ (r : Reply) h. λ leaves. absurd (journaled_begun s (g.D.Disk.seen c.args.disk) r.status r.text.items h leaves)) (c.run_over.ensures.reply s begun)

pub returns-in-Ok-clause-left : goal.returns-in-Ok-clause-left
returns-in-Ok-clause-left g c =
    let s : Shown = shown c.args.scenario in
    c.run_over.ensures.left s (c.in-Ok.ensures.begun s (taken _ _ _ c.in-Ok-Ok.field-0-is c.in-Ok-Ok.ensures.plan))

pub returns-in-Err-equipped-clause-left : goal.returns-in-Err-equipped-clause-left
returns-in-Err-equipped-clause-left g c =
    let d = g.D.Disk in kept_none d.seen d.may_leave d.moment d.left_since (shown c.args.scenario) c.args.disk (g.met.D.Disk.only_now c.args.disk)

pub returns-in-Ok-Err-clause-left : goal.returns-in-Ok-Err-clause-left
returns-in-Ok-Err-clause-left g c =
    let d = g.D.Disk in kept_none d.seen d.may_leave d.moment d.left_since (shown c.args.scenario) c.args.disk (g.met.D.Disk.only_now c.args.disk)

pub returns-in-Err-clause-left : goal.returns-in-Err-clause-left
returns-in-Err-clause-left g c =
    let d = g.D.Disk in kept_none d.seen d.may_leave d.moment d.left_since (shown c.args.scenario) c.args.disk (g.met.D.Disk.only_now c.args.disk)
