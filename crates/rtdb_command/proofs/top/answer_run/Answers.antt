use Rattle.std.proofs.Common.{rules, Some}
use Rattle.std.specs.Prelude.{IsErrOf}
use Rattle.step_script.specs.Shown.{Shown, shown}
use Rattle.sim_run.specs.declared.fault.RunFault.TheVariants.{Writing, Memory}
use Rattle.command_words.specs.declared.command.Command.TheVariants.{Run}
use Rattle.scenario_run.specs.Replies.{RunReply}
use Rattle.command_replies.specs.Scenarios.{IsReadFrom}
use Rattle.rtdb_command.specs.Answers.{IsAnswer}
use Rattle.rtdb_command.proofs.Telling.{from_read, run_cut, run_short}
use Rattle.rtdb_command.proofs.top.answer_run.Goals as goal

pub returns-in-Ok-Err-clause-answer : goal.returns-in-Ok-Err-clause-answer
returns-in-Ok-Err-clause-answer g c =
    let said : IsAnswer (Some (Run c.args.mode.trial c.args.mode.workers)) (g.S.Source.left c.args.source.now) (g.S.Source.left c.scenario_from.new.source) c.in-Ok-Err.reply.status c.in-Ok-Err.reply.text.items = search rules in
    search (rules, said)

pub returns-in-Ok-write_all-clause-answer : goal.returns-in-Ok-write_all-clause-answer
returns-in-Ok-write_all-clause-answer g c =
    let s : Shown = shown c.in-Ok-Ok.scenario in
    let read : IsReadFrom (g.S.Source.left c.args.source.now) (g.S.Source.left c.scenario_from.new.source) s = search rules in
    let reply : RunReply c.args.mode.trial s c.in-Ok-Some.reply.status c.in-Ok-Some.reply.text.items = search rules in
    let said : IsAnswer (Some (Run c.args.mode.trial c.args.mode.workers)) (g.S.Source.left c.args.source.now) (g.S.Source.left c.scenario_from.new.source) c.in-Ok-Some.reply.status c.in-Ok-Some.reply.text.items =
    from_read (RunReply c.args.mode.trial) _ _ s _ _ read reply in
    search (rules, said)

pub returns-in-Ok-Some-clause-answer : goal.returns-in-Ok-Some-clause-answer
returns-in-Ok-Some-clause-answer g c =
    let s : Shown = shown c.in-Ok-Ok.scenario in
    let read : IsReadFrom (g.S.Source.left c.args.source.now) (g.S.Source.left c.scenario_from.new.source) s = search rules in
    let reply : RunReply c.args.mode.trial s c.in-Ok-Some.reply.status c.in-Ok-Some.reply.text.items = search rules in
    let said : IsAnswer (Some (Run c.args.mode.trial c.args.mode.workers)) (g.S.Source.left c.args.source.now) (g.S.Source.left c.scenario_from.new.source) c.in-Ok-Some.reply.status c.in-Ok-Some.reply.text.items =
    from_read (RunReply c.args.mode.trial) _ _ s _ _ read reply in
    search (rules, said)

pub returns-in-Err-Writing-clause-answer : goal.returns-in-Err-Writing-clause-answer
returns-in-Err-Writing-clause-answer g c =
    let s : Shown = shown c.in-Ok-Ok.scenario in
    let read : IsReadFrom (g.S.Source.left c.args.source.now) (g.S.Source.left c.scenario_from.new.source) s = search rules in
    let fails : IsErrOf c.run_scenario.result Writing = search rules in
    run_cut c.args.mode.trial c.args.mode.workers _ _ _ _ s read (c.run_scenario.ensures.cut fails)

pub returns-clause-answer : goal.returns-clause-answer
returns-clause-answer g c =
    let s : Shown = shown c.in-Ok-Ok.scenario in
    let read : IsReadFrom (g.S.Source.left c.args.source.now) (g.S.Source.left c.scenario_from.new.source) s = search rules in
    let fails : IsErrOf c.run_scenario.result Memory = search rules in
    run_short c.args.mode.trial c.args.mode.workers _ _ _ _ s read (c.run_scenario.ensures.short fails)
