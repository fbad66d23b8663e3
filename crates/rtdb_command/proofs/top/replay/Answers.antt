use Rattle.std.proofs.Common.{rules, ◌≤◌, length}
use Rattle.command_replies.specs.Taken.{report_limit, TakesAll}
use Rattle.rtdb_command.proofs.Telling.{judged_report}
use Rattle.rtdb_command.proofs.top.replay.Goals as goal

pub returns-in_ok-replayed-in-Ok-clause-said : goal.returns-in_ok-replayed-in-Ok-clause-said
returns-in_ok-replayed-in-Ok-clause-said g c =
    let took : TakesAll report_limit (g.S.Source.left c.args.source.now) (g.S.Source.left c.read_all.new.source) c.deref.result.now = search rules in
    let short : length c.deref.result.now ≤ report_limit = search rules in
    judged_report _ _ c.deref.result.now _ _ took short c.in_ok-replayed-in-Ok.ensures
