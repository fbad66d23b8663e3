use Rattle.std.proofs.Common.{rules, ◌≤◌, length}
use Rattle.picture_command.specs.Answers.{TakesAll, report_limit}
use Rattle.picture_command.proofs.Telling.{judged}
use Rattle.picture_command.proofs.top.reply_to.Goals as goal

pub returns-in_ok-drawn-in-Ok-clause-said : goal.returns-in_ok-drawn-in-Ok-clause-said
returns-in_ok-drawn-in-Ok-clause-said g c =
    let took : TakesAll (g.S.Source.left c.args.source.now) (g.S.Source.left c.read_all.new.source) c.deref.result.now = search rules in
    let short : length c.deref.result.now ≤ report_limit = search rules in
    judged c.args.wanted _ _ c.deref.result.now _ _ took short c.in_ok-drawn-in-Ok.ensures
