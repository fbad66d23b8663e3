use Rattle.std.proofs.Common.{◌∙◌}
use Rattle.command_replies.specs.Reports.{IsReportFrom}
use Rattle.command_replies.proofs.Replying.{taken}
use Rattle.tool_command.specs.Reports.{JsonReply}
use Rattle.tool_command.proofs.Statuses.{from_report}
use Rattle.tool_command.proofs.top.ask_json.Goals as goal

pub returns-in_ok-text-in-Ok-clause-said : goal.returns-in_ok-text-in-Ok-clause-said
returns-in_ok-text-in-Ok-clause-said g c =
    let old = g.S.Source.left c.args.source.now in
    let new = g.S.Source.left c.report_from.new.source in
    let from : IsReportFrom old new c.in-Ok.report = taken c.in_ok-report.field-0 c.in-Ok.report (λ r. IsReportFrom old new r) c.in-Ok.is c.in_ok-report.ensures.report in
    from_report JsonReply old new c.in-Ok.report c.written.result.status c.written.result.text.items from
    (c.written.ensures.0, c.written.ensures.1 ∙ c.in_ok-text-in-Ok.ensures) c.written.ensures.0
