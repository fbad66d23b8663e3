use Rattle.std.proofs.Common.{ap₂, ◌∙◌}
use Rattle.step_script.specs.Shown.{Shown, shown}
use Rattle.command_replies.specs.Accepted.{IsAdmittedOf}
use Rattle.command_replies.proofs.Replying.{taken, admitted_reply}
use Rattle.tool_command.specs.Slacks.{slack_text}
use Rattle.tool_command.proofs.slacks.slacks.Goals as goal

pub returns-in_ok-text-in-Ok : goal.returns-in_ok-text-in-Ok
returns-in_ok-text-in-Ok c =
    let s : Shown = shown c.args.scenario in
    let is : IsAdmittedOf s c.in-Ok.accepted = taken _ _ _ c.in-Ok.is c.in_ok-accepted.ensures.accepted in
    admitted_reply _ s _ _ is.compiles is.admits
    (c.written.ensures.0, c.written.ensures.1 ∙ (c.in_ok-text-in-Ok.ensures ∙ ap₂ slack_text is.parts.names_are is.parts.set_is))
