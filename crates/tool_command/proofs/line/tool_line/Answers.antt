use Rattle.std.proofs.lemmas.Result.{IfOk-weaker}
use Rattle.command_words.proofs.Lines.{with_sub}
use Rattle.tool_command.proofs.Lines.{bare_line}
use Rattle.tool_command.proofs.line.tool_line.Goals as goal

pub returns : goal.returns
returns c =
    let bare = bare_line _ _ _ _ (c.new.ensures.app, c.new.ensures.local) c.no_binary_name.ensures c.disable_help_flag.ensures c.disable_help_subcommand.ensures in
    let slack = with_sub _ _ _ _ _ c.in_ok-subcommand.ensures bare (c.new-2.ensures.app, c.new-2.ensures.local) in
    let priorities = with_sub _ _ _ _ _ c.in_ok-subcommand-2.ensures slack (c.new-3.ensures.app, c.new-3.ensures.local) in
    let summary = with_sub _ _ _ _ _ c.in_ok-subcommand-3.ensures priorities (c.new-4.ensures.app, c.new-4.ensures.local) in
    let json = with_sub _ _ _ _ _ c.in_ok-subcommand-4.ensures summary (c.new-5.ensures.app, c.new-5.ensures.local) in
    let table = with_sub _ _ _ _ _ c.in_ok-subcommand-5.ensures json (c.new-6.ensures.app, c.new-6.ensures.local) in
    IfOk-weaker c.subcommand-6.result _ _ (λ m h. with_sub _ _ m _ _ h table c.in_ok-check_line.ensures) c.subcommand-6.ensures
