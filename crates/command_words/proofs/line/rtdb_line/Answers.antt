use Rattle.std.proofs.lemmas.Result.{IfOk-weaker}
use Rattle.command_words.proofs.Lines.{bare_line, with_sub}
use Rattle.command_words.proofs.line.rtdb_line.Goals as goal

pub returns : goal.returns
returns c =
    let bare = bare_line _ _ _ _ (c.new.ensures.app, c.new.ensures.local) c.no_binary_name.ensures c.disable_help_flag.ensures c.disable_help_subcommand.ensures in
    let ceilings = with_sub _ _ _ _ _ c.in_ok-subcommand.ensures bare (c.new-2.ensures.app, c.new-2.ensures.local) in
    let admit = with_sub _ _ _ _ _ c.in_ok-subcommand-2.ensures ceilings (c.new-3.ensures.app, c.new-3.ensures.local) in
    let run = with_sub _ _ _ _ _ c.in_ok-subcommand-3.ensures admit c.in_ok-run_line.ensures in
    let replay = with_sub _ _ _ _ _ c.in_ok-subcommand-4.ensures run (c.new-4.ensures.app, c.new-4.ensures.local) in
    let gen = with_sub _ _ _ _ _ c.in_ok-subcommand-5.ensures replay c.in_ok-gen_line.ensures in
    let load = with_sub _ _ _ _ _ c.in_ok-subcommand-6.ensures gen c.in_ok-load_line.ensures in
    let rates = with_sub _ _ _ _ _ c.in_ok-subcommand-7.ensures load (c.new-5.ensures.app, c.new-5.ensures.local) in
    IfOk-weaker c.subcommand-8.result _ _ (λ m h. with_sub _ _ m _ _ h rates (c.new-6.ensures.app, c.new-6.ensures.local)) c.subcommand-8.ensures
