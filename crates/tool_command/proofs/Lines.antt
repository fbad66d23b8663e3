-- The builders of clap make the line of the definition.
use Rattle.std.proofs.Common.{◌≡◌, ◌∙◌, true, ap, codes, refl}
use Rattle.clap.specs.Words.{is_simple, is_simple_and_free, new_app}
use Rattle.clap.specs.Simple.{app_of_fields}
use Rattle.clap.specs.declared.builder.command.Command.{Command}
use Rattle.clap.specs.declared.builder.command.Command.TheViews.{out-Command}
use Rattle.clap.proofs.OnLiterals.{clap_on_literals}
use Rattle.command_words.specs.Shape.{IsLine}
use Rattle.command_words.proofs.Lines.{Fields, set_bare}
use Rattle.tool_command.specs.Shape.{bare, tool}

pub bare_line : (c d e f : Command) → IsLine (new_app (codes "rtdb-tool")) c → out-Command d ≡ record (out-Command c) { no_binary_name = true } → out-Command e ≡ record (out-Command d) { disable_help_flag = true }
    → out-Command f ≡ record (out-Command e) { disable_help_subcommand = true } → IsLine bare f
bare_line c d e f line named flag command =
    let all : out-Command f ≡ record (out-Command c) { no_binary_name = true; disable_help_flag = true; disable_help_subcommand = true } =
    command ∙ (ap (λ (x : Fields). record x { disable_help_subcommand = true }) flag ∙ ap (λ (x : Fields). record x { disable_help_flag = true; disable_help_subcommand = true }) named) in
    (ap app_of_fields all ∙ ap set_bare line.0, ap (λ (x : Fields). x.has_globals) all ∙ line.1)

pub simple_and_free : is_simple_and_free tool ≡ true
unfolding clap_on_literals
simple_and_free = refl

pub simple : is_simple tool ≡ true
unfolding clap_on_literals
simple = refl
