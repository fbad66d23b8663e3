-- The builders of clap make the lines of the definition.
use Rattle.std.proofs.Common.{◌≡◌, ◌∙◌, ◌||◌, true, ap, ap₂, codes, refl}
use Rattle.clap.specs.Words.{AddsSubcommand, App, is_simple, is_simple_and_free, new_app, with_subcommand}
use Rattle.clap.specs.Simple.{app_of_fields}
use Rattle.clap.specs.declared.builder.command.Command.{Command}
use Rattle.clap.specs.declared.builder.command.Command.TheOpen.{Command-F}
use Rattle.clap.specs.declared.builder.command.Command.TheViews.{out-Command}
use Rattle.clap.proofs.OnLiterals.{clap_on_literals}
use Rattle.command_words.specs.Shape.{IsLine, bare, rtdb}

pub with_sub : (old sub new : Command) (a s : App) → AddsSubcommand old sub new → IsLine a old → IsLine s sub → IsLine (with_subcommand a s.top) new
with_sub old sub new a s adds o t = (adds.shape t.1 ∙ ap₂ with_subcommand o.0 (ap (λ (x : App). x.top) t.0), adds.globals ∙ ap₂ ◌||◌ o.1 t.1)

abbrev pub Fields : Type 0
Fields = Command-F Command

abbrev pub set_bare : App → App
set_bare a = record a { top = record a.top { no_binary_name = true; disable_help_flag = true; disable_help_subcommand = true } }

pub bare_line : (c d e f : Command) → IsLine (new_app (codes "rtdb")) c → out-Command d ≡ record (out-Command c) { no_binary_name = true } → out-Command e ≡ record (out-Command d) { disable_help_flag = true }
    → out-Command f ≡ record (out-Command e) { disable_help_subcommand = true } → IsLine bare f
bare_line c d e f line named flag command =
    let all : out-Command f ≡ record (out-Command c) { no_binary_name = true; disable_help_flag = true; disable_help_subcommand = true } =
    command ∙ (ap (λ (x : Fields). record x { disable_help_subcommand = true }) flag ∙ ap (λ (x : Fields). record x { disable_help_flag = true; disable_help_subcommand = true }) named) in
    (ap app_of_fields all ∙ ap set_bare line.0, ap (λ (x : Fields). x.has_globals) all ∙ line.1)

pub simple_and_free : is_simple_and_free rtdb ≡ true
unfolding clap_on_literals
simple_and_free = refl

pub simple : is_simple rtdb ≡ true
unfolding clap_on_literals
simple = refl
