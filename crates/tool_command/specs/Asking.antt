-- What is looked at before clap is asked, and what clap's answer says.
use Rattle.std.specs.Prelude.{◌&&◌, List, [], ◌∷◌, codes, Option, option_and_then, Bool, false}
use Rattle.std.specs.Str.{bytes_eq}
use Rattle.clap.specs.Words.{Row, first_of}
use Rattle.command_words.specs.Asking.{is_name, is_true}
use Rattle.tool_command.specs.declared.command.ToolCommand.{ToolCommand}
use Rattle.tool_command.specs.Commands.{Text, named}

-- Clap is asked about one word that may name a command, and about `check --trial`; other words are no command's.
abbrev pub is_askable : List Text → Bool
is_askable (name ∷ []) = is_name name
is_askable (name ∷ option ∷ []) = bytes_eq name (codes "check") && bytes_eq option (codes "--trial")
is_askable words = false

abbrev pub said : Option (Text × List Row) → Option ToolCommand
said subcommand = option_and_then (λ p. named p.0 (is_true (first_of (codes "trial") p.1))) subcommand
