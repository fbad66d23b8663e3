-- The program's command line, as clap reads it.
use Rattle.std.specs.Prelude.{codes, true}
use Rattle.clap.specs.Words.{App, new_app, with_rule, with_subcommand}
use Rattle.command_words.specs.Shape.{trial}

-- no binary name stands before the words, and no help is added
abbrev pub bare : App
bare = record (new_app (codes "rtdb-tool")) {
  top = record (new_app (codes "rtdb-tool")).top { no_binary_name = true; disable_help_flag = true; disable_help_subcommand = true };
}

-- the subcommand with an argument
abbrev pub checking : App
checking = with_rule (new_app (codes "check")) trial

-- the whole line
abbrev pub tool : App
tool =
    with_subcommand (with_subcommand (with_subcommand (with_subcommand (with_subcommand (with_subcommand bare (new_app (codes "slack")).top) (new_app (codes "priorities")).top)
    (new_app (codes "summary")).top) (new_app (codes "json")).top) (new_app (codes "table")).top) checking.top
