-- The program's command line, as clap reads it.
use Rattle.std.specs.Prelude.{◌≡◌, codes, Some, true, false}
use Rattle.clap.specs.Words.{App, Rule, app_of, new_app, new_rule, with_rule, with_subcommand}
use Rattle.clap.specs.declared.builder.ArgAction.TheVariants.{SetTrue}
use Rattle.clap.specs.declared.builder.command.Command.{Command}
use Rattle.clap.specs.declared.builder.command.Command.TheViews.{out-Command}

abbrev pub trial : Rule
trial = record (new_rule (codes "trial")) { long = Some (codes "trial"); action = Some SetTrue }

abbrev pub workers : Rule
workers = record (new_rule (codes "workers")) { long = Some (codes "workers") }

abbrev pub number : Rule
number = record (new_rule (codes "number")) { required = true }

-- the subcommands with arguments
abbrev pub running : App
running = with_rule (with_rule (new_app (codes "run")) trial) workers

abbrev pub generating : App
generating = with_rule (new_app (codes "gen")) number

abbrev pub loading : App
loading = with_rule (with_rule (new_app (codes "load")) number) workers

-- no binary name stands before the words, and no help is added
abbrev pub bare : App
bare = record (new_app (codes "rtdb")) {
  top = record (new_app (codes "rtdb")).top { no_binary_name = true; disable_help_flag = true; disable_help_subcommand = true };
}

-- the whole line
abbrev pub rtdb : App
rtdb =
    with_subcommand (with_subcommand (with_subcommand (with_subcommand (with_subcommand (with_subcommand (with_subcommand (with_subcommand bare (new_app (codes "ceilings")).top) (new_app (codes "admit")).top)
    running.top) (new_app (codes "replay")).top) generating.top) loading.top) (new_app (codes "rates")).top) (new_app (codes "margin")).top

-- the command is read as this, and has no global argument
abbrev pub IsLine : App → Command → Type 0
IsLine app c = (app_of c ≡ app) × ((out-Command c).has_globals ≡ false)
