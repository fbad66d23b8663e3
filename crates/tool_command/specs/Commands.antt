-- What the words of the command line ask for.
use Rattle.std.specs.Prelude.{ℕ, ◌&&◌, Bool, false, true, List, [], ◌∷◌, codes, if◌then◌else◌, Option, Some, None}
use Rattle.std.specs.Str.{bytes_eq}
use Rattle.tool_command.specs.declared.command.ToolCommand.{ToolCommand}
use Rattle.tool_command.specs.declared.command.ToolCommand.TheVariants.{Slack, Priorities, Summary, Json, Table, Check}

abbrev pub Text : Type 0
Text = List ℕ

-- the command of this name, and whether it is for a trial
abbrev pub named : Text → Bool → Option ToolCommand
named name trial =
    if bytes_eq name (codes "slack") then Some Slack
    else (if bytes_eq name (codes "priorities") then Some Priorities
    else (if bytes_eq name (codes "summary") then Some Summary
    else (if bytes_eq name (codes "json") then Some Json
    else (if bytes_eq name (codes "table") then Some Table
    else (if bytes_eq name (codes "check") then Some (Check trial)
    else None)))))

-- The command of the words: its name, and `--trial` after `check`; None if they are none's.
abbrev pub command_of : List Text → Option ToolCommand
command_of (name ∷ []) = named name false
command_of (name ∷ option ∷ []) = if bytes_eq name (codes "check") && bytes_eq option (codes "--trial") then Some (Check true) else None
command_of words = None
