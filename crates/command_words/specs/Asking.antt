-- What is looked at before clap is asked, and what clap's answer says.
use Rattle.std.specs.Prelude.{ℕ, ◌&&◌, ◌||◌, ◌==◌, List, [], ◌∷◌, is_some, codes, if◌then◌else◌, Option, Some, None, option_map, option_and_then, Bool, false, not}
use Rattle.std.specs.List.{list_all}
use Rattle.std.specs.Option.{option_map_or}
use Rattle.std.specs.Str.{bytes_eq}
use Rattle.clap.specs.Words.{Row, first_of}
use Rattle.command_words.specs.declared.command.Command.{Command}
use Rattle.command_words.specs.declared.command.PlainCommand.TheVariants.{Ceilings, Admit, Replay, Gen, Rates, Margin}
use Rattle.command_words.specs.declared.command.Command.TheVariants.{Plain, Run, Load}
use Rattle.command_words.specs.Commands.{Text, part_of, number_of}

-- the word is not empty, and does not begin with a minus
abbrev pub is_name : Text → Bool
is_name [] = false
is_name (b ∷ bs) = not (b == 45)

abbrev pub is_part : Text → Bool
is_part word = is_some (part_of word)

abbrev pub begins_with_number : List Text → Bool
begins_with_number [] = false
begins_with_number (word ∷ words) = is_some (number_of word)

-- `gen` and `load`
abbrev pub wants_number : Text → Bool
wants_number name = bytes_eq name (codes "gen") || bytes_eq name (codes "load")

-- Clap is asked about the words; else they are no command's.
abbrev pub is_askable : List Text → Bool
is_askable [] = false
is_askable (name ∷ words) =
    is_name name && (list_all is_part words && (not (wants_number name) || begins_with_number words))

-- what clap's rows say of a flag
abbrev pub is_true : Option Text → Bool
is_true text = option_map_or (λ t. bytes_eq t (codes "true")) text false

-- how many workers the rows of a subcommand say
abbrev pub workers_in : List Row → Option ℕ
workers_in rows = option_map_or number_of (first_of (codes "workers") rows) (Some 1)

abbrev pub number_in : List Row → Option ℕ
number_in rows = option_and_then number_of (first_of (codes "number") rows)

abbrev pub run_by : Bool → ℕ → Command
run_by on_trial k = Run on_trial k

abbrev pub load_by : ℕ → ℕ → Command
load_by n k = Load n k

abbrev pub generate : ℕ → Command
generate n = Plain (Gen n)

-- the command of the subcommand of this name, with these rows
abbrev pub said_of : Text → List Row → Option Command
said_of name rows =
    if bytes_eq name (codes "ceilings") then Some (Plain Ceilings)
    else (if bytes_eq name (codes "admit") then Some (Plain Admit)
    else (if bytes_eq name (codes "run") then option_map (run_by (is_true (first_of (codes "trial") rows))) (workers_in rows)
    else (if bytes_eq name (codes "replay") then Some (Plain Replay)
    else (if bytes_eq name (codes "gen") then option_map generate (number_in rows)
    else (if bytes_eq name (codes "load") then option_and_then (λ n. option_map (load_by n) (workers_in rows)) (number_in rows)
    else (if bytes_eq name (codes "rates") then Some (Plain Rates)
    else (if bytes_eq name (codes "margin") then Some (Plain Margin)
    else None)))))))

abbrev pub said : Option (Text × List Row) → Option Command
said subcommand = option_and_then (λ p. said_of p.0 p.1) subcommand
