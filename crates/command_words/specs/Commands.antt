-- What the words of the command line ask for.
use Rattle.std.specs.Prelude.{ℕ, ◌≤◌, nat_le, ◌&&◌, List, [], ◌∷◌, take, drop, codes, if◌then◌else◌, Option, Some, None, option_map, option_and_then, true, false}
use Rattle.std.specs.Str.{bytes_eq}
use Rattle.line_fields.specs.Numbers.{unsigned_of}
use Rattle.command_words.specs.declared.command.PlainCommand.{PlainCommand}
use Rattle.command_words.specs.declared.command.PlainCommand.TheVariants.{Ceilings, Admit, Replay, Gen, Rates, Margin}
use Rattle.command_words.specs.declared.command.Command.{Command}
use Rattle.command_words.specs.declared.command.Command.TheVariants.{Plain, Run, Load}

abbrev pub Text : Type 0
Text = List ℕ

-- the numbers from 1 to 64 alone
abbrev pub up_to_most : ℕ → Option ℕ
up_to_most n = if nat_le 1 n && nat_le n 64 then Some n else None

-- a number from 1 to 64, in decimal digits without a leading zero
abbrev pub number_of : Text → Option ℕ
number_of word = option_and_then up_to_most (unsigned_of word)

-- What a word after the first may be: `--trial`, `--workers`, `--workers=N`, and `N`, N from 1 to 64.
pub data Part : Type 0 where
  trial : Part
  workers : Part
  workers_are : ℕ → Part
  number : ℕ → Part

-- the word as a number
abbrev pub number_part : Text → Option Part
number_part word = option_map (λ n. number n) (number_of word)

-- as `--workers=N`, or as a number
abbrev pub workers_part : Text → Option Part
workers_part word =
    if bytes_eq (take 10 word) (codes "--workers=") then option_map (λ n. workers_are n) (number_of (drop 10 word)) else number_part word

-- as `--workers`, or as one of these
abbrev pub option_part : Text → Option Part
option_part word = if bytes_eq word (codes "--workers") then Some workers else workers_part word

-- the part that the word is, if any
abbrev pub part_of : Text → Option Part
part_of word = if bytes_eq word (codes "--trial") then Some trial else option_part word

-- the parts, where each word is one
abbrev pub parts_of : List Text → Option (List Part)
parts_of [] = Some []
parts_of (word ∷ words) = option_and_then (λ part. option_map (λ parts. part ∷ parts) (parts_of words)) (part_of word)

-- after `run`: `--trial` and the number of workers, each at most once, in any order
abbrev pub run_of : List Part → Option Command
run_of [] = Some (Run false 1)
run_of (trial ∷ []) = Some (Run true 1)
run_of (workers_are n ∷ []) = Some (Run false n)
run_of (workers ∷ number n ∷ []) = Some (Run false n)
run_of (trial ∷ workers_are n ∷ []) = Some (Run true n)
run_of (workers_are n ∷ trial ∷ []) = Some (Run true n)
run_of (trial ∷ workers ∷ number n ∷ []) = Some (Run true n)
run_of (workers ∷ number n ∷ trial ∷ []) = Some (Run true n)
run_of _ = None

-- after `load`: how many transactions, and then the number of workers at most once
abbrev pub load_of : List Part → Option Command
load_of (number n ∷ []) = Some (Load n 1)
load_of (number n ∷ workers_are k ∷ []) = Some (Load n k)
load_of (number n ∷ workers ∷ number k ∷ []) = Some (Load n k)
load_of _ = None

-- after `gen`: how many transactions
abbrev pub gen_of : List Part → Option Command
gen_of (number n ∷ []) = Some (Plain (Gen n))
gen_of _ = None

-- nothing more
abbrev pub alone : PlainCommand → List Part → Option Command
alone command [] = Some (Plain command)
alone command _ = None

-- by the first word
abbrev pub named : Text → List Part → Option Command
named name parts =
    if bytes_eq name (codes "ceilings") then alone Ceilings parts
    else (if bytes_eq name (codes "admit") then alone Admit parts
    else (if bytes_eq name (codes "run") then run_of parts
    else (if bytes_eq name (codes "replay") then alone Replay parts
    else (if bytes_eq name (codes "gen") then gen_of parts
    else (if bytes_eq name (codes "load") then load_of parts
    else (if bytes_eq name (codes "rates") then alone Rates parts
    else (if bytes_eq name (codes "margin") then alone Margin parts
    else None)))))))

-- The command of the words; None where they are none's.
abbrev pub command_of : List Text → Option Command
command_of [] = None
command_of (name ∷ words) = option_and_then (named name) (parts_of words)

abbrev IsFromOneToMost : ℕ → Type 0
IsFromOneToMost n = (1 ≤ n) × (n ≤ 64)

-- each number in it is from 1 to 64
abbrev pub IsInRange : Command → Type 0
IsInRange (Plain Ceilings) = Unit {0}
IsInRange (Plain Admit) = Unit {0}
IsInRange (Plain Replay) = Unit {0}
IsInRange (Plain (Gen n)) = IsFromOneToMost n
IsInRange (Plain Rates) = Unit {0}
IsInRange (Plain Margin) = Unit {0}
IsInRange (Run on_trial k) = IsFromOneToMost k
IsInRange (Load n k) = IsFromOneToMost n × IsFromOneToMost k
