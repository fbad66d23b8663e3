-- What `replay` answers to the text of a run.
use Rattle.std.specs.Prelude.{◌≡◌, ℕ, List, Bool, Some, codes}
use Rattle.step_script.specs.Shown.{Shown}
use Rattle.step_script.specs.Scenarios.{IsScenario}
use Rattle.scenario_writer.specs.Integers.{HasIntegers}
use Rattle.command_words.specs.declared.command.Command.TheVariants.{Plain, Run}
use Rattle.command_words.specs.declared.command.PlainCommand.TheVariants.{Replay}
use Rattle.io_edge.specs.declared.status.Status.{Status}
use Rattle.io_edge.specs.declared.status.Status.TheVariants as statuses
use Rattle.command_replies.specs.Replies.{Reply}
use Rattle.scenario_run.specs.Replies.{RunText}
use Rattle.rtdb_command.specs.Replies.{JudgedReply, Replies}

-- the answer is status 0 with the line `legal`, and there is no other
pub record IsLegalReply (IsReply : Reply) : Type 0 where
  pub is : IsReply statuses.Ok (codes "legal\n")
  pub only : (status : Status) (text : List ℕ) → IsReply status text → (status ≡ statuses.Ok) × (text ≡ codes "legal\n")

-- So is the text of each run of a scenario judged, as a trial or admitted, the limit of a report included, where the
-- scenario's initial values, samples and constants are of 64 bits.
abbrev pub RunTextsAreLegal : Type 0
RunTextsAreLegal =
    (s : Shown) (trial : Bool) (text : List ℕ) → IsScenario s → HasIntegers s → RunText trial s text
    → IsLegalReply (JudgedReply text)

-- And so does `replay` answer what `run` wrote of an input, whatever the input and the number of workers.
abbrev pub RunsAreLegal : Type 0
RunsAreLegal =
    (trial : Bool) (workers : ℕ) (input text : List ℕ) → Replies (Some (Run trial workers)) input statuses.Ok text
    → IsLegalReply (Replies (Some (Plain Replay)) text)
