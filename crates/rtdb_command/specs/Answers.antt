-- What the top call did.
use Rattle.std.specs.Prelude.{◌≡◌, ◌⊎◌, ℕ, ◌≤◌, Bool, true, false, List, length, Option, Some, None, Ok}
use Rattle.std.specs.Option.{option_and_then}
use Rattle.std.specs.Io.KnownBytes.{Keeps}
use Rattle.txn_compiler.specs.Refusal.{compile_refusal}
use Rattle.set_admission.specs.Admission.{refusal}
use Rattle.update_rates.specs.Refusal.{rate_refusal}
use Rattle.step_script.specs.Shown.{Shown, set_of}
use Rattle.scenario_reader.specs.Reading.{data_of, scenario_in}
use Rattle.run_report.specs.declared.verdict.Verdict.TheVariants as verdicts
use Rattle.run_report.specs.Verdict.{IsVerdict}
use Rattle.command_words.specs.declared.command.Command.{Command}
use Rattle.command_words.specs.declared.command.Command.TheVariants.{Plain, Run, Load}
use Rattle.command_words.specs.declared.command.PlainCommand.TheVariants.{Ceilings, Admit, Replay, Gen, Rates, Margin}
use Rattle.command_words.specs.Commands.{command_of}
use Rattle.io_edge.specs.declared.status.Status.{Status}
use Rattle.io_edge.specs.declared.status.Status.TheVariants as statuses
use Rattle.command_replies.specs.Replies.{Reply}
use Rattle.command_replies.specs.Taken.{scenario_limit, report_limit, TakesAll, TakesNone}
use Rattle.command_replies.specs.Answers.{Judged, Told, CutShort}
use Rattle.rtdb_command.specs.Replies.{Replies}

-- the commands that `rtdb_plain` takes
abbrev pub if_plain : Command → Option Command
if_plain (Plain command) = Some (Plain command)
if_plain (Run trial workers) = None
if_plain (Load n workers) = None

abbrev pub plain_command_of : List (List ℕ) → Option Command
plain_command_of words = option_and_then if_plain (command_of words)

-- The input that a command takes. Without a command, to generate and to load, nothing is taken.
abbrev pub Takes : Option Command → Option (List ℕ) → Option (List ℕ) → List ℕ → Type 0
Takes None old new input = TakesNone old new input
Takes (Some (Plain Ceilings)) old new input = TakesAll scenario_limit old new input
Takes (Some (Plain Admit)) old new input = TakesAll scenario_limit old new input
Takes (Some (Plain Replay)) old new input = TakesAll report_limit old new input
Takes (Some (Plain (Gen n))) old new input = TakesNone old new input
Takes (Some (Plain Rates)) old new input = TakesAll scenario_limit old new input
Takes (Some (Plain Margin)) old new input = TakesAll scenario_limit old new input
Takes (Some (Run trial workers)) old new input = TakesAll scenario_limit old new input
Takes (Some (Load n workers)) old new input = TakesNone old new input

-- whether nothing is taken, whatever the status is
abbrev pub TakesNoInput : Option Command → Type 0
TakesNoInput None = Unit {0}
TakesNoInput (Some (Plain Ceilings)) = ⊥
TakesNoInput (Some (Plain Admit)) = ⊥
TakesNoInput (Some (Plain Replay)) = ⊥
TakesNoInput (Some (Plain (Gen n))) = Unit {0}
TakesNoInput (Some (Plain Rates)) = ⊥
TakesNoInput (Some (Plain Margin)) = ⊥
TakesNoInput (Some (Run trial workers)) = ⊥
TakesNoInput (Some (Load n workers)) = Unit {0}

abbrev pub IsAnswer : Option Command → Option (List ℕ) → Option (List ℕ) → Reply
IsAnswer command old new = Judged (Takes command old new) (Replies command)

-- Memory ran out. Only a run may have written by then, a prefix of its text.
abbrev pub RanOut : Option Command → Reply → Option (List ℕ) → Option (List ℕ) → Type 0
RanOut None answer taken taken' = Keeps taken taken'
RanOut (Some (Plain command)) answer taken taken' = Keeps taken taken'
RanOut (Some (Run trial workers)) answer taken taken' = Keeps taken taken' ⊎ CutShort answer taken taken'
RanOut (Some (Load n workers)) answer taken taken' = Keeps taken taken'

abbrev pub AnswersBy : Option Command → Reply → Option (List ℕ) → Option (List ℕ) → Status → Type 0
AnswersBy command answer taken taken' statuses.Ok = Told answer taken taken' statuses.Ok
AnswersBy command answer taken taken' statuses.Refused = Told answer taken taken' statuses.Refused
AnswersBy command answer taken taken' statuses.Usage = Told answer taken taken' statuses.Usage
AnswersBy command answer taken taken' statuses.TooLong = Told answer taken taken' statuses.TooLong
AnswersBy command answer taken taken' statuses.WriteFault = CutShort answer taken taken'
AnswersBy command answer taken taken' statuses.ReadFault = Keeps taken taken'
AnswersBy command answer taken taken' statuses.OutOfMemory = RanOut command answer taken taken'
AnswersBy command answer taken taken' statuses.NotLegal = Told answer taken taken' statuses.NotLegal
AnswersBy command answer taken taken' statuses.DiskFault = Told answer taken taken' statuses.DiskFault
AnswersBy command answer taken taken' statuses.BadJournal = Told answer taken taken' statuses.BadJournal

-- what a command did to a source and a sink, and the status that it answered
abbrev pub Answers : Option Command → Option (List ℕ) → Option (List ℕ) → Option (List ℕ) → Option (List ℕ) → Status → Type 0
Answers command old new taken taken' status = AnswersBy command (IsAnswer command old new) taken taken' status

-- the scenario is read
pub record IsRead (input : List ℕ) : Type 0 where
  pub scenario : Shown
  pub read : scenario_in (data_of input) ≡ Ok scenario
  pub compiles : compile_refusal (set_of scenario) ≡ None

-- the scenario is read, and its declarations have rates
pub record IsReadRated (input : List ℕ) : Type 0 where
  pub scenario : Shown
  pub read : scenario_in (data_of input) ≡ Ok scenario
  pub rated : rate_refusal (set_of scenario) ≡ None

-- besides, its set is admitted
pub record IsReadAdmitted (input : List ℕ) : Type 0 where
  pub is_read : IsRead input
  pub admitted : refusal (set_of is_read.scenario) ≡ None

abbrev pub CanRun : Bool → List ℕ → Type 0
CanRun true input = IsRead input
CanRun false input = IsReadAdmitted input

abbrev pub IsWithin : ℕ → (List ℕ → Type 0) → Option (List ℕ) → Type 0
IsWithin limit holds None = ⊥
IsWithin limit holds (Some input) = (length input ≤ limit) × holds input

-- A source that tells an input for which the command has a text: a scenario that is read and compiles, and is admitted
-- where the command admits it, or has rates for `rates`; a legal report. To generate and to load nothing is read.
abbrev pub IsGood : Option Command → Option (List ℕ) → Type 0
IsGood None told = ⊥
IsGood (Some (Plain Ceilings)) told = IsWithin scenario_limit IsRead told
IsGood (Some (Plain Admit)) told = IsWithin scenario_limit IsReadAdmitted told
IsGood (Some (Plain Replay)) told = IsWithin report_limit (λ input. IsVerdict input verdicts.Legal) told
IsGood (Some (Plain (Gen n))) told = Unit {0}
IsGood (Some (Plain Rates)) told = IsWithin scenario_limit IsReadRated told
IsGood (Some (Plain Margin)) told = IsWithin scenario_limit IsRead told
IsGood (Some (Run trial workers)) told = IsWithin scenario_limit (CanRun trial) told
IsGood (Some (Load n workers)) told = Unit {0}
