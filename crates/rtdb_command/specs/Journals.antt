-- What the call for a journal did.
use Rattle.std.specs.Prelude.{◌≡◌, ◌⊎◌, ℕ, Bool, true, false, not, ◌&&◌, ◌==◌, List, [], ◌∷◌, codes, Option, Some, None, ⊤}
use Rattle.std.specs.Str.{bytes_eq}
use Rattle.std.specs.Io.KnownBytes.{Keeps}
use Rattle.step_journal.specs.declared.entry.Entry.{Entry}
use Rattle.law_histories.specs.Sim.{IsSim}
use Rattle.step_script.specs.Shown.{Shown, set_of}
use Rattle.law_runs.specs.Runs.{workload_of}
use Rattle.io_edge.specs.declared.status.Status.{Status}
use Rattle.io_edge.specs.declared.status.Status.TheVariants as statuses
use Rattle.command_replies.specs.Replies.{Reply}
use Rattle.durable_journal.specs.Log.{OpensAs}
use Rattle.scenario_run.specs.Compared.{Begins}
use Rattle.scenario_run.specs.JournalReplies.{JournalReply, HoldsRun, first_eager}
use Rattle.scenario_run.specs.JournalLeft.{IsKept, LeavesSo}
use Rattle.command_replies.specs.Taken.{scenario_limit, TakesAll, TakesNone}
use Rattle.command_replies.specs.Scenarios.{AskedReply, IsReadFrom}
use Rattle.command_replies.specs.Answers.{Judged, Told, CutShort}
use Rattle.rtdb_command.specs.Replies.{usage_text}
use Rattle.rtdb_command.specs.Answers.{IsReadAdmitted, IsWithin}

-- not empty, and without a minus at its beginning
abbrev pub is_path : List ℕ → Bool
is_path [] = false
is_path (b ∷ bs) = not (b == 45)

-- the words are `journal PATH`
abbrev pub is_journal : List (List ℕ) → Bool
is_journal (name ∷ path ∷ []) = bytes_eq name (codes "journal") && is_path path
is_journal _ = false

-- For `journal PATH` the whole input is taken, and for other words nothing.
abbrev pub TakesFor : Bool → Option (List ℕ) → Option (List ℕ) → List ℕ → Type 0
TakesFor true old new input = TakesAll scenario_limit old new input
TakesFor false old new input = TakesNone old new input

-- the reply to an input, by what the disk told
abbrev pub RepliesFor : Bool → Option (List ℕ) → List ℕ → Reply
RepliesFor true told input status text = AskedReply (λ s. JournalReply s told) input status text
RepliesFor false told input status text = (status ≡ statuses.Usage) × (text ≡ usage_text)

abbrev pub IsAnswerFor : Bool → Option (List ℕ) → Option (List ℕ) → Option (List ℕ) → Reply
IsAnswerFor asked told old new = Judged (TakesFor asked old new) (RepliesFor asked told)

-- A status that has a text comes where the whole of it was written. Where the sink failed, a prefix of the text was written;
-- after the other statuses nothing.
abbrev pub JournalAnswersBy : Reply → Option (List ℕ) → Option (List ℕ) → Status → Type 0
JournalAnswersBy answer taken taken' statuses.Ok = Told answer taken taken' statuses.Ok
JournalAnswersBy answer taken taken' statuses.Refused = Told answer taken taken' statuses.Refused
JournalAnswersBy answer taken taken' statuses.Usage = Told answer taken taken' statuses.Usage
JournalAnswersBy answer taken taken' statuses.TooLong = Told answer taken taken' statuses.TooLong
JournalAnswersBy answer taken taken' statuses.NotLegal = Told answer taken taken' statuses.NotLegal
JournalAnswersBy answer taken taken' statuses.BadJournal = Told answer taken taken' statuses.BadJournal
JournalAnswersBy answer taken taken' statuses.WriteFault = CutShort answer taken taken'
JournalAnswersBy answer taken taken' statuses.ReadFault = Keeps taken taken'
JournalAnswersBy answer taken taken' statuses.OutOfMemory = Keeps taken taken'
JournalAnswersBy answer taken taken' statuses.DiskFault = Keeps taken taken'

-- a status with which nothing is written
abbrev pub IsMute : Status → Type 0
IsMute statuses.Ok = ⊥
IsMute statuses.Refused = ⊥
IsMute statuses.Usage = ⊥
IsMute statuses.ReadFault = ⊤
IsMute statuses.WriteFault = ⊥
IsMute statuses.OutOfMemory = ⊤
IsMute statuses.TooLong = ⊥
IsMute statuses.NotLegal = ⊥
IsMute statuses.DiskFault = ⊤
IsMute statuses.BadJournal = ⊥

-- what the call did to a source and a sink, by what the disk told, and the status that it answered
abbrev pub JournalAnswers : Bool → Option (List ℕ) → Option (List ℕ) → Option (List ℕ) → Option (List ℕ) → Option (List ℕ) → Status → Type 0
JournalAnswers asked told old new taken taken' status = JournalAnswersBy (IsAnswerFor asked told old new) taken taken' status

-- a disk that tells holds the run of the scenario that was read
pub record HoldsFrom (old new seen : Option (List ℕ)) (may_leave : List ℕ → Type 0) : Type 0 where
  pub scenario : Shown
  pub read : IsReadFrom old new scenario
  pub holds : HoldsRun scenario seen may_leave

-- What the run of the scenario that was read made of a disk that told this file.
pub record KeptFrom {D : Type 0} (seen : D → Option (List ℕ)) (may_leave : D → List ℕ → Type 0) (moment : D → ℕ) (left_since : D → ℕ → List ℕ → Type 0)
    (left left' : Option (List ℕ)) (file : List ℕ) (old new : D) : Type 0 where
  pub scenario : Shown
  pub read : IsReadFrom left left' scenario
  pub kept : LeavesSo seen may_leave moment left_since (IsKept scenario file) file old new

-- The disk reads as empty, or has the first entries of the run of the scenario.
pub record HasFront (s : Shown) (file : List ℕ) : Type 0 where
  pub history : List Entry
  pub sim : IsSim (workload_of s) history
  pub there : List Entry
  pub begins : Begins there history
  pub has : (file ≡ []) ⊎ OpensAs s.names (set_of s) file there

-- the scenario is read and admitted, has no eager transaction, and the disk is empty or has the first entries of its run
pub record CanJournal (file : List ℕ) (input : List ℕ) : Type 0 where
  pub is_read : IsReadAdmitted input
  pub without_eager : first_eager is_read.is_read.scenario ≡ None
  pub front : HasFront is_read.is_read.scenario file

-- a source and a disk that tell such an input and such a file
abbrev pub CanJournalAll : Option (List ℕ) → Option (List ℕ) → Type 0
CanJournalAll None left = ⊥
CanJournalAll (Some file) left = IsWithin scenario_limit (CanJournal file) left

abbrev pub IsGoodFor : Bool → Option (List ℕ) → Option (List ℕ) → Type 0
IsGoodFor true told left = CanJournalAll told left
IsGoodFor false told left = ⊥
