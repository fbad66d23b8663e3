-- What a call did that writes its text as one piece.
use Rattle.std.specs.Prelude.{ℕ, List, take, Option}
use Rattle.std.specs.Io.KnownBytes.{Keeps, Appends}
use Rattle.io_edge.specs.declared.status.Status.{Status}
use Rattle.io_edge.specs.declared.status.Status.TheVariants as statuses
use Rattle.command_replies.specs.Replies.{Reply}

-- an input that was taken has this status and this text
pub record Judged (Took : List ℕ → Type 0) (IsReply : List ℕ → Reply) (status : Status) (text : List ℕ) : Type 0 where
  pub input : List ℕ
  pub took : Took input
  pub reply : IsReply input status text

-- that status was answered, and the whole text was written
pub record Told (Answer : Reply) (taken taken' : Option (List ℕ)) (status : Status) : Type 0 where
  pub text : List ℕ
  pub is : Answer status text
  pub written : Appends taken taken' text

-- a prefix of the text was written, whatever status it has
pub record CutShort (Answer : Reply) (taken taken' : Option (List ℕ)) : Type 0 where
  pub status : Status
  pub text : List ℕ
  pub is : Answer status text
  pub count : ℕ
  pub written : Appends taken taken' (take count text)

-- by the status that was answered
abbrev pub AnswersBy : Reply → Option (List ℕ) → Option (List ℕ) → Status → Type 0
AnswersBy answer taken taken' statuses.ReadFault = Keeps taken taken'
AnswersBy answer taken taken' statuses.WriteFault = CutShort answer taken taken'
AnswersBy answer taken taken' statuses.OutOfMemory = Keeps taken taken'
AnswersBy answer taken taken' status = Told answer taken taken' status
