-- What the program answers, and what it does to its source and its sink.
use Rattle.std.specs.Prelude.{ℕ, ◌≡◌, ◌≤◌, Bool, true, false, nat_lt, List, length, take, codes, Option, Some, None}
use Rattle.std.specs.Io.KnownBytes.{Consumes, IsAtEnd, Keeps, Appends}
use Rattle.rt_base.specs.declared.name.Names.{Names}
use Rattle.txn_set.specs.Set.{Set}
use Rattle.step_journal.specs.declared.entry.Entry.{Entry}
use Rattle.step_journal.specs.History.{state_of}
use Rattle.item_model.specs.declared.stored.Stored.{Stored}
use Rattle.job_rows.specs.declared.row.JobRow.{JobRow}
use Rattle.job_rows.specs.Rows.{job_rows}
use Rattle.report_text.specs.IsHead.{set_of}
use Rattle.report_text.specs.declared.document.Document.{Document}
use Rattle.run_report.specs.declared.verdict.Verdict.{Verdict}
use Rattle.run_report.specs.Verdict.{Tells, report_for, IsVerdict}
use Rattle.io_edge.specs.declared.status.Status.{Status}
use Rattle.io_edge.specs.declared.status.Status.TheVariants as statuses
use Rattle.command_replies.specs.Texts.{refused_line}
use Rattle.command_replies.specs.Replies.{Reply, VerdictReply}
use Rattle.command_replies.specs.Verdicts.{status_of}
use Rattle.schedule_marks.specs.declared.part.Part.{Part}
use Rattle.schedule_marks.specs.declared.showing.Limits.{Limits}
use Rattle.schedule_marks.specs.declared.showing.Shown.{Shown}
use Rattle.schedule_marks.specs.Shown.{shown_of}
use Rattle.picture_text.specs.Texts.{text_of}
use Rattle.picture_command.specs.Page.{page_text}
use Rattle.picture_command.specs.declared.wanted.Wanted.{Wanted}
use Rattle.picture_command.specs.Parts.{part_of}
use Rattle.picture_command.specs.Limits.{limits_of}

-- a page, or a picture alone
abbrev pub drawing : Names → Set → Limits → List JobRow → List Stored → Part → Shown → Bool → List ℕ
drawing names set limits rows items part shown true = page_text names set part limits rows items shown
drawing names set limits rows items part shown false = text_of names set part limits shown

-- that of a part of a history: from the rows of its jobs, its last items, and what is shown of the part
abbrev pub drawing_of : Names → Set → Limits → List Entry → Part → Bool → List ℕ
drawing_of names set limits entries part page =
    drawing names set limits (job_rows set entries) (state_of set entries).items part
    (shown_of set part limits (job_rows set entries) entries) page

abbrev pub picture_of : Names → Set → Limits → List Entry → Wanted → List ℕ
picture_of names set limits entries wanted = drawing_of names set limits entries (part_of wanted.ticks entries) wanted.page

-- the picture of a document, with the bounds of its set, unless it is of a trial
abbrev pub picture_in : Document → Wanted → List ℕ
picture_in d wanted = picture_of d.head.names (set_of d.head) (limits_of (set_of d.head) d.head.admitted) d.entries wanted

-- the input is a legal report, and the text is its picture
pub record Draws (wanted : Wanted) (input text : List ℕ) : Type 0 where
  pub document : Document
  pub tells : Tells input document
  pub legal : input ≡ report_for document
  pub picture : text ≡ picture_in document wanted

abbrev pub is_ok : Status → Bool
is_ok statuses.Ok = true
is_ok statuses.Refused = false
is_ok statuses.Usage = false
is_ok statuses.ReadFault = false
is_ok statuses.WriteFault = false
is_ok statuses.OutOfMemory = false
is_ok statuses.TooLong = false
is_ok statuses.NotLegal = false
is_ok statuses.DiskFault = false
is_ok statuses.BadJournal = false

-- the picture of a legal report; of any other input the verdict's line
abbrev pub DrawnReply : Bool → Wanted → List ℕ → Reply
DrawnReply true wanted input status text = Draws wanted input text
DrawnReply false wanted input status text = VerdictReply input status text

abbrev pub PictureReply : Wanted → List ℕ → Reply
PictureReply wanted input status text = DrawnReply (is_ok status) wanted input status text

-- the most bytes of a report
abbrev pub report_limit : ℕ
report_limit = 268435456

-- an input above the limit is refused unread
abbrev pub InputReply : Reply → Bool → Reply
InputReply goes true status text = (status ≡ statuses.TooLong) × (text ≡ refused_line (codes "TooLong"))
InputReply goes false status text = goes status text

abbrev pub usage_text : List ℕ
usage_text = codes "usage: rtdb-picture [--page] [--from TICK --to TICK]\n"

-- all there is was taken, or more than the limit
abbrev pub TakesAll : Option (List ℕ) → Option (List ℕ) → List ℕ → Type 0
TakesAll old new input = Consumes old new input × (length input ≤ report_limit → IsAtEnd new)

-- an input was taken, and it has this status and this text
pub record Judged (wanted : Wanted) (old new : Option (List ℕ)) (status : Status) (text : List ℕ) : Type 0 where
  pub input : List ℕ
  pub took : TakesAll old new input
  pub reply : InputReply (PictureReply wanted input) (nat_lt report_limit (length input)) status text

-- without a wanted part nothing is read
abbrev pub IsAnswer : Option Wanted → Option (List ℕ) → Option (List ℕ) → Reply
IsAnswer None old new status text = Keeps old new × (status ≡ statuses.Usage) × (text ≡ usage_text)
IsAnswer (Some wanted) old new status text = Judged wanted old new status text

-- that status was answered, and the whole text was written
pub record Told (Answer : Reply) (taken taken' : Option (List ℕ)) (status : Status) : Type 0 where
  pub text : List ℕ
  pub is : Answer status text
  pub written : Appends taken taken' text

-- a prefix of the text was written, whatever status it has
pub record CutShort (Answer : Reply) (taken taken' : Option (List ℕ)) : Type 0 where
  pub status : Status
  pub text : List ℕ
  pub is : Answer status text
  pub count : ℕ
  pub written : Appends taken taken' (take count text)

abbrev pub AnswersBy : Reply → Option (List ℕ) → Option (List ℕ) → Status → Type 0
AnswersBy answer taken taken' statuses.Ok = Told answer taken taken' statuses.Ok
AnswersBy answer taken taken' statuses.Refused = Told answer taken taken' statuses.Refused
AnswersBy answer taken taken' statuses.Usage = Told answer taken taken' statuses.Usage
AnswersBy answer taken taken' statuses.ReadFault = Keeps taken taken'
AnswersBy answer taken taken' statuses.WriteFault = CutShort answer taken taken'
AnswersBy answer taken taken' statuses.OutOfMemory = Keeps taken taken'
AnswersBy answer taken taken' statuses.TooLong = Told answer taken taken' statuses.TooLong
AnswersBy answer taken taken' statuses.NotLegal = Told answer taken taken' statuses.NotLegal
AnswersBy answer taken taken' statuses.DiskFault = Told answer taken taken' statuses.DiskFault
AnswersBy answer taken taken' statuses.BadJournal = Told answer taken taken' statuses.BadJournal

-- what was done to a source and a sink, and the status that was answered
abbrev pub Answers : Option Wanted → Option (List ℕ) → Option (List ℕ) → Option (List ℕ) → Option (List ℕ) → Status → Type 0
Answers wanted old new taken taken' status = AnswersBy (IsAnswer wanted old new) taken taken' status

-- ---- which status is due, where no call fails and memory does not run out

-- that of the verdict, or TooLong of an input above the limit
abbrev pub IsDueFor : List ℕ → Bool → Status → Type 0
IsDueFor input true status = status ≡ statuses.TooLong
IsDueFor input false status = (verdict : Verdict) × IsVerdict input verdict × (status ≡ status_of verdict)

-- Usage without a wanted part; else that of the input which the source tells, if it tells one
abbrev pub IsDue : Option Wanted → Option (List ℕ) → Status → Type 0
IsDue None told status = status ≡ statuses.Usage
IsDue (Some wanted) None status = ⊥
IsDue (Some wanted) (Some input) status = IsDueFor input (nat_lt report_limit (length input)) status
