-- The answer to the bytes of a report: what a command says of a legal one, or the verdict's line.
use Rattle.std.specs.Prelude.{◌≡◌, ℕ, Bool, true, false, List, length, nat_lt, Option}
use Rattle.run_report.specs.declared.judged.LegalReport.{LegalReport}
use Rattle.run_report.specs.Judged.{IsLegalReport}
use Rattle.io_edge.specs.declared.status.Status.{Status}
use Rattle.io_edge.specs.declared.status.Status.TheVariants as statuses
use Rattle.command_replies.specs.Replies.{Reply, VerdictReply}
use Rattle.command_replies.specs.Taken.{report_limit, TakesAll, InputReply}

-- the input is a legal report, and this is said of it
pub record Says (goes : LegalReport → Reply) (input : List ℕ) (status : Status) (text : List ℕ) : Type 0 where
  pub report : LegalReport
  pub is : IsLegalReport input report
  pub reply : goes report status text

-- whether a verdict with this status is that the report is legal
abbrev pub is_ok : Status → Bool
is_ok statuses.Ok = true
is_ok status = false

abbrev pub LegalOr : (LegalReport → Reply) → List ℕ → Bool → Reply
LegalOr goes input true status text = Says goes input status text
LegalOr goes input false status text = VerdictReply input status text

-- what is said of a legal report with the status Ok, or the verdict's line
abbrev pub ReportReply : (LegalReport → Reply) → List ℕ → Reply
ReportReply goes input status text = LegalOr goes input (is_ok status) status text

-- a command that writes of each legal report with the status Ok
abbrev pub ToldReply : (LegalReport → Reply) → List ℕ → Reply
ToldReply goes input = InputReply (ReportReply goes input) (nat_lt report_limit (length input))

-- the legal report that was taken
pub record IsReportFrom (old new : Option (List ℕ)) (r : LegalReport) : Type 0 where
  pub input : List ℕ
  pub took : TakesAll report_limit old new input
  pub short : nat_lt report_limit (length input) ≡ false
  pub legal : IsLegalReport input r

-- the verdict on what was taken, which is no legal report
pub record IsNotLegal (input : List ℕ) (status : Status) (text : List ℕ) : Type 0 where
  pub other : is_ok status ≡ false
  pub verdict : VerdictReply input status text

-- why no legal report was read of the input that was taken
pub record IsNoneFrom (old new : Option (List ℕ)) (status : Status) (text : List ℕ) : Type 0 where
  pub input : List ℕ
  pub took : TakesAll report_limit old new input
  pub reply : InputReply (IsNotLegal input) (nat_lt report_limit (length input)) status text
