-- What was said of a legal report is the answer.
use Rattle.std.proofs.Common.{◌≡◌, ℕ, Bool, true, nat_lt, List, length, Option, Some, sym, ap, subst}
use Rattle.run_report.specs.declared.judged.LegalReport.{LegalReport}
use Rattle.io_edge.specs.declared.status.Status.{Status}
use Rattle.io_edge.specs.declared.status.Status.TheVariants as statuses
use Rattle.command_replies.specs.Replies.{Reply}
use Rattle.command_replies.specs.Taken.{report_limit, TakesAll, InputReply}
use Rattle.command_replies.specs.Reports.{is_ok, LegalOr, ReportReply, IsReportFrom}
use Rattle.command_replies.specs.Answers.{Judged}
use Rattle.command_replies.proofs.Plain.{is_told, input}
use Rattle.tool_command.specs.declared.command.ToolCommand.{ToolCommand}
use Rattle.tool_command.specs.Answers.{limit_of, Goes, IsAnswer}
use Rattle.tool_command.proofs.Due.{plain}

-- no answer tells of a fault or of want of memory
pub answer_told : (command : ToolCommand) (old new : Option (List ℕ)) (status : Status) (text : List ℕ) → IsAnswer (Some command) old new status text → is_told status ≡ true
answer_told command old new status text a = (input (Goes command a.input) (nat_lt (limit_of command) (length a.input)) (plain command a.input)).told status text a.reply

pub from_report : (goes : LegalReport → Reply) (old new : Option (List ℕ)) (r : LegalReport) (status : Status) (text : List ℕ) → IsReportFrom old new r
    → goes r status text → status ≡ statuses.Ok
    → Judged (TakesAll report_limit old new) (λ input. InputReply (ReportReply goes input) (nat_lt report_limit (length input))) status text
from_report goes old new r status text from h ok = record {
  input = from.input;
  took = from.took;
  reply = subst (λ (b : Bool). InputReply (ReportReply goes from.input) b status text) (sym from.short)
      (subst (λ (b : Bool). LegalOr goes from.input b status text) (sym (ap is_ok ok)) (record { report = r; is = from.legal; reply = h }));
}
