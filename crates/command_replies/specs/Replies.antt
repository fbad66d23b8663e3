-- The status and the text of a command's answer.
use Rattle.std.specs.Prelude.{◌≡◌, ℕ, List, Option, Some, None}
use Rattle.rt_base.specs.declared.name.Names.{Names}
use Rattle.txn_compiler.specs.Refusal.{compile_refusal}
use Rattle.txn_compiler.specs.declared.error.CompileError.{CompileError}
use Rattle.set_admission.specs.Admission.{refusal}
use Rattle.set_admission.specs.declared.error.AdmitError.{AdmitError}
use Rattle.step_script.specs.Shown.{Shown, set_of}
use Rattle.report_text.specs.Texts.{ceilings_of}
use Rattle.run_report.specs.Bounds.{admitted_of}
use Rattle.refusal_lines.specs.Causes.{compile_cause, admit_cause}
use Rattle.run_report.specs.declared.verdict.Verdict.{Verdict}
use Rattle.run_report.specs.Verdict.{IsVerdict, names_of}
use Rattle.io_edge.specs.declared.status.Status.{Status}
use Rattle.io_edge.specs.declared.status.Status.TheVariants as statuses
use Rattle.command_replies.specs.Texts.{refused_line}
use Rattle.command_replies.specs.Verdicts.{verdict_text, status_of}

-- what a status and a text have to be
abbrev pub Reply : Type 1
Reply = Status → List ℕ → Type 0

abbrev pub Written : List ℕ → Reply
Written wanted status text = (status ≡ statuses.Ok) × (text ≡ wanted)

abbrev pub Refused : List ℕ → Reply
Refused cause status text = (status ≡ statuses.Refused) × (text ≡ refused_line cause)

-- the declarations compile, or the line of the first rule that they break
abbrev pub Compiling : Reply → Names → Option CompileError → Reply
Compiling goes names None status text = goes status text
Compiling goes names (Some e) status text = Refused (compile_cause names e) status text

-- the set is admitted, or the line of the first cause why it is not
abbrev pub Admitting : Reply → Names → Option AdmitError → Reply
Admitting goes names None status text = goes status text
Admitting goes names (Some e) status text = Refused (admit_cause names e) status text

-- no reply
abbrev pub Never : Reply
Never status text = ⊥

-- the set of a scenario is refused: it does not compile
abbrev pub IsUncompiled : Shown → Reply
IsUncompiled s = Compiling Never s.names (compile_refusal (set_of s))

-- or it does, and is not admitted
abbrev pub IsRefusal : Shown → Reply
IsRefusal s = Compiling (Admitting Never s.names (refusal (set_of s))) s.names (compile_refusal (set_of s))

abbrev pub CeilingsReply : Shown → Reply
CeilingsReply s = Compiling (Written (ceilings_of s.names (set_of s))) s.names (compile_refusal (set_of s))

abbrev pub AdmitReply : Shown → Reply
AdmitReply s =
    Compiling (Admitting (Written (admitted_of s.names (set_of s))) s.names (refusal (set_of s))) s.names
    (compile_refusal (set_of s))

-- the verdict on a report, and its line
abbrev pub VerdictReply : List ℕ → Reply
VerdictReply input status text = (verdict : Verdict) × (IsVerdict input verdict) × (status ≡ status_of verdict) × (text ≡ verdict_text (names_of input) verdict)
