-- The line of a verdict, and its status.
use Rattle.std.specs.Prelude.{ℕ, List, ◌++◌, codes}
use Rattle.std.specs.Fmt.{decimal}
use Rattle.rt_base.specs.declared.name.Names.{Names}
use Rattle.run_report.specs.declared.verdict.Verdict.{Verdict}
use Rattle.run_report.specs.declared.verdict.Verdict.TheVariants.{Legal, BadLine, Unfinished, BadSet, NotALegalStep, WrongLine, WrongItem}
use Rattle.run_report.specs.declared.verdict.SetError.{SetError}
use Rattle.run_report.specs.declared.verdict.SetError.TheVariants.{Compile, Admit}
use Rattle.refusal_lines.specs.Causes.{compile_cause, admit_cause}
use Rattle.io_edge.specs.declared.status.Status.{Status}
use Rattle.io_edge.specs.declared.status.Status.TheVariants as statuses

abbrev pub set_cause : Names → SetError → List ℕ
set_cause names (Compile e) = compile_cause names e
set_cause names (Admit e) = admit_cause names e

abbrev pub verdict_words : Names → Verdict → List ℕ
verdict_words names Legal = codes "legal"
verdict_words names (BadLine n) = codes "bad line " ++ decimal n
verdict_words names Unfinished = codes "unfinished"
verdict_words names (BadSet error) = codes "bad set " ++ set_cause names error
verdict_words names (NotALegalStep n) = codes "illegal step at line " ++ decimal n
verdict_words names (WrongLine n) = codes "wrong line " ++ decimal n
verdict_words names (WrongItem item) = codes "wrong item " ++ item

abbrev pub verdict_text : Names → Verdict → List ℕ
verdict_text names verdict = verdict_words names verdict ++ codes "\n"

abbrev pub status_of : Verdict → Status
status_of Legal = statuses.Ok
status_of verdict = statuses.NotLegal
