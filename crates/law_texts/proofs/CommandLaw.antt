-- The text of a run is a legal report that is read whole.
use Rattle.std.proofs.Common.{◌≡◌, ℕ, ◌≤◌, ◌^◌, Bool, true, false, List, length, Option, Some, None, Result, Ok, Err, refl, sym, ap, ◌∙◌, subst, arith, codes}
use Rattle.std.specs.Prelude.{not, nat_lt}
use Rattle.std.proofs.lemmas.Bool.{le-ltb}
use Rattle.rt_base.specs.declared.name.Names.{Names}
use Rattle.txn_set.specs.Set.{IsCompiled}
use Rattle.txn_compiler.specs.declared.error.CompileError.{CompileError}
use Rattle.txn_compiler.specs.Kept.{AreLists}
use Rattle.txn_compiler.specs.Refusal.{compile_refusal}
use Rattle.txn_compiler.specs.Laws.{CompiledUnlessRefused}
use Rattle.law_times.specs.Ages.{IsAdmitted}
use Rattle.set_admission.specs.declared.error.AdmitError.{AdmitError}
use Rattle.set_admission.specs.Admission.{refusal}
use Rattle.set_admission.specs.Laws.{AdmittedUnlessRefused}
use Rattle.step_script.specs.Shown.{Shown, set_of}
use Rattle.scenario_reader.specs.declared.error.ScenarioError.{ScenarioError}
use Rattle.scenario_reader.specs.Reading.{data_of, scenario_in}
use Rattle.law_texts.specs.Texts.{ReadIsScenario, ReadHasIntegers}
use Rattle.run_report.specs.declared.verdict.Verdict.{Verdict}
use Rattle.run_report.specs.declared.verdict.Verdict.TheVariants.{Legal}
use Rattle.run_report.specs.Verdict.{IsVerdict, names_of}
use Rattle.run_report.specs.Laws.{OneVerdict}
use Rattle.law_texts.specs.ReportLaws.{RunReportIsLegal}
use Rattle.law_texts.specs.RunLaws.{RunIsReadWhole}
use Rattle.io_edge.specs.declared.status.Status.{Status}
use Rattle.io_edge.specs.declared.status.Status.TheVariants as statuses
use Rattle.command_replies.specs.Replies.{Reply, Compiling, Admitting, VerdictReply}
use Rattle.command_replies.specs.Verdicts.{status_of, verdict_text}
use Rattle.scenario_run.specs.Runs.{IsRunText}
use Rattle.scenario_run.specs.Replies.{Ran, RunReply, RunText}
use Rattle.command_replies.specs.Taken.{scenario_limit, report_limit, InputReply}
use Rattle.command_replies.specs.Scenarios.{Reading, DataReply, names_in}
use Rattle.rtdb_command.specs.Replies.{JudgedReply}
use Rattle.law_texts.specs.CommandLaws.{IsLegalReply, RunTextsAreLegal, RunsAreLegal}

-- ---- what status 0 tells

compiles : (goes : Reply) (names : Names) (o : Option CompileError) (text : List ℕ) → Compiling goes names o statuses.Ok text
    → (o ≡ None) × goes statuses.Ok text
compiles goes names None text h = (refl, h)
compiles goes names (Some e) text h = let no : statuses.Ok ≡ statuses.Refused = h.0 in absurd cc

admits : (goes : Reply) (names : Names) (o : Option AdmitError) (text : List ℕ) → Admitting goes names o statuses.Ok text
    → (o ≡ None) × goes statuses.Ok text
admits goes names None text h = (refl, h)
admits goes names (Some e) text h = let no : statuses.Ok ≡ statuses.Refused = h.0 in absurd cc

-- the set compiles, it is admitted unless the run is a trial, and the text is one of a run
record HasRun (trial : Bool) (s : Shown) (text : List ℕ) : Type 0 where
  pub compiles : compile_refusal (set_of s) ≡ None
  pub admitted : not trial ≡ true → refusal (set_of s) ≡ None
  pub run : IsRunText trial s text

has_run : (trial : Bool) (s : Shown) (text : List ℕ) → RunText trial s text → HasRun trial s text
has_run true s text h =
    let c = compiles (Ran true s) s.names (compile_refusal (set_of s)) text h in
    record { compiles = c.0; admitted = λ no. absurd cc; run = c.1.1 }
has_run false s text h =
    let c = compiles (Admitting (Ran false s) s.names (refusal (set_of s))) s.names (compile_refusal (set_of s)) text h in
    let a = admits (Ran false s) s.names (refusal (set_of s)) text c.1 in
    record { compiles = c.0; admitted = λ yes. a.0; run = a.1.1 }

-- a scenario was read of the input
record WasRead (goes : Shown → Reply) (input text : List ℕ) : Type 0 where
  pub scenario : Shown
  pub read : scenario_in (data_of input) ≡ Ok scenario
  pub goes_on : goes scenario statuses.Ok text

was_read_at : (goes : Shown → Reply) (names : Names) (input text : List ℕ) (r : Result Shown ScenarioError)
    → scenario_in (data_of input) ≡ r → Reading goes names r statuses.Ok text → WasRead goes input text
was_read_at goes names input text (Ok s) e h = record { scenario = s; read = e; goes_on = h }
was_read_at goes names input text (Err error) e h = let no : statuses.Ok ≡ statuses.Refused = h.0 in absurd cc

was_read : (goes : Shown → Reply) (input text : List ℕ) (long : Bool)
    → InputReply (DataReply goes (data_of input)) long statuses.Ok text → WasRead goes input text
was_read goes input text true h = let no : statuses.Ok ≡ statuses.TooLong = h.0 in absurd cc
was_read goes input text false h =
    was_read_at goes (names_in (data_of input)) input text (scenario_in (data_of input)) refl h

-- ---- a legal report that is not too long

only_verdict : (text : List ℕ) (verdict : Verdict) (status : Status) (answer : List ℕ) → verdict ≡ Legal
    → status ≡ status_of verdict → answer ≡ verdict_text (names_of text) verdict
    → (status ≡ statuses.Ok) × (answer ≡ codes "legal\n")
only_verdict text verdict status answer same s a =
    (s ∙ ap status_of same, a ∙ ap (verdict_text (names_of text)) same)

legal_reply_at : (text : List ℕ) (long : Bool) → long ≡ false → OneVerdict → IsVerdict text Legal
    → IsLegalReply (InputReply (VerdictReply text) long)
legal_reply_at text true e one legal = absurd cc
legal_reply_at text false e one legal = record {
  is = (Legal, legal, refl, refl);
  only = λ status answer h. only_verdict text h.0 status answer (one text h.0 Legal h.1 legal) h.2 h.3;
}

legal_reply : (text : List ℕ) → OneVerdict → IsVerdict text Legal → length text ≤ 2 ^ 28
    → IsLegalReply (JudgedReply text)
legal_reply text one legal few =
    legal_reply_at text (nat_lt report_limit (length text)) (le-ltb report_limit (length text) (omega (arith, few))) one legal

-- ---- runs

module _ (whole : RunIsReadWhole) (reports : RunReportIsLegal) (one : OneVerdict) (compiled : CompiledUnlessRefused) (decided : AdmittedUnlessRefused) where
  pub texts_legal : RunTextsAreLegal
  texts_legal s trial text is integers h =
      let r : HasRun trial s text = has_run trial s text h in
      let lists : AreLists (set_of s) = record { reads = is.reads; writes = is.writes; together = is.together } in
      let ok : IsCompiled (set_of s) = (compiled (set_of s) lists).0 r.compiles in
      let admitted : not trial ≡ true → IsAdmitted (set_of s) = λ yes. (decided (set_of s) ok).by_rule.0 (r.admitted yes) in
      let t = r.run in
      legal_reply text one
      (subst (λ (l : List ℕ). IsVerdict l Legal) (sym t.written)
      (reports s is integers (not trial) t.history ok admitted t.run.so_far.legal t.run.so_far.script_run))
      (subst (λ (l : List ℕ). length l ≤ 2 ^ 28) (sym t.written)
      (whole s (not trial) t.history (record { scenario = is; integers = integers; compiled = ok; run = t.run })))

  pub runs_legal : ReadIsScenario → ReadHasIntegers → RunsAreLegal
  runs_legal scenarios integers trial workers input text h =
      let r = was_read (RunReply trial) input text (nat_lt scenario_limit (length input)) h in
      texts_legal r.scenario trial text (scenarios input r.scenario r.read) (integers input r.scenario r.read) r.goes_on
