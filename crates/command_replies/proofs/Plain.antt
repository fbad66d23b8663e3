-- Replies of one status each, which is none of a fault or of want of memory.
use Rattle.std.proofs.Common.{◌≡◌, ◌⊎◌, inl, inr, ℕ, ◌<◌, ◌≤◌, Bool, true, false, nat_lt, List, ◌++◌, length, Option, None, Some, Result, Ok, Err, refl, sym, ap, subst, ◌∙◌, arith}
use Rattle.std.proofs.lemmas.Bool.{lt-ltb, cases_lt}
use Rattle.std.proofs.lemmas.List.{append-nil, length-append}
use Rattle.std.specs.Io.KnownBytes.{Appends}
use Rattle.rt_base.specs.declared.name.Names.{Names}
use Rattle.txn_compiler.specs.declared.error.CompileError.{CompileError}
use Rattle.set_admission.specs.declared.error.AdmitError.{AdmitError}
use Rattle.step_script.specs.Shown.{Shown}
use Rattle.scenario_reader.specs.declared.error.ScenarioError.{ScenarioError}
use Rattle.run_report.specs.declared.verdict.Verdict.{Verdict}
use Rattle.run_report.specs.declared.verdict.Verdict.TheVariants.{Legal}
use Rattle.run_report.specs.declared.judged.LegalReport.{LegalReport}
use Rattle.run_report.specs.Verdict.{IsVerdict}
use Rattle.run_report.proofs.OneOnly.{one_verdict}
use Rattle.refusal_lines.specs.Causes.{scenario_cause, compile_cause, admit_cause}
use Rattle.io_edge.specs.declared.status.Status.{Status}
use Rattle.io_edge.specs.declared.status.Status.TheVariants as statuses
use Rattle.run_report.proofs.Parts.{legal_verdict as legal_is}
use Rattle.command_replies.specs.Verdicts.{status_of}
use Rattle.command_replies.specs.Replies.{Reply, Written, Refused, Compiling, Admitting}
use Rattle.command_replies.specs.Taken.{TakesAll, InputReply}
use Rattle.command_replies.specs.Scenarios.{Reading}
use Rattle.command_replies.specs.Reports.{is_ok, LegalOr, ReportReply}
use Rattle.command_replies.specs.Answers.{Judged, AnswersBy}

-- the status of a reply whose text is written
abbrev pub is_told : Status → Bool
is_told statuses.ReadFault = false
is_told statuses.WriteFault = false
is_told statuses.OutOfMemory = false
is_told status = true

pub record IsPlain (goes : Reply) : Type 0 where
  pub told : (status : Status) (text : List ℕ) → goes status text → is_told status ≡ true
  pub one : (a b : Status) (x y : List ℕ) → goes a x → goes b y → a ≡ b

-- a reply whose status is known
pub fixed : (goes : Reply) (known : Status) → is_told known ≡ true → ((status : Status) (text : List ℕ) → goes status text → status ≡ known) → IsPlain goes
fixed goes known told is = record {
  told = λ status text h. ap is_told (is status text h) ∙ told;
  one = λ a b x y h i. is a x h ∙ sym (is b y i);
}

pub written : (wanted : List ℕ) → IsPlain (Written wanted)
written wanted = fixed (Written wanted) statuses.Ok refl (λ status text h. h.0)

refused : (cause : List ℕ) → IsPlain (Refused cause)
refused cause = fixed (Refused cause) statuses.Refused refl (λ status text h. h.0)

pub compiling : (goes : Reply) (names : Names) (o : Option CompileError) → IsPlain goes → IsPlain (Compiling goes names o)
compiling goes names None plain = plain
compiling goes names (Some e) plain = refused (compile_cause names e)

pub admitting : (goes : Reply) (names : Names) (o : Option AdmitError) → IsPlain goes → IsPlain (Admitting goes names o)
admitting goes names None plain = plain
admitting goes names (Some e) plain = refused (admit_cause names e)

pub reading : (goes : Shown → Reply) (names : Names) (r : Result Shown ScenarioError) → ((s : Shown) → IsPlain (goes s)) → IsPlain (Reading goes names r)
reading goes names (Ok s) plain = plain s
reading goes names (Err e) plain = refused (scenario_cause names e)

pub input : (goes : Reply) (long : Bool) → IsPlain goes → IsPlain (InputReply goes long)
input goes true plain = fixed (InputReply goes true) statuses.TooLong refl (λ status text h. h.0)
input goes false plain = plain

-- a legal report is not refused, and any other is answered by its verdict

verdict_told : (v : Verdict) → is_told (status_of v) ≡ true
verdict_told Legal = refl
verdict_told v = refl

module _ (goes : LegalReport → Reply) (bytes : List ℕ) (ok : (r : LegalReport) (s : Status) (t : List ℕ) → goes r s t → s ≡ statuses.Ok) where
  -- the status of either is that of a verdict
  by_verdict : (a : Status) (x : List ℕ) (p : Bool) → LegalOr goes bytes p a x → (v : Verdict) × (IsVerdict bytes v) × (a ≡ status_of v)
  by_verdict a x true h = (Legal, legal_is bytes h.report h.is, ok h.report a x h.reply)
  by_verdict a x false h = (h.0, h.1, h.2)

  pub report : IsPlain (ReportReply goes bytes)
  report = record {
    told = λ a x h. (let v = by_verdict a x (is_ok a) h in ap is_told v.2 ∙ verdict_told v.0);
    one = λ a b x y h i. (let v = by_verdict a x (is_ok a) h in let w = by_verdict b y (is_ok b) i in v.2 ∙ (ap status_of (one_verdict bytes v.0 w.0 v.1 w.1) ∙ sym w.2));
  }

-- what was done of such a reply

module _ (answer : Reply) (taken taken' : Option (List ℕ)) where
  pub told_by : (status : Status) (text : List ℕ) → answer status text → Appends taken taken' text → is_told status ≡ true → AnswersBy answer taken taken' status
  told_by statuses.ReadFault text h w told = absurd cc
  told_by statuses.WriteFault text h w told = absurd cc
  told_by statuses.OutOfMemory text h w told = absurd cc
  told_by status text h w told = record { text = text; is = h; written = w }

  -- its status is the one that is due, unless the source or the sink fails, or memory runs out
  pub complete : (status due : Status) (R W : Type 0) → AnswersBy answer taken taken' status → (status ≡ statuses.ReadFault → R) → (status ≡ statuses.WriteFault → W)
      → ((s : Status) (text : List ℕ) → answer s text → s ≡ due) → (R → ⊥) → (W → ⊥) → (status ≡ due) ⊎ (status ≡ statuses.OutOfMemory)
  complete statuses.ReadFault due R W a r w is no_r no_w = absurd (no_r (r refl))
  complete statuses.WriteFault due R W a r w is no_r no_w = absurd (no_w (w refl))
  complete statuses.OutOfMemory due R W a r w is no_r no_w = inr refl
  complete status due R W a r w is no_r no_w = inl (is status a.text a.is)

pub no_fault : (fault status : Status) → is_told fault ≡ false → is_told status ≡ true → status ≡ fault → ⊥
no_fault fault status mute told e = absurd (let off : true ≡ false = sym told ∙ (ap is_told e ∙ mute) in cc)

-- of an input within the limit all is taken
module _ (limit : ℕ) (told bytes : List ℕ) where
  all_taken : (new : Option (List ℕ)) → TakesAll limit (Some told) new bytes → length bytes ≤ limit → bytes ≡ told
  all_taken None took short = absurd took.0
  all_taken (Some rest) took short = sym (append-nil bytes) ∙ (ap (λ (l : List ℕ). bytes ++ l) (sym (took.1 short)) ∙ sym took.0)

  no_longer : (new : Option (List ℕ)) → TakesAll limit (Some told) new bytes → length bytes ≤ length told
  no_longer None took = absurd took.0
  no_longer (Some rest) took = omega (arith, ap (λ (l : List ℕ). length l) took.0, length-append bytes rest)

-- so the status is that of the reply to what the source tells
pub told_due : (goes : List ℕ → Reply) (limit : ℕ) (told : List ℕ) (new : Option (List ℕ)) (status due : Status) (text other : List ℕ) → ((bytes : List ℕ) → IsPlain (goes bytes))
    → Judged (TakesAll limit (Some told) new) (λ bytes. InputReply (goes bytes) (nat_lt limit (length bytes))) status text → InputReply (goes told) (nat_lt limit (length told)) due other
    → status ≡ due
told_due goes limit told new status due text other plain h is =
    elim (cases_lt limit (length h.input)) [
      | inl long ↦
          let told_long : limit < length told = omega (arith, long, no_longer limit told h.input new h.took) in
          (subst (λ (b : Bool). InputReply (goes h.input) b status text) (lt-ltb limit (length h.input) long) h.reply).0
          ∙ sym (subst (λ (b : Bool). InputReply (goes told) b due other) (lt-ltb limit (length told) told_long) is).0
      | inr short ↦
          (input (goes told) (nat_lt limit (length told)) (plain told)).one status due text other
          (subst (λ (i : List ℕ). InputReply (goes i) (nat_lt limit (length i)) status text) (all_taken limit told h.input new h.took short) h.reply) is
    ]
