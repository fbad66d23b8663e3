-- What the top call did from what it was answered, and when its status is Ok.
use Rattle.std.proofs.Common.{◌≡◌, ◌⊎◌, inl, inr, ℕ, ◌≤◌, Bool, true, false, nat_lt, List, ◌++◌, length, Option, None, Some, Result, Ok, refl, sym, ap, subst, ◌∙◌, arith}
use Rattle.std.proofs.lemmas.Bool.{le-ltb}
use Rattle.std.proofs.lemmas.List.{append-nil, length-append}
use Rattle.std.proofs.Math.Seq.{take-append_seam}
use Rattle.std.specs.Io.KnownBytes.{Keeps, Appends}
use Rattle.rt_base.specs.declared.name.Names.{Names}
use Rattle.txn_compiler.specs.declared.error.CompileError.{CompileError}
use Rattle.txn_compiler.specs.Refusal.{compile_refusal}
use Rattle.set_admission.specs.declared.error.AdmitError.{AdmitError}
use Rattle.set_admission.specs.Admission.{refusal}
use Rattle.update_rates.specs.declared.error.RateError.{RateError}
use Rattle.update_rates.specs.Refusal.{rate_refusal}
use Rattle.step_script.specs.Shown.{Shown, set_of}
use Rattle.scenario_reader.specs.declared.error.ScenarioError.{ScenarioError}
use Rattle.scenario_reader.specs.Reading.{data_of, scenario_in}
use Rattle.run_report.specs.declared.verdict.Verdict.TheVariants as verdicts
use Rattle.run_report.specs.Verdict.{IsVerdict}
use Rattle.run_report.proofs.OneOnly.{one_verdict}
use Rattle.scenario_run.specs.Written.{WroteFront}
use Rattle.command_words.specs.declared.command.Command.{Command}
use Rattle.command_words.specs.declared.command.Command.TheVariants.{Plain, Run, Load}
use Rattle.command_words.specs.declared.command.PlainCommand.TheVariants.{Ceilings, Admit, Replay, Gen, Rates, Margin}
use Rattle.io_edge.specs.declared.status.Status.{Status}
use Rattle.io_edge.specs.declared.status.Status.TheVariants as statuses
use Rattle.command_replies.specs.Verdicts.{status_of}
use Rattle.command_replies.specs.Replies.{Reply, Compiling, Admitting, CeilingsReply, AdmitReply, VerdictReply}
use Rattle.command_replies.specs.Analysis.{Rating, RatesReply, MarginReply}
use Rattle.scenario_run.specs.Replies.{RunReply, RunText}
use Rattle.command_replies.specs.Taken.{scenario_limit, report_limit, TakesAll, InputReply}
use Rattle.command_replies.specs.Scenarios.{Reading, DataReply, AskedReply, names_in, IsReadFrom}
use Rattle.command_replies.specs.Answers.{Judged, CutShort}
use Rattle.rtdb_command.specs.Replies.{JudgedReply}
use Rattle.rtdb_command.specs.Answers.{IsAnswer, Answers, IsRead, IsReadAdmitted, IsReadRated, IsGood}

-- an input within the limit is judged
within : (goes : Reply) (limit : ℕ) (input : List ℕ) (status : Status) (text : List ℕ) → length input ≤ limit → goes status text
    → InputReply goes (nat_lt limit (length input)) status text
within goes limit input status text short h = subst (λ (b : Bool). InputReply goes b status text) (sym (le-ltb limit (length input) short)) h

-- the reply to the scenario that was read is the answer
pub from_read : (goes : Shown → Reply) (old new : Option (List ℕ)) (s : Shown) (status : Status) (text : List ℕ) → IsReadFrom old new s → goes s status text
    → Judged (TakesAll scenario_limit old new) (AskedReply goes) status text
from_read goes old new s status text r h = record {
  input = r.input;
  took = r.took;
  reply = subst (λ (b : Bool). InputReply (DataReply goes (data_of r.input)) b status text) (sym r.short)
      (subst (λ (q : Result Shown ScenarioError). Reading goes (names_in (data_of r.input)) q status text) (sym r.read) h);
}

pub run_cut : (trial : Bool) (workers : ℕ) (old new taken taken' : Option (List ℕ)) (s : Shown) → IsReadFrom old new s → WroteFront (RunText trial s) taken taken'
    → CutShort (IsAnswer (Some (Run trial workers)) old new) taken taken'
run_cut trial workers old new taken taken' s r h = record {
  status = statuses.Ok;
  text = h.front ++ h.left;
  is = from_read (RunReply trial) old new s statuses.Ok (h.front ++ h.left) r h.is;
  count = length h.front;
  written = subst (Appends taken taken') (sym (take-append_seam h.front h.left)) h.written;
}

pub run_short : (trial : Bool) (workers : ℕ) (old new taken taken' : Option (List ℕ)) (s : Shown) → IsReadFrom old new s
    → Keeps taken taken' ⊎ WroteFront (RunText trial s) taken taken'
    → Keeps taken taken' ⊎ CutShort (IsAnswer (Some (Run trial workers)) old new) taken taken'
run_short trial workers old new taken taken' s r (inl h) = inl h
run_short trial workers old new taken taken' s r (inr h) = inr (run_cut trial workers old new taken taken' s r h)

pub judged_report : (old new : Option (List ℕ)) (input : List ℕ) (status : Status) (text : List ℕ) → TakesAll report_limit old new input → length input ≤ report_limit
    → VerdictReply input status text → IsAnswer (Some (Plain Replay)) old new status text
judged_report old new input status text took short h = record { input = input; took = took; reply = within (VerdictReply input) report_limit input status text short h }

-- a good input has the status Ok

compiling_goes : (goes : Reply) (names : Names) (o : Option CompileError) (status : Status) (text : List ℕ) → o ≡ None → Compiling goes names o status text → goes status text
compiling_goes goes names o status text e h = subst (λ (p : Option CompileError). Compiling goes names p status text) e h

admitting_goes : (goes : Reply) (names : Names) (o : Option AdmitError) (status : Status) (text : List ℕ) → o ≡ None → Admitting goes names o status text → goes status text
admitting_goes goes names o status text e h = subst (λ (p : Option AdmitError). Admitting goes names p status text) e h

reading_goes : (goes : Shown → Reply) (names : Names) (r : Result Shown ScenarioError) (s : Shown) (status : Status) (text : List ℕ) → r ≡ Ok s → Reading goes names r status text → goes s status text
reading_goes goes names r s status text e h = subst (λ (p : Result Shown ScenarioError). Reading goes names p status text) e h

input_goes : (goes : Reply) (limit : ℕ) (input : List ℕ) (status : Status) (text : List ℕ) → length input ≤ limit → InputReply goes (nat_lt limit (length input)) status text → goes status text
input_goes goes limit input status text short h = subst (λ (b : Bool). InputReply goes b status text) (le-ltb limit (length input) short) h

asked_goes : (goes : Shown → Reply) (input : List ℕ) (s : Shown) (status : Status) (text : List ℕ) → length input ≤ scenario_limit → scenario_in (data_of input) ≡ Ok s
    → AskedReply goes input status text → goes s status text
asked_goes goes input s status text short read h =
    reading_goes goes (names_in (data_of input)) (scenario_in (data_of input)) s status text read (input_goes (DataReply goes (data_of input)) scenario_limit input status text short h)

read_ok : (goes : Shown → Reply) (input : List ℕ) (status : Status) (text : List ℕ) (r : IsRead input) → length input ≤ scenario_limit
    → AskedReply (λ s. Compiling (goes s) s.names (compile_refusal (set_of s))) input status text → goes r.scenario status text
read_ok goes input status text r short h =
    compiling_goes (goes r.scenario) r.scenario.names (compile_refusal (set_of r.scenario)) status text r.compiles
    (asked_goes (λ s. Compiling (goes s) s.names (compile_refusal (set_of s))) input r.scenario status text short r.read h)

pub admitted_ok : (goes : Shown → Reply) (input : List ℕ) (status : Status) (text : List ℕ) (a : IsReadAdmitted input) → length input ≤ scenario_limit
    → AskedReply (λ s. Compiling (Admitting (goes s) s.names (refusal (set_of s))) s.names (compile_refusal (set_of s))) input status text → goes a.is_read.scenario status text
admitted_ok goes input status text a short h =
    admitting_goes (goes a.is_read.scenario) a.is_read.scenario.names (refusal (set_of a.is_read.scenario)) status text a.admitted
    (read_ok (λ s. Admitting (goes s) s.names (refusal (set_of s))) input status text a.is_read short h)

rating_goes : (goes : Reply) (names : Names) (o : Option RateError) (status : Status) (text : List ℕ) → o ≡ None → Rating goes names o status text → goes status text
rating_goes goes names o status text e h = subst (λ (p : Option RateError). Rating goes names p status text) e h

rated_ok : (goes : Shown → Reply) (input : List ℕ) (status : Status) (text : List ℕ) (r : IsReadRated input) → length input ≤ scenario_limit
    → AskedReply (λ s. Rating (goes s) s.names (rate_refusal (set_of s))) input status text → goes r.scenario status text
rated_ok goes input status text r short h =
    rating_goes (goes r.scenario) r.scenario.names (rate_refusal (set_of r.scenario)) status text r.rated
    (asked_goes (λ s. Rating (goes s) s.names (rate_refusal (set_of s))) input r.scenario status text short r.read h)

legal_ok : (input : List ℕ) (status : Status) (text : List ℕ) → length input ≤ report_limit → IsVerdict input verdicts.Legal → JudgedReply input status text → status ≡ statuses.Ok
legal_ok input status text short legal h =
    let v = input_goes (VerdictReply input) report_limit input status text short h in
    v.2 ∙ ap status_of (one_verdict input v.0 verdicts.Legal v.1 legal)

-- all that there was is what was taken
all_taken : (limit : ℕ) (told input : List ℕ) (new : Option (List ℕ)) → length told ≤ limit → TakesAll limit (Some told) new input → input ≡ told
all_taken limit told input None short took = absurd took.0
all_taken limit told input (Some rest) short took =
    let fits : length input ≤ limit = omega (arith, short, ap (λ (l : List ℕ). length l) took.0, length-append input rest) in
    sym (append-nil input) ∙ (ap (λ (l : List ℕ). input ++ l) (sym (took.1 fits)) ∙ sym took.0)

pub asked_of_all : (goes : Shown → Reply) (told : List ℕ) (new : Option (List ℕ)) (status : Status) (text : List ℕ) → length told ≤ scenario_limit
    → Judged (TakesAll scenario_limit (Some told) new) (AskedReply goes) status text → AskedReply goes told status text
asked_of_all goes told new status text short j = subst (λ (i : List ℕ). AskedReply goes i status text) (all_taken scenario_limit told j.input new short j.took) j.reply

good_ok : (command : Option Command) (old new : Option (List ℕ)) (status : Status) (text : List ℕ) → IsGood command old → IsAnswer command old new status text → status ≡ statuses.Ok
good_ok None old new status text good j = absurd good
good_ok (Some (Plain (Gen n))) old new status text good j = j.reply.0
good_ok (Some (Load n workers)) old new status text good j = j.reply.0
good_ok (Some (Plain Ceilings)) None new status text good j = absurd good
good_ok (Some (Plain Ceilings)) (Some told) new status text good j = (read_ok _ told status text good.1 good.0 (asked_of_all CeilingsReply told new status text good.0 j)).0
good_ok (Some (Plain Admit)) None new status text good j = absurd good
good_ok (Some (Plain Admit)) (Some told) new status text good j = (admitted_ok _ told status text good.1 good.0 (asked_of_all AdmitReply told new status text good.0 j)).0
good_ok (Some (Plain Rates)) None new status text good j = absurd good
good_ok (Some (Plain Rates)) (Some told) new status text good j = (rated_ok _ told status text good.1 good.0 (asked_of_all RatesReply told new status text good.0 j)).0
good_ok (Some (Plain Margin)) None new status text good j = absurd good
good_ok (Some (Plain Margin)) (Some told) new status text good j = (read_ok _ told status text good.1 good.0 (asked_of_all MarginReply told new status text good.0 j)).0
good_ok (Some (Run trial workers)) None new status text good j = absurd good
good_ok (Some (Run true workers)) (Some told) new status text good j = (read_ok _ told status text good.1 good.0 (asked_of_all (RunReply true) told new status text good.0 j)).0
good_ok (Some (Run false workers)) (Some told) new status text good j = (admitted_ok _ told status text good.1 good.0 (asked_of_all (RunReply false) told new status text good.0 j)).0
good_ok (Some (Plain Replay)) None new status text good j = absurd good
good_ok (Some (Plain Replay)) (Some told) new status text good j =
    let same = all_taken report_limit told j.input new good.0 j.took in
    legal_ok told status text good.0 good.1 (subst (λ (i : List ℕ). JudgedReply i status text) same j.reply)

-- a good command ends Ok, unless the source or the sink fails, or memory runs out
pub complete : (command : Option Command) (old new taken taken' : Option (List ℕ)) (status : Status) (R W : Type 0) → Answers command old new taken taken' status
    → (status ≡ statuses.ReadFault → R) → (status ≡ statuses.WriteFault → W) → IsGood command old → (R → ⊥) → (W → ⊥) → (status ≡ statuses.Ok) ⊎ (status ≡ statuses.OutOfMemory)
complete command old new taken taken' statuses.Ok R W a r w good no_r no_w = inl refl
complete command old new taken taken' statuses.Refused R W a r w good no_r no_w = inl (good_ok command old new statuses.Refused a.text good a.is)
complete command old new taken taken' statuses.Usage R W a r w good no_r no_w = inl (good_ok command old new statuses.Usage a.text good a.is)
complete command old new taken taken' statuses.ReadFault R W a r w good no_r no_w = absurd (no_r (r refl))
complete command old new taken taken' statuses.WriteFault R W a r w good no_r no_w = absurd (no_w (w refl))
complete command old new taken taken' statuses.OutOfMemory R W a r w good no_r no_w = inr refl
complete command old new taken taken' statuses.TooLong R W a r w good no_r no_w = inl (good_ok command old new statuses.TooLong a.text good a.is)
complete command old new taken taken' statuses.NotLegal R W a r w good no_r no_w = inl (good_ok command old new statuses.NotLegal a.text good a.is)
complete command old new taken taken' statuses.DiskFault R W a r w good no_r no_w = inl (good_ok command old new statuses.DiskFault a.text good a.is)
complete command old new taken taken' statuses.BadJournal R W a r w good no_r no_w = inl (good_ok command old new statuses.BadJournal a.text good a.is)
