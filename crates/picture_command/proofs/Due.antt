-- The status that is answered is the one that is due.
use Rattle.std.proofs.Common.{◌≡◌, ◌⊎◌, inl, inr, ℕ, ◌<◌, ◌≤◌, Bool, true, false, nat_lt, List, ◌++◌, length, Option, None, Some, refl, sym, ap, subst, ◌∙◌, arith}
use Rattle.std.proofs.lemmas.Bool.{lt-ltb, cases_lt}
use Rattle.std.proofs.lemmas.List.{append-nil, length-append}
use Rattle.run_report.specs.declared.verdict.Verdict.{Verdict}
use Rattle.run_report.specs.declared.verdict.Verdict.TheVariants.{Legal}
use Rattle.run_report.specs.Verdict.{IsVerdict}
use Rattle.run_report.proofs.OneOnly.{one_verdict}
use Rattle.io_edge.specs.declared.status.Status.{Status}
use Rattle.io_edge.specs.declared.status.Status.TheVariants as statuses
use Rattle.command_replies.specs.Verdicts.{status_of}
use Rattle.picture_command.specs.declared.wanted.Wanted.{Wanted}
use Rattle.picture_command.specs.Answers.{is_ok, DrawnReply, PictureReply, InputReply, report_limit, TakesAll, IsAnswer, Answers, IsDueFor, IsDue}

-- a picture is drawn of a legal report, and any other answer is the verdict's
drawn_due : (wanted : Wanted) (input : List ℕ) (status : Status) (text : List ℕ) (ok : Bool) (v : Verdict) → is_ok status ≡ ok → (ok ≡ true → status ≡ statuses.Ok)
    → DrawnReply ok wanted input status text → IsVerdict input v → status ≡ status_of v
drawn_due wanted input status text true v e ok h is = ok refl ∙ ap status_of (one_verdict input Legal v (h.document, h.tells, h.legal) is)
drawn_due wanted input status text false v e ok h is = h.2 ∙ ap status_of (one_verdict input h.0 v h.1 is)

only_ok : (status : Status) → is_ok status ≡ true → status ≡ statuses.Ok
only_ok statuses.Ok e = refl
only_ok statuses.Refused e = absurd cc
only_ok statuses.Usage e = absurd cc
only_ok statuses.ReadFault e = absurd cc
only_ok statuses.WriteFault e = absurd cc
only_ok statuses.OutOfMemory e = absurd cc
only_ok statuses.TooLong e = absurd cc
only_ok statuses.NotLegal e = absurd cc
only_ok statuses.DiskFault e = absurd cc
only_ok statuses.BadJournal e = absurd cc

input_due : (wanted : Wanted) (input : List ℕ) (status due : Status) (text : List ℕ) (long : Bool)
    → InputReply (PictureReply wanted input) long status text → IsDueFor input long due → status ≡ due
input_due wanted input status due text true h is = h.0 ∙ sym is
input_due wanted input status due text false h is =
    drawn_due wanted input status text (is_ok status) is.0 refl (only_ok status) h is.1 ∙ sym is.2

-- of a report within the limit all is taken
all_taken : (told input : List ℕ) (new : Option (List ℕ)) → TakesAll (Some told) new input → length input ≤ report_limit → input ≡ told
all_taken told input None took short = absurd took.0
all_taken told input (Some rest) took short =
    sym (append-nil input) ∙ (ap (λ (l : List ℕ). input ++ l) (sym (took.1 short)) ∙ sym took.0)

no_longer : (told input : List ℕ) (new : Option (List ℕ)) → TakesAll (Some told) new input → length input ≤ length told
no_longer told input None took = absurd took.0
no_longer told input (Some rest) took = omega (arith, ap (λ (l : List ℕ). length l) took.0, length-append input rest)

told_due : (wanted : Wanted) (told input : List ℕ) (new : Option (List ℕ)) (status due : Status) (text : List ℕ) → TakesAll (Some told) new input
    → InputReply (PictureReply wanted input) (nat_lt report_limit (length input)) status text
    → IsDueFor told (nat_lt report_limit (length told)) due → status ≡ due
told_due wanted told input new status due text took h is =
    elim (cases_lt report_limit (length input)) [
      | inl long ↦
          let told_long : report_limit < length told = omega (arith, long, no_longer told input new took) in
          (subst (λ (b : Bool). InputReply (PictureReply wanted input) b status text) (lt-ltb report_limit (length input) long) h).0
          ∙ sym (subst (λ (b : Bool). IsDueFor told b due) (lt-ltb report_limit (length told) told_long) is)
      | inr short ↦
          input_due wanted told status due text (nat_lt report_limit (length told))
          (subst (λ (i : List ℕ). InputReply (PictureReply wanted i) (nat_lt report_limit (length i)) status text) (all_taken told input new took short) h) is
    ]

is_due : (wanted : Option Wanted) (old new : Option (List ℕ)) (status due : Status) (text : List ℕ) → IsAnswer wanted old new status text
    → IsDue wanted old due → status ≡ due
is_due None old new status due text a is = a.1 ∙ sym is
is_due (Some wanted) None new status due text a is = absurd is
is_due (Some wanted) (Some told) new status due text a is = told_due wanted told a.input new status due text a.took a.reply is

pub complete : (wanted : Option Wanted) (old new taken taken' : Option (List ℕ)) (status due : Status) (R W : Type 0)
    → Answers wanted old new taken taken' status → (status ≡ statuses.ReadFault → R) → (status ≡ statuses.WriteFault → W)
    → IsDue wanted old due → (R → ⊥) → (W → ⊥) → (status ≡ due) ⊎ (status ≡ statuses.OutOfMemory)
complete wanted old new taken taken' statuses.Ok due R W a r w is no_r no_w = inl (is_due wanted old new statuses.Ok due a.text a.is is)
complete wanted old new taken taken' statuses.Refused due R W a r w is no_r no_w = inl (is_due wanted old new statuses.Refused due a.text a.is is)
complete wanted old new taken taken' statuses.Usage due R W a r w is no_r no_w = inl (is_due wanted old new statuses.Usage due a.text a.is is)
complete wanted old new taken taken' statuses.ReadFault due R W a r w is no_r no_w = absurd (no_r (r refl))
complete wanted old new taken taken' statuses.WriteFault due R W a r w is no_r no_w = absurd (no_w (w refl))
complete wanted old new taken taken' statuses.OutOfMemory due R W a r w is no_r no_w = inr refl
complete wanted old new taken taken' statuses.TooLong due R W a r w is no_r no_w = inl (is_due wanted old new statuses.TooLong due a.text a.is is)
complete wanted old new taken taken' statuses.NotLegal due R W a r w is no_r no_w = inl (is_due wanted old new statuses.NotLegal due a.text a.is is)
complete wanted old new taken taken' statuses.DiskFault due R W a r w is no_r no_w = inl (is_due wanted old new statuses.DiskFault due a.text a.is is)
complete wanted old new taken taken' statuses.BadJournal due R W a r w is no_r no_w = inl (is_due wanted old new statuses.BadJournal due a.text a.is is)
