-- What a legal report is, and what is read of it.
use Rattle.std.proofs.Common.{◌≡◌, ℕ, Bool, true, false, List, Option, Some, None, Result, Ok, Err, refl, sym, ap, subst, ◌∙◌}
use Rattle.std.specs.Option.{option_map}
use Rattle.item_model.specs.Work.{first_of_both}
use Rattle.item_model.specs.declared.stored.Stored.{Stored}
use Rattle.txn_set.specs.Set.{Set}
use Rattle.txn_compiler.specs.declared.error.CompileError.{CompileError}
use Rattle.txn_compiler.specs.declared.error.CompileError.TheVariants as compiling
use Rattle.txn_compiler.specs.Refusal.{Refuses, compile_refusal}
use Rattle.step_journal.specs.declared.entry.Entry.{Entry}
use Rattle.step_journal.specs.History.{IsLegal, state_of}
use Rattle.serial_replay.specs.declared.serial.ReplayError.{ReplayError}
use Rattle.serial_replay.specs.declared.serial.ReplayError.TheVariants as replaying
use Rattle.serial_replay.specs.Replays.{Explains}
use Rattle.report_text.specs.declared.read.Head.{Head}
use Rattle.report_text.specs.IsHead.{set_of}
use Rattle.report_text.specs.declared.document.Document.{Document}
use Rattle.report_text.specs.declared.document.DocumentError.{DocumentError}
use Rattle.report_text.specs.declared.document.DocumentError.TheVariants as reading
use Rattle.report_text.specs.Document.{document_of, Reads}
use Rattle.run_report.specs.declared.verdict.SetError.{SetError}
use Rattle.run_report.specs.declared.verdict.SetError.TheVariants.{Compile}
use Rattle.run_report.specs.declared.verdict.Verdict.{Verdict}
use Rattle.run_report.specs.declared.verdict.Verdict.TheVariants.{Legal, BadLine, Unfinished, BadSet, NotALegalStep, WrongLine, WrongItem}
use Rattle.run_report.specs.Verdict.{IsVerdict, Tells, set_refusal, refusal_in, report_for}
use Rattle.rt_base.specs.declared.name.Names.{Names}
use Rattle.job_rows.specs.declared.row.JobRow.{JobRow}
use Rattle.job_rows.specs.Rows.{job_rows}
use Rattle.schedule_marks.specs.declared.part.Part.{Part}
use Rattle.schedule_marks.specs.declared.showing.Limits.{Limits}
use Rattle.schedule_marks.specs.declared.showing.Shown.{Shown}
use Rattle.schedule_marks.specs.Shown.{shown_of}
use Rattle.picture_text.specs.Texts.{text_of}
use Rattle.run_report.proofs.Parts.{document_read, one_document}
use Rattle.picture_command.specs.Page.{page_text}
use Rattle.picture_command.specs.Parts.{part_of}
use Rattle.io_edge.specs.declared.status.Status.{Status}
use Rattle.io_edge.specs.declared.status.Status.TheVariants as statuses
use Rattle.command_replies.specs.Verdicts.{status_of}
use Rattle.command_replies.specs.Replies.{VerdictReply}
use Rattle.picture_command.specs.declared.wanted.Wanted.{Wanted}
use Rattle.picture_command.specs.Answers.{is_ok, drawing, drawing_of, picture_of, picture_in, DrawnReply, PictureReply}

-- a verdict whose status is Ok is Legal
by_status : (input : List ℕ) (v : Verdict) → IsVerdict input v → is_ok (status_of v) ≡ true → IsVerdict input Legal
by_status input Legal is e = is
by_status input (BadLine n) is e = absurd cc
by_status input Unfinished is e = absurd cc
by_status input (BadSet error) is e = absurd cc
by_status input (NotALegalStep n) is e = absurd cc
by_status input (WrongLine n) is e = absurd cc
by_status input (WrongItem item) is e = absurd cc

pub is_legal : (input : List ℕ) (status : Status) (text : List ℕ) → VerdictReply input status text → is_ok status ≡ true
    → IsVerdict input Legal
is_legal input status text v e = by_status input v.0 v.1 (subst (λ (s : Status). is_ok s ≡ true) v.2 e)

-- the document of a legal report is the one that is read

abbrev not_read : DocumentError → Result Document DocumentError
not_read e = Err e

same : (input : List ℕ) (d : Document) (legal : IsVerdict input Legal) → Ok d ≡ document_of input → legal.0 ≡ d
same input d legal read = one_document legal.0 d (sym legal.1.declares.read ∙ sym read)

pub tells_same : (input : List ℕ) (d : Document) → IsVerdict input Legal → Ok d ≡ document_of input → Tells input d
tells_same input d legal read = subst (λ (e : Document). Tells input e) (same input d legal read) legal.1

pub whole_same : (input : List ℕ) (d : Document) → IsVerdict input Legal → Ok d ≡ document_of input → input ≡ report_for d
whole_same input d legal read = subst (λ (e : Document). input ≡ report_for e) (same input d legal read) legal.2

-- and nothing but want of memory is in the way

no_error : (e : DocumentError) (d : Document) → not_read e ≡ document_read d → ⊥
no_error e d h = absurd cc

pub reading_wants : (input : List ℕ) (e : DocumentError) → IsVerdict input Legal → Reads (Err e) (document_of input)
    → e ≡ reading.OutOfMemory
reading_wants input (reading.BadLine n) legal read = absurd (no_error (reading.BadLine n) legal.0 (read ∙ legal.1.declares.read))
reading_wants input reading.Unfinished legal read = absurd (no_error reading.Unfinished legal.0 (read ∙ legal.1.declares.read))
reading_wants input reading.OutOfMemory legal read = refl

pub replaying_wants : (set : Set) (entries : List Entry) (e : ReplayError) → IsLegal set entries → Explains set entries e
    → e ≡ replaying.OutOfMemory
replaying_wants set entries (replaying.NotLegal index) legal why = absurd (why.not_all legal)
replaying_wants set entries replaying.OutOfMemory legal why = refl

-- what is not refused compiles
first_none : (o : Option CompileError) (p : Option SetError) → first_of_both (option_map (λ error. Compile error) o) p ≡ None
    → o ≡ None
first_none None p e = refl
first_none (Some x) p e = absurd cc

no_refusal : (found : Option CompileError) (e : CompileError) → found ≡ None → found ≡ Some e → ⊥
no_refusal found e none some = absurd cc

wants : (found : Option CompileError) (e : CompileError) → found ≡ None → Refuses found e → e ≡ compiling.OutOfMemory
wants found (compiling.TooManyItems count) none h = absurd (no_refusal found _ none h)
wants found (compiling.TooManyTxns count) none h = absurd (no_refusal found _ none h)
wants found (compiling.SamePrio a b) none h = absurd (no_refusal found _ none h)
wants found (compiling.BadTimes tx which) none h = absurd (no_refusal found _ none h)
wants found (compiling.NoWriter item) none h = absurd (no_refusal found _ none h)
wants found (compiling.TwoWriters item a b) none h = absurd (no_refusal found _ none h)
wants found (compiling.CyclicDerivation item) none h = absurd (no_refusal found _ none h)
wants found compiling.OutOfMemory none h = refl
wants found (compiling.TooManySets count) none h = absurd (no_refusal found _ none h)
wants found (compiling.BadTogether place) none h = absurd (no_refusal found _ none h)

pub compiling_wants : (head : Head) (e : CompileError) → set_refusal head ≡ None → Refuses (compile_refusal (set_of head)) e
    → e ≡ compiling.OutOfMemory
compiling_wants head e none h =
    wants (compile_refusal (set_of head)) e
    (first_none (compile_refusal (set_of head)) (refusal_in head.admitted (set_of head)) none) h

-- the replies

pub verdict_line : (wanted : Wanted) (input : List ℕ) (status : Status) (text : List ℕ) → is_ok status ≡ false
    → VerdictReply input status text → PictureReply wanted input status text
verdict_line wanted input status text e v = subst (λ (b : Bool). DrawnReply b wanted input status text) (sym e) v

pub is_drawn : (wanted : Wanted) (input : List ℕ) (d : Document) (status : Status) (text : List ℕ) → Tells input d
    → input ≡ report_for d → status ≡ statuses.Ok → text ≡ picture_in d wanted → PictureReply wanted input status text
is_drawn wanted input d status text tells whole is picture =
    subst (λ (s : Status). PictureReply wanted input s text) (sym is)
    (record { document = d; tells = tells; legal = whole; picture = picture })

-- a page is drawn where one is wanted, and else the picture alone
pub page_drawn : (names : Names) (set : Set) (limits : Limits) (rows : List JobRow) (items own : List Stored) (part : Part) (shown : Shown) (page : Bool)
    → items ≡ own → page ≡ true → page_text names set part limits rows items shown ≡ drawing names set limits rows own part shown page
page_drawn names set limits rows items own part shown page i p =
    ap (λ (l : List Stored). page_text names set part limits rows l shown) i ∙ ap (drawing names set limits rows own part shown) (sym p)

pub picture_drawn : (names : Names) (set : Set) (limits : Limits) (rows : List JobRow) (items : List Stored) (part : Part) (shown : Shown) (page : Bool)
    → page ≡ false → text_of names set part limits shown ≡ drawing names set limits rows items part shown page
picture_drawn names set limits rows items part shown page p = ap (drawing names set limits rows items part shown) (sym p)

-- what is drawn of the part, the rows and what is shown, as they were found
pub whole_picture : (names : Names) (set : Set) (limits : Limits) (entries : List Entry) (wanted : Wanted) (part : Part)
    (rows : List JobRow) (shown : Shown) → part ≡ part_of wanted.ticks entries → rows ≡ job_rows set entries
    → shown ≡ shown_of set part limits rows entries
    → drawing names set limits rows (state_of set entries).items part shown wanted.page ≡ picture_of names set limits entries wanted
whole_picture names set limits entries wanted part rows shown p r s =
    ap (λ (h : Shown). drawing names set limits rows (state_of set entries).items part h wanted.page) s
    ∙ (ap (λ (q : List JobRow). drawing names set limits q (state_of set entries).items part (shown_of set part limits q entries) wanted.page) r
    ∙ ap (λ (q : Part). drawing_of names set limits entries q wanted.page) p)

-- the picture of what the parts of a document hold
pub parts_picture : (names own : Names) (set its : Set) (limits found : Limits) (entries all : List Entry) (wanted : Wanted)
    → names ≡ own → set ≡ its → limits ≡ found → entries ≡ all
    → picture_of names set limits entries wanted ≡ picture_of own its found all wanted
parts_picture names own set its limits found entries all wanted n s l e =
    ap (λ (q : List Entry). picture_of names set limits q wanted) e
    ∙ (ap (λ (q : Limits). picture_of names set q all wanted) l
    ∙ (ap (λ (q : Set). picture_of names q found all wanted) s ∙ ap (λ (m : Names). picture_of m its found all wanted) n))
