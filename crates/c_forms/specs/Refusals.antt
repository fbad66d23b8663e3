-- Why there is no database over some tables, and how it is told.
use Rattle.std.specs.Prelude.{◌≡◌, ℕ, ◌<◌, ◌^◌, ◌==◌, if◌then◌else◌, List, length, slice_index_or, None}
use Rattle.std.specs.List.{All}
use Rattle.txn_compiler.specs.declared.error.Which.{Which}
use Rattle.txn_compiler.specs.declared.error.Which.TheVariants as which
use Rattle.txn_compiler.specs.declared.error.CompileError.{CompileError}
use Rattle.txn_compiler.specs.declared.error.CompileError.TheVariants as rule
use Rattle.set_admission.specs.declared.error.AdmitError.{AdmitError}
use Rattle.set_admission.specs.declared.error.AdmitError.TheVariants as admission
use Rattle.txn_compiler.specs.Kept.{kept}
use Rattle.txn_compiler.specs.Refusal.{compile_refusal, Refuses}
use Rattle.set_admission.specs.Admission.{refusal}
use Rattle.set_admission.specs.Admission.{Refuses as NotAdmits}
use Rattle.c_forms.specs.declared.tables.Tables.{Tables}
use Rattle.c_forms.specs.declared.refusals.Refused.{Refused}
use Rattle.c_forms.specs.declared.refusals.Refused.TheVariants as refused
use Rattle.c_forms.specs.declared.refusals.RefusalForm.{RefusalForm}
use Rattle.c_forms.specs.Rows.{set_of_tables, IsKind, TxnFits, TogetherFits, FitTables}

-- the first place of a list at which a rule is broken
pub record IsFirstBreach {X : Type 0} (Fits : X → Type 0) (xs : List X) (place : ℕ) : Type 0 where
  pub within : place < length xs
  pub broken : (d : X) → ¬ Fits (slice_index_or xs place d)
  pub before : (k : ℕ) (d : X) → k < place → Fits (slice_index_or xs k d)

-- why tables give no compiled set: of these causes the first that they have. Want of memory may come in place of each.
abbrev pub WhyNotCompiled : Tables → Refused → Type 0
WhyNotCompiled t (refused.BadKind row) = IsFirstBreach IsKind t.items.now row
WhyNotCompiled t (refused.BadNumber place) = All IsKind t.items.now × IsFirstBreach (λ i. i < length t.items.now) t.ids.now place
WhyNotCompiled t (refused.BadTxn row) = All IsKind t.items.now × All (λ i. i < length t.items.now) t.ids.now × IsFirstBreach (TxnFits (length t.ids.now)) t.txns.now row
WhyNotCompiled t (refused.BadTogether row) =
    All IsKind t.items.now × All (λ i. i < length t.items.now) t.ids.now × All (TxnFits (length t.ids.now)) t.txns.now × IsFirstBreach (TogetherFits (length t.ids.now)) t.together.now row
WhyNotCompiled t (refused.NotCompiled error) = FitTables t × Refuses (compile_refusal (kept (set_of_tables t))) error
WhyNotCompiled t (refused.NotAdmitted error) = ⊥
WhyNotCompiled t refused.NoRoom = ⊥
WhyNotCompiled t refused.OutOfMemory = Unit {0}

-- why no database is opened over them with this room
abbrev pub WhyNotOpened : Tables → (room : ℕ) → Refused → Type 0
WhyNotOpened t room refused.NoRoom = 2 ^ 20 < room
WhyNotOpened t room (refused.NotAdmitted error) = FitTables t × (compile_refusal (kept (set_of_tables t)) ≡ None) × NotAdmits (refusal (kept (set_of_tables t))) error
WhyNotOpened t room why = WhyNotCompiled t why

-- the same of a set that is not to be admitted
abbrev pub WhyNotTried : Tables → (room : ℕ) → Refused → Type 0
WhyNotTried t room refused.NoRoom = 2 ^ 20 < room
WhyNotTried t room why = WhyNotCompiled t why

abbrev pub number_of_which : Which → ℕ
number_of_which which.Prio = 0
number_of_which which.Steps = 1
number_of_which which.Period = 2
number_of_which which.Deadline = 3
number_of_which which.Offset = 4
number_of_which which.Quiet = 5

abbrev pub bare_refusal : (rule a b c : ℕ) → RefusalForm
bare_refusal rule a b c = record { rule = rule; which = 0; a = a; b = b; c = c }

abbrev pub form_of_rule : CompileError → ℕ × RefusalForm
form_of_rule (rule.TooManyItems count) = (9, bare_refusal 10 count 0 0)
form_of_rule (rule.TooManyTxns count) = (9, bare_refusal 11 count 0 0)
form_of_rule (rule.SamePrio a b) = (9, bare_refusal 12 a.0 b.0 0)
form_of_rule (rule.BadTimes tx which) = (9, record (bare_refusal 13 tx.0 0 0) { which = number_of_which which })
form_of_rule (rule.NoWriter item) = (9, bare_refusal 14 item.0 0 0)
form_of_rule (rule.TwoWriters item a b) = (9, bare_refusal 15 item.0 a.0 b.0)
form_of_rule (rule.CyclicDerivation item) = (9, bare_refusal 16 item.0 0 0)
form_of_rule rule.OutOfMemory = (11, bare_refusal 0 0 0 0)
form_of_rule (rule.TooManySets count) = (9, bare_refusal 17 count 0 0)
form_of_rule (rule.BadTogether place) = (9, bare_refusal 18 place 0 0)

abbrev pub form_of_admission : AdmitError → ℕ × RefusalForm
form_of_admission (admission.NotSchedulable tx demand) = (10, bare_refusal 20 tx.0 demand 0)
form_of_admission (admission.TooOld tx item age) = (10, bare_refusal 21 tx.0 item.0 age)
form_of_admission admission.OutOfMemory = (11, bare_refusal 0 0 0 0)
form_of_admission (admission.TooApart tx place age) = (10, bare_refusal 22 tx.0 place age)

abbrev pub form_of_refusal : Refused → ℕ × RefusalForm
form_of_refusal (refused.BadKind row) = (8, bare_refusal 1 row 0 0)
form_of_refusal (refused.BadNumber place) = (8, bare_refusal 2 place 0 0)
form_of_refusal (refused.BadTxn row) = (8, bare_refusal 3 row 0 0)
form_of_refusal (refused.BadTogether row) = (8, bare_refusal 4 row 0 0)
form_of_refusal (refused.NotCompiled error) = form_of_rule error
form_of_refusal (refused.NotAdmitted error) = form_of_admission error
form_of_refusal refused.NoRoom = (7, bare_refusal 0 0 0 0)
form_of_refusal refused.OutOfMemory = (11, bare_refusal 0 0 0 0)

-- a refusal, read back

abbrev pub which_of : ℕ → Which
which_of n =
    if n == 0 then which.Prio
    else (if n == 1 then which.Steps
    else (if n == 2 then which.Period
    else (if n == 3 then which.Deadline
    else (if n == 4 then which.Offset else which.Quiet))))

abbrev pub rule_of : RefusalForm → CompileError
rule_of form =
    if form.rule == 10 then rule.TooManyItems form.a
    else (if form.rule == 11 then rule.TooManyTxns form.a
    else (if form.rule == 12 then rule.SamePrio (record { 0 = form.a }) (record { 0 = form.b })
    else (if form.rule == 13 then rule.BadTimes (record { 0 = form.a }) (which_of form.which)
    else (if form.rule == 14 then rule.NoWriter (record { 0 = form.a })
    else (if form.rule == 15 then rule.TwoWriters (record { 0 = form.a }) (record { 0 = form.b }) (record { 0 = form.c })
    else (if form.rule == 16 then rule.CyclicDerivation (record { 0 = form.a })
    else (if form.rule == 17 then rule.TooManySets form.a else rule.BadTogether form.a)))))))

abbrev pub admission_of : RefusalForm → AdmitError
admission_of form =
    if form.rule == 20 then admission.NotSchedulable (record { 0 = form.a }) form.b
    else (if form.rule == 21 then admission.TooOld (record { 0 = form.a }) (record { 0 = form.b }) form.c
    else admission.TooApart (record { 0 = form.a }) form.b form.c)

abbrev pub bad_of : RefusalForm → Refused
bad_of form =
    if form.rule == 1 then refused.BadKind form.a
    else (if form.rule == 2 then refused.BadNumber form.a
    else (if form.rule == 3 then refused.BadTxn form.a else refused.BadTogether form.a))

-- of a status and a record
abbrev pub refusal_of : ℕ × RefusalForm → Refused
refusal_of told =
    if told.0 == 7 then refused.NoRoom
    else (if told.0 == 8 then bad_of told.1
    else (if told.0 == 9 then refused.NotCompiled (rule_of told.1)
    else (if told.0 == 10 then refused.NotAdmitted (admission_of told.1) else refused.OutOfMemory)))

-- want of memory, wherever it was
abbrev pub plain : Refused → Refused
plain (refused.NotCompiled rule.OutOfMemory) = refused.OutOfMemory
plain (refused.NotAdmitted admission.OutOfMemory) = refused.OutOfMemory
plain why = why
