-- The line of an entry is one line, and begins with its word.
use Rattle.std.proofs.Common.{◌≡◌, ℕ, Bool, true, List, [], ◌++◌, Option, Some, None, decimal, refl, arith, codes, append_assoc}
use Rattle.std.specs.Fmt.{signed_decimal}
use Rattle.rt_base.specs.Names.{AreNames}
use Rattle.rt_base.specs.declared.ids.JobId.{JobId}
use Rattle.rt_base.specs.declared.name.Names.{Names}
use Rattle.rt_base.specs.declared.operation.Op.{Op}
use Rattle.rt_base.specs.declared.operation.Op.TheVariants.{Read, Write, Compute, Commit, Quit}
use Rattle.rt_base.specs.declared.operation.Outcome.{Outcome}
use Rattle.rt_base.specs.declared.operation.Outcome.TheVariants.{Got}
use Rattle.rt_base.specs.declared.operation.End.{End}
use Rattle.rt_base.specs.declared.operation.End.TheVariants as end
use Rattle.step_journal.specs.declared.entry.Entry.{Entry}
use Rattle.step_journal.specs.declared.entry.Entry.TheVariants.{Planned, Step, Blocked, Idle}
use Rattle.line_fields.specs.Cuts.{field, Lacks}
use Rattle.journal_text.specs.Ids.{name_at, job_text, IsJob}
use Rattle.line_fields.proofs.CutLaws.{lacks_test, lacks_append}
use Rattle.journal_text.specs.Lines.{◌⊕◌, op_text, stamp_text, outcome_text, end_text, over_text, entry_line, IsOp, IsStamp, IsOutcome, IsEnd, IsOver, HasLine, KnownOp, KnownEnd, KnownOver, IsWritable}
use Rattle.report_text.specs.Texts.{whole_entry_line}
use Rattle.report_text.proofs.HeadAgain.{word_lacks, number_lacks}
use Rattle.report_text.specs.Forms.{may_end, may_be_over, may_be}
use Rattle.run_report.specs.Types.{HasValue}
use Rattle.run_report.proofs.Lines.{IsLine}
use Rattle.run_report.proofs.Forms.{first_word, first_passes, last_lacks, named_lacks, last_named_lacks, signed_word_lacks, last_signed_lacks, job_text_lacks, end_lacks}
use Rattle.run_report.proofs.Fits.{EndFits}
use Rattle.run_report.proofs.Steps.{OverFits, EntryFits}

-- ---- its parts have no line end

job_field_lacks : (txns : List (List ℕ)) (job : JobId) (rest : List ℕ) → AreNames txns → IsJob txns job → Lacks 10 rest
    → Lacks 10 (field (job_text txns job) ++ rest)
job_field_lacks txns job rest good is after = word_lacks (job_text txns job) rest (job_text_lacks txns job good is) after

nothing_lacks : Lacks 10 []
nothing_lacks = lacks_test 10 [] refl

op_lacks : (names : Names) (op : Op) → AreNames names.items → IsOp names op → Lacks 10 (op_text names op)
op_lacks names (Read item) good is =
    lacks_append 10 (codes " read") (field (name_at names.items item.0)) (lacks_test 10 (codes " read") refl)
    (last_named_lacks names.items item.0 good is)
op_lacks names (Write item value) good is =
    lacks_append 10 (codes " write") (field (name_at names.items item.0) ⊕ field (signed_decimal value)) (lacks_test 10 (codes " write") refl)
    (named_lacks names.items item.0 (field (signed_decimal value)) good is.0 (last_signed_lacks value is.1))
op_lacks names Compute good is = lacks_test 10 (codes " compute") refl
op_lacks names Commit good is = lacks_test 10 (codes " commit") refl
op_lacks names Quit good is = lacks_test 10 (codes " quit") refl

stamp_lacks : (stamp : Option ℕ) → IsStamp stamp → Lacks 10 (field (stamp_text stamp))
stamp_lacks (Some n) fits = last_lacks n fits
stamp_lacks None fits = lacks_test 10 (codes " own") refl

outcome_lacks : (outcome : Outcome) → IsOutcome outcome → Lacks 10 (outcome_text outcome)
outcome_lacks (Got value stamp) fits = signed_word_lacks value (field (stamp_text stamp)) fits.0 (stamp_lacks stamp fits.1)
outcome_lacks other fits = nothing_lacks

over_lacks : (names : Names) (over : Option End) → AreNames names.items → IsOver names over → Lacks 10 (over_text names over)
over_lacks names None good is = nothing_lacks
over_lacks names (Some e) good is =
    lacks_append 10 (codes " end") (end_text names e) (lacks_test 10 (codes " end") refl) (end_lacks names e good is)

line_lacks : (names : Names) (e : Entry) → AreNames names.items → AreNames names.txns → HasLine names e
    → Lacks 10 (entry_line names e)
line_lacks names (Planned tx tick) items txns fits =
    lacks_append 10 (codes "plan") (field (name_at names.txns tx.0) ⊕ field (decimal tick)) (lacks_test 10 (codes "plan") refl)
    (named_lacks names.txns tx.0 (field (decimal tick)) txns fits.0 (last_lacks tick fits.1))
line_lacks names (Step job op outcome over tick) items txns fits =
    let closing : List ℕ = outcome_text outcome ⊕ over_text names over in
    lacks_append 10 (codes "step") (field (job_text names.txns job) ⊕ field (decimal tick) ⊕ op_text names op ⊕ closing) (lacks_test 10 (codes "step") refl)
    (job_field_lacks names.txns job (field (decimal tick) ⊕ op_text names op ⊕ closing) txns fits.0
    (number_lacks tick (op_text names op ⊕ closing) fits.1
    (lacks_append 10 (op_text names op) closing (op_lacks names op items fits.2)
    (lacks_append 10 (outcome_text outcome) (over_text names over) (outcome_lacks outcome fits.4) (over_lacks names over items fits.5)))))
line_lacks names (Blocked job op by ceiling tick) items txns fits =
    let holder : List ℕ = field (job_text names.txns by) ⊕ field (decimal ceiling) in
    lacks_append 10 (codes "block") (field (job_text names.txns job) ⊕ field (decimal tick) ⊕ op_text names op ⊕ field (codes "by") ⊕ holder) (lacks_test 10 (codes "block") refl)
    (job_field_lacks names.txns job (field (decimal tick) ⊕ op_text names op ⊕ field (codes "by") ⊕ holder) txns fits.0
    (number_lacks tick (op_text names op ⊕ field (codes "by") ⊕ holder) fits.1
    (lacks_append 10 (op_text names op) (field (codes "by") ⊕ holder) (op_lacks names op items fits.2)
    (lacks_append 10 (codes " by") holder (lacks_test 10 (codes " by") refl)
    (job_field_lacks names.txns by (field (decimal ceiling)) txns fits.3 (last_lacks ceiling (omega (arith, fits.4))))))))
line_lacks names (Idle from to) items txns fits =
    lacks_append 10 (codes "idle") (field (decimal from) ⊕ field (decimal to)) (lacks_test 10 (codes "idle") refl)
    (number_lacks from (field (decimal to)) fits.0 (last_lacks to fits.1))

pub entry_is_line : (names : Names) (place : ℕ) (e : Entry) → AreNames names.items → AreNames names.txns → HasLine names e
    → IsLine (whole_entry_line names place e) (entry_line names e)
entry_is_line names place e items txns fits =
    record { ends = λ rest. append_assoc (entry_line names e) (codes "\n") rest; lacks = line_lacks names e items txns fits }

-- ---- its word

-- the words of entries pass the test
pub record EntryWords (test : List ℕ → Bool) : Type 0 where
  pub plan : test (codes "plan") ≡ true
  pub step : test (codes "step") ≡ true
  pub block : test (codes "block") ≡ true
  pub idle : test (codes "idle") ≡ true

pub entry_passes : (names : Names) (test : List ℕ → Bool) (e : Entry) → EntryWords test
    → first_word test (entry_line names e) ≡ None
entry_passes names test (Planned tx tick) words =
    first_passes test (codes "plan") (field (name_at names.txns tx.0) ⊕ field (decimal tick)) (lacks_test 32 (codes "plan") refl) refl words.plan
entry_passes names test (Step job op outcome over tick) words =
    first_passes test (codes "step") (field (job_text names.txns job) ⊕ field (decimal tick) ⊕ op_text names op ⊕ outcome_text outcome ⊕ over_text names over) (lacks_test 32 (codes "step") refl) refl words.step
entry_passes names test (Blocked job op by ceiling tick) words =
    first_passes test (codes "block") (field (job_text names.txns job) ⊕ field (decimal tick) ⊕ op_text names op ⊕ field (codes "by") ⊕ field (job_text names.txns by) ⊕ field (decimal ceiling)) (lacks_test 32 (codes "block") refl) refl words.block
entry_passes names test (Idle from to) words =
    first_passes test (codes "idle") (field (decimal from) ⊕ field (decimal to)) (lacks_test 32 (codes "idle") refl) refl words.idle

-- ---- it has a line of the version

is_op : (names : Names) (op : Op) → KnownOp names op → HasValue op → IsOp names op
is_op names (Read item) known v = known
is_op names (Write item value) known v = (known, v)
is_op names other known v = tt

pub is_end : (names : Names) (second : Bool) (e : End) → KnownEnd names e → EndFits second e → IsEnd names e
is_end names second (end.Stale item stamp) known fits = (known, fits)
is_end names second (end.Apart a b) known fits = known
is_end names second other known fits = tt

pub end_may : (second : Bool) (e : End) → EndFits second e → may_end second e ≡ true
end_may second (end.Apart a b) fits = fits
end_may second other fits = refl

is_over : (names : Names) (second : Bool) (over : Option End) → KnownOver names over → OverFits second over → IsOver names over
is_over names second None known fits = tt
is_over names second (Some e) known fits = is_end names second e known fits

over_may : (second : Bool) (over : Option End) → OverFits second over → may_be_over second over ≡ true
over_may second None fits = refl
over_may second (Some e) fits = end_may second e fits

pub has_line : (names : Names) (second : Bool) (e : Entry) → IsWritable names e → EntryFits second e → HasLine names e
has_line names second (Planned tx tick) w fits = (w, fits)
has_line names second (Step job op outcome over tick) w fits =
    ((w.0, fits.0), fits.1, is_op names op w.1 fits.2, w.2, fits.3, is_over names second over w.3 fits.4)
has_line names second (Blocked job op by ceiling tick) w fits =
    ((w.0, fits.0), fits.1, is_op names op w.1 fits.2, (w.2, fits.3), fits.4)
has_line names second (Idle from to) w fits = fits

pub entry_may : (second : Bool) (e : Entry) → EntryFits second e → may_be second e ≡ true
entry_may second (Step job op outcome over tick) fits = over_may second over fits.4
entry_may second other fits = refl
