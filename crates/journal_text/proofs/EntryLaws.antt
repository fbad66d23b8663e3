-- What is read from a line is the entry that was written there.
use Rattle.std.proofs.Common.{◌≡◌, ℕ, ◌<◌, ◌^◌, List, ◌++◌, length, Option, Some, None, decimal, codes, refl, sym, ap, subst, ◌∙◌, arith}
use Rattle.std.specs.Prelude.{IfSome}
use Rattle.rt_base.specs.Names.{AreNames}
use Rattle.rt_base.specs.declared.name.Names.{Names}
use Rattle.rt_base.specs.declared.ids.TxId.{TxId}
use Rattle.rt_base.specs.declared.ids.JobId.{JobId}
use Rattle.rt_base.specs.declared.operation.Op.{Op}
use Rattle.rt_base.specs.declared.operation.Op.TheVariants.{Read, Write}
use Rattle.rt_base.specs.declared.operation.Outcome.{Outcome}
use Rattle.rt_base.specs.declared.operation.Outcome.TheVariants.{Got}
use Rattle.rt_base.specs.declared.operation.End.{End}
use Rattle.rt_base.specs.declared.operation.End.TheVariants as end
use Rattle.step_journal.specs.declared.entry.Entry.{Entry}
use Rattle.step_journal.specs.declared.entry.Entry.TheVariants.{Planned, Step, Blocked, Idle}
use Rattle.line_fields.specs.Cuts.{◌>>=◌, word_of, word_is, field, Lacks, Ends}
use Rattle.line_fields.specs.Numbers.{unsigned_of, short_of}
use Rattle.journal_text.specs.Ids.{name_at, tx_of, job_text, job_of, IsJob}
use Rattle.line_fields.proofs.CutLaws.{some_is, none_some, bind_some, take_step, take_last, word_takes, word_again, next_again, next_last, lacks_test, given_takes, given_again}
use Rattle.line_fields.proofs.NumberLaws.{unsigned_takes, unsigned_again, unsigned_lacks, short_takes, short_again}
use Rattle.journal_text.proofs.IdLaws.{tx_takes, tx_again, id_lacks, job_takes, job_again, job_lacks}
use Rattle.journal_text.specs.Lines.{◌⊕◌, op_text, outcome_text, over_text, entry_line, IsOp, IsEnd, IsOver, HasLine, IsEntryOf, KnownOp, KnownEnd, KnownOver, IsWritable}
use Rattle.journal_text.specs.EntryLaws.{LinesBothWays}
use Rattle.journal_text.specs.Reading.{op_of, outcome_of, over_of, answers_of, plan_of, step_of, block_of, idle_of, form_of, entry_of}
use Rattle.journal_text.proofs.PartLaws.{by_word, op_takes, op_again, outcome_takes, outcome_again, over_takes, over_again}

abbrev EntryLine : Names → List ℕ → List ℕ → Entry → Type 0
EntryLine names w bs e = HasLine names e × (w ++ bs ≡ entry_line names e)

abbrev IsTick : ℕ → Type 0
IsTick n = n < 2 ^ 64

-- ---- where fields end

ends_op : (names : Names) (op : Op) (rest : List ℕ) → Ends (op_text names op ++ rest)
ends_op names (Read item) rest = refl
ends_op names other rest = refl

ends_outcome : (outcome : Outcome) (rest : List ℕ) → Ends rest → Ends (outcome_text outcome ++ rest)
ends_outcome (Got value stamp) rest ends = refl
ends_outcome other rest ends = ends

ends_over : (names : Names) (over : Option End) → Ends (over_text names over)
ends_over names None = tt
ends_over names (Some e) = refl

-- ---- the forms

plan_takes : (names : Names) (bs : List ℕ) (e : Entry) → plan_of names bs ≡ Some e → EntryLine names (codes "plan") bs e
unfolding plan_of
plan_takes names bs e h =
    let tx = take_step (λ (t : TxId). t.0 < length names.txns) (λ t. name_at names.txns t.0) (tx_of names.txns) (tx_takes names.txns) bs _ e h in
    let tick = take_last IsTick decimal unsigned_of unsigned_takes tx.rest (λ n. Some (Planned tx.got n)) e tx.more in
    let line : bs ≡ field (name_at names.txns tx.got.0) ⊕ field (decimal tick.got) = tx.line ∙ ap (λ (r : List ℕ). field (name_at names.txns tx.got.0) ++ r) tick.line in
    subst (EntryLine names (codes "plan") bs) (some_is _ e tick.more) ((tx.fits, tick.fits), ap (λ (r : List ℕ). codes "plan" ++ r) line)

plan_again : (names : Names) (tx : TxId) (tick : ℕ) → AreNames names.txns → HasLine names (Planned tx tick)
    → plan_of names (field (name_at names.txns tx.0) ⊕ field (decimal tick)) ≡ Some (Planned tx tick)
unfolding plan_of
plan_again names tx tick good fits =
    rw (
      next_again (tx_of names.txns) (name_at names.txns tx.0) (field (decimal tick)) tx (tx_again names.txns tx good fits.0) (id_lacks names.txns tx.0 good fits.0) refl,
      next_last unsigned_of (decimal tick) tick (unsigned_again tick fits.1) (unsigned_lacks tick fits.1),
    ) refl

idle_takes : (names : Names) (bs : List ℕ) (e : Entry) → idle_of bs ≡ Some e → EntryLine names (codes "idle") bs e
unfolding idle_of
idle_takes names bs e h =
    let a = take_step IsTick decimal unsigned_of unsigned_takes bs _ e h in
    let b = take_last IsTick decimal unsigned_of unsigned_takes a.rest (λ n. Some (Idle a.got n)) e a.more in
    let line : bs ≡ field (decimal a.got) ⊕ field (decimal b.got) = a.line ∙ ap (λ (r : List ℕ). field (decimal a.got) ++ r) b.line in
    subst (EntryLine names (codes "idle") bs) (some_is _ e b.more) ((a.fits, b.fits), ap (λ (r : List ℕ). codes "idle" ++ r) line)

idle_again : (from to : ℕ) → IsTick from → IsTick to
    → idle_of (field (decimal from) ⊕ field (decimal to)) ≡ Some (Idle from to)
unfolding idle_of
idle_again from to p q =
    rw (
      next_again unsigned_of (decimal from) (field (decimal to)) from (unsigned_again from p) (unsigned_lacks from p) refl,
      next_last unsigned_of (decimal to) to (unsigned_again to q) (unsigned_lacks to q),
    ) refl

step_takes : (names : Names) (bs : List ℕ) (e : Entry) → step_of names bs ≡ Some e → EntryLine names (codes "step") bs e
unfolding step_of
step_takes names bs e h =
    let job = take_step (IsJob names.txns) (job_text names.txns) (job_of names.txns) (job_takes names.txns) bs _ e h in
    let tick = take_step IsTick decimal unsigned_of unsigned_takes job.rest _ e job.more in
    let more : (Op × Outcome) × List ℕ → Option Entry = λ a. over_of names a.1 >>= λ over. Some (Step job.got a.0.0 a.0.1 over tick.got) in
    let answer = bind_some (answers_of (op_of names tick.rest)) more e tick.more in
    let op = bind_some (op_of names tick.rest) (λ op. outcome_of op.0 op.1 >>= λ outcome. Some ((op.0, outcome.0), outcome.1)) answer.0 answer.1 in
    let outcome = bind_some (outcome_of op.0.0 op.0.1) (λ outcome. Some ((op.0.0, outcome.0), outcome.1)) answer.0 op.2 in
    let over = bind_some (over_of names outcome.0.1) (λ over. Some (Step job.got op.0.0 outcome.0.0 over tick.got)) e (ap more (some_is _ answer.0 outcome.2) ∙ answer.2) in
    let o = op_takes names tick.rest op.0 op.1 in
    let r = outcome_takes op.0.0 op.0.1 outcome.0 outcome.1 in
    let v = over_takes names outcome.0.1 over.0 over.1 in
    let line : bs ≡ field (job_text names.txns job.got) ⊕ field (decimal tick.got) ⊕ op_text names op.0.0 ⊕ outcome_text outcome.0.0 ⊕ over_text names over.0 =
    job.line
    ∙ ap (λ (r : List ℕ). field (job_text names.txns job.got) ⊕ r) tick.line
    ∙ ap (λ (r : List ℕ). field (job_text names.txns job.got) ⊕ field (decimal tick.got) ⊕ r) o.1
    ∙ ap (λ (r : List ℕ). field (job_text names.txns job.got) ⊕ field (decimal tick.got) ⊕ op_text names op.0.0 ⊕ r) r.2
    ∙ ap (λ (r : List ℕ). field (job_text names.txns job.got) ⊕ field (decimal tick.got) ⊕ op_text names op.0.0 ⊕ outcome_text outcome.0.0 ⊕ r) v.1 in
    subst (EntryLine names (codes "step") bs) (some_is _ e over.2) ((job.fits, tick.fits, o.0, r.0, r.1, v.0), ap (λ (r : List ℕ). codes "step" ++ r) line)

-- a line that begins with a word that is compared where it stands
form_in : (names : Names) (w line rest : List ℕ) → line ≡ w ++ rest → Lacks 32 w → Ends rest → entry_of names line ≡ form_of names w rest
form_in names w line rest is lacks ends =
    ap (λ (p : List ℕ × List ℕ). form_of names p.0 p.1) (ap word_of is ∙ word_again w rest lacks ends)

pub step_in : (names : Names) (line rest : List ℕ) → line ≡ codes "step" ++ rest → Ends rest → entry_of names line ≡ step_of names rest
unfolding form_of
step_in names line rest is ends = form_in names (codes "step") line rest is (lacks_test 32 (codes "step") refl) ends

pub plan_in : (names : Names) (line rest : List ℕ) → line ≡ codes "plan" ++ rest → Ends rest → entry_of names line ≡ plan_of names rest
unfolding form_of
plan_in names line rest is ends = form_in names (codes "plan") line rest is (lacks_test 32 (codes "plan") refl) ends

pub block_in : (names : Names) (line rest : List ℕ) → line ≡ codes "block" ++ rest → Ends rest → entry_of names line ≡ block_of names rest
unfolding form_of
block_in names line rest is ends = form_in names (codes "block") line rest is (lacks_test 32 (codes "block") refl) ends

step_again : (names : Names) (job : JobId) (op : Op) (outcome : Outcome) (over : Option End) (tick : ℕ)
    → AreNames names.items → AreNames names.txns → HasLine names (Step job op outcome over tick)
    → step_of names (field (job_text names.txns job) ⊕ field (decimal tick) ⊕ op_text names op ⊕ outcome_text outcome ⊕ over_text names over) ≡ Some (Step job op outcome over tick)
unfolding step_of
step_again names job op outcome over tick items txns fits =
    let end : List ℕ = over_text names over in
    let answer : List ℕ = outcome_text outcome ⊕ end in
    rw (
      next_again (job_of names.txns) (job_text names.txns job) (field (decimal tick) ⊕ op_text names op ⊕ answer) job (job_again names.txns job txns fits.0) (job_lacks names.txns job txns fits.0) refl,
      next_again unsigned_of (decimal tick) (op_text names op ⊕ answer) tick (unsigned_again tick fits.1) (unsigned_lacks tick fits.1) (ends_op names op answer),
      op_again names op answer items fits.2 (ends_outcome outcome end (ends_over names over)),
      outcome_again op outcome end fits.3 fits.4 (ends_over names over),
      over_again names over items fits.5,
    ) refl

block_takes : (names : Names) (bs : List ℕ) (e : Entry) → block_of names bs ≡ Some e
    → EntryLine names (codes "block") bs e
unfolding block_of
block_takes names bs e h =
    let job = take_step (IsJob names.txns) (job_text names.txns) (job_of names.txns) (job_takes names.txns) bs _ e h in
    let tick = take_step IsTick decimal unsigned_of unsigned_takes job.rest _ e job.more in
    let op = bind_some (op_of names tick.rest) _ e tick.more in
    let o = op_takes names tick.rest op.0 op.1 in
    let w = take_step (λ (u : Unit {0}). Unit {0}) (λ u. codes "by") (word_is (codes "by")) (given_takes (codes "by")) op.0.1 _ e op.2 in
    let by = take_step (IsJob names.txns) (job_text names.txns) (job_of names.txns) (job_takes names.txns) w.rest _ e w.more in
    let ceiling = take_last (λ (n : ℕ). n < 2 ^ 32) decimal short_of short_takes by.rest (λ n. Some (Blocked job.got op.0.0 by.got n tick.got)) e by.more in
    let line : bs ≡ field (job_text names.txns job.got) ⊕ field (decimal tick.got) ⊕ op_text names op.0.0 ⊕ field (codes "by") ⊕ field (job_text names.txns by.got) ⊕ field (decimal ceiling.got) =
    job.line
    ∙ ap (λ (r : List ℕ). field (job_text names.txns job.got) ⊕ r) tick.line
    ∙ ap (λ (r : List ℕ). field (job_text names.txns job.got) ⊕ field (decimal tick.got) ⊕ r) o.1
    ∙ ap (λ (r : List ℕ). field (job_text names.txns job.got) ⊕ field (decimal tick.got) ⊕ op_text names op.0.0 ⊕ r)
    (w.line ∙ ap (λ (r : List ℕ). field (codes "by") ⊕ r) (by.line ∙ ap (λ (r : List ℕ). field (job_text names.txns by.got) ⊕ r) ceiling.line)) in
    subst (EntryLine names (codes "block") bs) (some_is _ e ceiling.more) ((job.fits, tick.fits, o.0, by.fits, ceiling.fits), ap (λ (r : List ℕ). codes "block" ++ r) line)

block_again : (names : Names) (job : JobId) (op : Op) (by : JobId) (ceiling tick : ℕ) → AreNames names.items
    → AreNames names.txns → HasLine names (Blocked job op by ceiling tick)
    → block_of names (field (job_text names.txns job) ⊕ field (decimal tick) ⊕ op_text names op ⊕ field (codes "by") ⊕ field (job_text names.txns by) ⊕ field (decimal ceiling)) ≡ Some (Blocked job op by ceiling tick)
unfolding block_of
block_again names job op by ceiling tick items txns fits =
    let last : List ℕ = field (decimal ceiling) in
    let holder : List ℕ = field (job_text names.txns by) ⊕ last in
    let rest : List ℕ = field (codes "by") ⊕ holder in
    rw (
      next_again (job_of names.txns) (job_text names.txns job) (field (decimal tick) ⊕ op_text names op ⊕ rest) job (job_again names.txns job txns fits.0) (job_lacks names.txns job txns fits.0) refl,
      next_again unsigned_of (decimal tick) (op_text names op ⊕ rest) tick (unsigned_again tick fits.1) (unsigned_lacks tick fits.1) (ends_op names op rest),
      op_again names op rest items fits.2 refl,
      next_again (word_is (codes "by")) (codes "by") holder tt (given_again (codes "by")) (lacks_test 32 (codes "by") refl) refl,
      next_again (job_of names.txns) (job_text names.txns by) last by (job_again names.txns by txns fits.3) (job_lacks names.txns by txns fits.3) refl,
      next_last short_of (decimal ceiling) ceiling (short_again ceiling fits.4) (unsigned_lacks ceiling (omega (arith, fits.4))),
    ) refl

-- ---- whole lines

form_takes : (names : Names) (w bs : List ℕ) (e : Entry) → form_of names w bs ≡ Some e → EntryLine names w bs e
unfolding form_of
form_takes names w bs e h =
    let P : List ℕ → Type 0 = λ v. EntryLine names v bs e in
    by_word w (codes "plan") (plan_of names bs) _ e P h (plan_takes names bs e) (λ h.
    by_word w (codes "step") (step_of names bs) _ e P h (step_takes names bs e) (λ h.
    by_word w (codes "block") (block_of names bs) _ e P h (block_takes names bs e) (λ h.
    by_word w (codes "idle") (idle_of bs) None e P h (idle_takes names bs e) (λ h.
    absurd (none_some e h)))))

pub entry_takes : (names : Names) (line : List ℕ) (e : Entry) → entry_of names line ≡ Some e
    → HasLine names e × (entry_line names e ≡ line)
entry_takes names line e h =
    let t = form_takes names (word_of line).0 (word_of line).1 e h in
    (t.0, sym (word_takes line ∙ t.1))

formed : (names : Names) (w rest : List ℕ) → word_of (w ++ rest) ≡ (w, rest)
    → entry_of names (w ++ rest) ≡ form_of names w rest
formed names w rest e = ap (λ (p : List ℕ × List ℕ). form_of names p.0 p.1) e

pub entry_again : (names : Names) (e : Entry) → AreNames names.items → AreNames names.txns → HasLine names e
    → entry_of names (entry_line names e) ≡ Some e
unfolding form_of
entry_again names (Planned tx tick) items txns fits =
    let rest : List ℕ = field (name_at names.txns tx.0) ⊕ field (decimal tick) in
    formed names (codes "plan") rest (word_again (codes "plan") rest (lacks_test 32 (codes "plan") refl) refl)
    ∙ plan_again names tx tick txns fits
entry_again names (Step job op outcome over tick) items txns fits =
    let rest : List ℕ = field (job_text names.txns job) ⊕ field (decimal tick) ⊕ op_text names op ⊕ outcome_text outcome ⊕ over_text names over in
    formed names (codes "step") rest (word_again (codes "step") rest (lacks_test 32 (codes "step") refl) refl)
    ∙ step_again names job op outcome over tick items txns fits
entry_again names (Blocked job op by ceiling tick) items txns fits =
    let rest : List ℕ = field (job_text names.txns job) ⊕ field (decimal tick) ⊕ op_text names op ⊕ field (codes "by") ⊕ field (job_text names.txns by) ⊕ field (decimal ceiling) in
    formed names (codes "block") rest (word_again (codes "block") rest (lacks_test 32 (codes "block") refl) refl)
    ∙ block_again names job op by ceiling tick items txns fits
entry_again names (Idle from to) items txns fits =
    let rest : List ℕ = field (decimal from) ⊕ field (decimal to) in
    formed names (codes "idle") rest (word_again (codes "idle") rest (lacks_test 32 (codes "idle") refl) refl)
    ∙ idle_again from to fits.0 fits.1

-- ---- what is read

op_known : (names : Names) (op : Op) → IsOp names op → KnownOp names op
op_known names (Read item) h = h
op_known names (Write item value) h = h.0
op_known names other h = tt

end_known : (names : Names) (e : End) → IsEnd names e → KnownEnd names e
end_known names (end.Stale item stamp) h = h.0
end_known names (end.Apart a b) h = h
end_known names other h = tt

over_known : (names : Names) (o : Option End) → IsOver names o → KnownOver names o
over_known names None h = tt
over_known names (Some e) h = end_known names e h

-- an entry that has a line can be written
pub writable_of : (names : Names) (e : Entry) → HasLine names e → IsWritable names e
writable_of names (Planned tx tick) h = h.0
writable_of names (Step job op outcome over tick) h = (h.0.0, op_known names op h.2, h.3, over_known names over h.5)
writable_of names (Blocked job op by ceiling tick) h = (h.0.0, op_known names op h.2, h.3.0)
writable_of names (Idle from to) h = tt

pub taken : (names : Names) (line : List ℕ) (o : Option Entry) → o ≡ entry_of names line
    → IfSome o (λ e. HasLine names e × (entry_line names e ≡ line))
taken names line (Some e) is = entry_takes names line e (sym is)
taken names line None is = tt

pub writable : (names : Names) (line : List ℕ) (o : Option Entry) → o ≡ entry_of names line → IfSome o (λ e. IsWritable names e)
writable names line (Some e) is = writable_of names e (entry_takes names line e (sym is)).0
writable names line None is = tt

pub exact : (names : Names) (line : List ℕ) (o : Option Entry) → o ≡ entry_of names line → AreNames names.items
    → AreNames names.txns → IsEntryOf names line o
exact names line (Some e) is items txns = entry_takes names line e (sym is)
exact names line None is items txns =
    λ e fits same. none_some e (is ∙ ap (entry_of names) (sym same) ∙ entry_again names e items txns fits)

pub apart : (names : Names) (e f : Entry) → AreNames names.items → AreNames names.txns → HasLine names e
    → HasLine names f → entry_line names e ≡ entry_line names f → e ≡ f
apart names e f items txns p q same =
    some_is e f (sym (entry_again names e items txns p) ∙ ap (entry_of names) same ∙ entry_again names f items txns q)

pub both_ways : LinesBothWays
both_ways names items txns = record {
  again = λ e fits. entry_again names e items txns fits;
  takes = λ line e h. entry_takes names line e h;
}
