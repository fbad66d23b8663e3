-- A step in which the running job computes, and by which no job ends and none is released.
use Rattle.std.proofs.Common.{◌≡◌, ◌≢◌, ℕ, ◌+◌, ◌<◌, Bool, false, List, [], ◌∷◌, map, Option, None, Some, set as with_item, refl, ap, sym, ◌∙◌, subst, inl, inr, arith, get_or-set_same, get_or-set_other}
use Rattle.std.proofs.lemmas.Bool.{cases_eq, eq-eqb, ne_eqb, false_from_ne_true, eqb-true}
use Rattle.std.specs.List.{filter, fold}
use Rattle.rt_base.specs.declared.ids.JobId.{JobId}
use Rattle.rt_base.specs.declared.operation.Op.TheVariants.{Compute}
use Rattle.rt_base.specs.declared.operation.End.{End}
use Rattle.rt_base.specs.declared.operation.End.TheVariants.{Overrun}
use Rattle.release_calendar.specs.Agenda.{Holds, NothingDue}
use Rattle.txn_set.specs.Set.{Set, txn_of}
use Rattle.step_journal.specs.State.{State, Row, row_of, pending}
use Rattle.step_journal.specs.LockRule.{in_falling_priority}
use Rattle.step_journal.specs.Instant.{is_due, with_row}
use Rattle.step_journal.specs.Step.{given, row_after, end_by, after_effect}
use Rattle.law_histories.proofs.Members.{In, in_filter, in_pending}
use Rattle.law_histories.proofs.Calendar.{in_sorted}
use Rattle.law_histories.proofs.Invariant.{in_range}
use Rattle.board.specs.Over.{over_of}
use Rattle.core_tables.specs.Rows.{PendingSeen, rows_stepped}
use Rattle.core_tables.specs.Seen.{TablesSeen}
use Rattle.core_tables.specs.Tables.{AreTables}
use Rattle.core_tables.specs.Legal.{IsLegalState, IsGranted}
use Rattle.core_tables.specs.Changes.{late_jobs, tally_late, items_settled}
use Rattle.core_tables.specs.Arriving.{IsQuiet, Computes}
use Rattle.core_tables.proofs.Facts.{known}
use Rattle.core_tables.proofs.Cancels.{nothing_late, cancelled_none}
use Rattle.core_tables.proofs.Releases.{none_due}
use Rattle.core_tables.proofs.Arrived.{arrives}
use Rattle.core_tables.proofs.Effected.{row_here, next_arrives, with_step_is, effected}

-- a row whose deadline is the tick is late

in_none : (x : Row) (l : List Row) → In x l → map (λ (r : Row). r.job) l ≡ [] → ⊥
in_none x [] i e = i
in_none x (y ∷ l) i e = cc

pub not_late : (set : Set) (tick : ℕ) (rows : List (Option Row)) → late_jobs set tick rows ≡ [] → (n : ℕ) (x : Row) → row_of rows n ≡ Some x → x.release + (txn_of set x.job.tx.0).deadline ≢ tick
not_late set tick rows none n x here e =
    let due : List Row = filter (is_due set tick) (pending rows) in
    in_none x (in_falling_priority set due) (in_sorted set x due (in_filter (is_due set tick) x (pending rows) (in_pending rows n x here) (eq-eqb _ _ e))) none

-- so it is after a step of a row that is not
late_kept : (set : Set) (tick : ℕ) (rows : List (Option Row)) (n : ℕ) (row next : Row) → row_of rows n ≡ Some row → next.release ≡ row.release → next.job ≡ row.job → late_jobs set tick rows ≡ []
    → late_jobs set tick (with_item rows n (Some next)) ≡ []
late_kept set tick rows n row next here release job none =
    nothing_late set tick (with_item rows n (Some next)) (λ m x at e. elim (cases_eq m n) [
      | inl same ↦ (let there : row_of (with_item rows n (Some next)) n ≡ Some x = subst (λ (k : ℕ). row_of (with_item rows n (Some next)) k ≡ Some x) same at in
          let is : Some next ≡ Some x = sym (get_or-set_same rows n (Some next) None (in_range rows n row here)) ∙ there in
          let one : next ≡ x = cc in
          not_late set tick rows none n row here
          (ap (λ (k : ℕ). k + (txn_of set row.job.tx.0).deadline) (sym release)
          ∙ (ap (λ (j : JobId). next.release + (txn_of set j.tx.0).deadline) (sym job)
          ∙ (ap (λ (r : Row). r.release + (txn_of set r.job.tx.0).deadline) one ∙ e))))
      | inr ne ↦ not_late set tick rows none m x (sym (get_or-set_other rows n m (Some next) None ne) ∙ at) e
    ])

no_overrun : (set : Set) (s : State) (row : Row) (tick : ℕ) → row.used + 1 < (txn_of set row.job.tx.0).steps → None ≡ end_by set (row_after s row Compute) tick Compute
no_overrun set s row tick lt =
    sym (ap (λ (b : Bool). given b Overrun) (ne_eqb (row.used + 1) (txn_of set row.job.tx.0).steps (λ e. omega (arith, lt, e))))

pub computes : (set : Set) (t : TablesSeen) (s : State) (job : JobId) → AreTables set t s → IsLegalState set s → (g : IsGranted set s job Compute) → IsQuiet set t job.tx.0 (t.clock + 1)
    → (one : PendingSeen) → one ≡ record t.pending { rows = rows_stepped t.pending.rows t.items Compute g.row }
    → Computes set (record t { clock = t.clock + 1; pending = one }) s g.row
computes set t s job a legal g q one e1 =
    let row : Row = g.row in
    let here : row_of t.pending.rows job.tx.0 ≡ Some row = row_here set t s job Compute a legal g in
    let own : row.job.tx.0 ≡ job.tx.0 = ap (λ (j : JobId). j.tx.0) g.is in
    let there : row_of t.pending.rows row.job.tx.0 ≡ Some row = subst (λ (n : ℕ). row_of t.pending.rows n ≡ Some row) (sym own) here in
    let lt : row.used + 1 < (txn_of set row.job.tx.0).steps = subst (λ (n : ℕ). row.used + 1 < (txn_of set n).steps) (sym own) (q.more row here) in
    let s' : State = after_effect set s row Compute in
    let t' : TablesSeen = record t { pending = one } in
    let goes_on : None ≡ end_by set (row_after s row Compute) (t.clock + 1) Compute = no_overrun set s row (t.clock + 1) lt in
    let base : AreTables set t' s' =
    effected set t s job Compute a legal g one e1 None t.items one t.tallies goes_on
    (ap (λ (o : Option End). items_settled set (row_after s row Compute) o t.items) goes_on) refl refl in
    let none : late_jobs set (t.clock + 1) one.rows ≡ [] =
    subst (λ (p : PendingSeen). late_jobs set (t.clock + 1) p.rows ≡ []) (sym e1)
    (late_kept set (t.clock + 1) t.pending.rows row.job.tx.0 row _ there refl refl (q.none_late a.rows.facts)) in
    let in_time : is_due set (s.now + 1) row ≡ false =
    false_from_ne_true _ (λ due. not_late set (t.clock + 1) t.pending.rows (q.none_late a.rows.facts) job.tx.0 row here (omega (arith, eqb-true _ _ due, a.now))) in
    let free : NothingDue (t.clock + 1) s'.planned = q.none_due s'.planned base.planned in
    let rest = none_due (t.clock + 1) s'.planned free in
    record {
      are = subst (AreTables set (record t { clock = t.clock + 1; pending = one })) (with_step_is set t s row Compute a)
          (arrives set (t.clock + 1) t' s' base (next_arrives set t s job Compute a legal g) one one t.tallies t.tallies t.calendar refl
          (cancelled_none set (t.clock + 1) one none) (ap (fold tally_late t.tallies) (sym none)) refl
          (ap (fold (with_row (t.clock + 1)) one.rows) (sym rest.0)) (subst (Holds t.calendar) (sym rest.1) base.planned)
          (record { periods = refl; plans = refl; room = refl }));
      goes_on = sym ((known set s legal).over row Compute g.runs) ∙ (ap (λ (o : Option End). over_of o (is_due set (s.now + 1) row)) (sym (no_overrun set s row (s.now + 1) lt)) ∙ ap (over_of None) in_time);
    }
