-- The highest late job ends: what is still to be cancelled, and the counts, stay as they were.
use Rattle.std.proofs.Common.{◌≡◌, ◌≢◌, ℕ, zero, suc, ◌+◌, ◌<◌, ◌≤◌, List, [], ◌∷◌, map, length, Option, None, Some, get_or, refl, ap, sym, ◌∙◌, subst, inl, arith}
use Rattle.std.proofs.lemmas.List.{length-set}
use Rattle.std.proofs.lemmas.Bool.{eqb-true}
use Rattle.std.specs.List.{filter, fold}
use Rattle.std.specs.Option.{option_map}
use Rattle.rt_base.specs.declared.ids.JobId.{JobId}
use Rattle.rt_base.specs.declared.operation.End.{End}
use Rattle.rt_base.specs.declared.operation.End.TheVariants as end
use Rattle.txn_set.specs.Set.{Set, IsCompiled, txn_of, no_txn}
use Rattle.std.proofs.Math.ListN.{get_or-map}
use Rattle.txn_set.specs.declared.decl.TxnDecl.{TxnDecl}
use Rattle.step_journal.specs.State.{Row, row_of, pending}
use Rattle.step_journal.specs.LockRule.{highest, in_falling_priority}
use Rattle.step_journal.specs.Instant.{is_due}
use Rattle.law_histories.proofs.Members.{In, filter_in, pending_in, highest_none}
use Rattle.law_histories.proofs.Invariant.{in_range}
use Rattle.law_histories.proofs.Calendar.{Frame, frame_without}
use Rattle.core_tables.specs.Rows.{Facts, PendingSeen, AreFactsOf, rows_ended}
use Rattle.core_tables.specs.Deadlines.{IsLeastDeadline, deadline_of}
use Rattle.core_tables.specs.declared.tally.Tally.{Tally}
use Rattle.core_tables.specs.Seen.{tally_of, tallies_after, counted}
use Rattle.core_tables.specs.Changes.{rows_without, late_jobs, rows_cancelled, tallies_cancelled, tally_late}
use Rattle.core_tables.specs.Arriving.{CanCancel}
use Rattle.core_tables.proofs.Lates.{late_is, late_next, pending_less}

pub tally_set : (tallies : List Tally) (m n : ℕ) (e : End) → (tally_of (tallies_after tallies m e) n).number ≤ (tally_of tallies n).number + 1
tally_set [] m n e = omega arith
tally_set (t ∷ ts) zero zero e = omega arith
tally_set (t ∷ ts) zero (suc n) e = omega arith
tally_set (t ∷ ts) (suc m) zero e = omega arith
tally_set (t ∷ ts) (suc m) (suc n) e = tally_set ts m n e

-- the row whose name an answer is
pub row_named : (o : Option Row) (job : JobId) → Some job ≡ option_map (λ (r : Row). r.job) o → (r : Row) × (o ≡ Some r) × (r.job ≡ job)
row_named None job h = absurd cc
row_named (Some r) job h = (r, refl, cc)

abbrev pub none_job : Option JobId
none_job = None

pub none_named : (o : Option Row) → none_job ≡ option_map (λ (r : Row). r.job) o → o ≡ None
none_named None h = refl
none_named (Some r) h = absurd cc

-- from some tables to others: what is to be cancelled is the same
pub record Cancelling (set : Set) (tick : ℕ) (old now : PendingSeen) (old_tallies tallies : List Tally) : Type 0 where
  pub facts : now.facts ≡ old.facts
  pub can : CanCancel set now.rows tallies
  pub rows : rows_cancelled set tick now.rows ≡ rows_cancelled set tick old.rows
  pub tallies_as : tallies_cancelled set tick now.rows tallies ≡ tallies_cancelled set tick old.rows old_tallies

abbrev pub highest_due : Set → ℕ → List (Option Row) → Option Row
highest_due set tick rows = highest set (filter (is_due set tick) (pending rows))

pub can_still : (set : Set) (tick : ℕ) (rows : List (Option Row)) (tallies : List Tally) (r : Row) → IsCompiled set → CanCancel set rows tallies → highest_due set tick rows ≡ Some r
    → CanCancel set (rows_without rows r.job) (tallies_after tallies r.job.tx.0 end.Late)
can_still set tick rows tallies r ok can top =
    let frame : Frame set (rows_without rows r.job) = frame_without set rows r.job can.frame in
    record {
      frame = frame;
      count = length-set tallies r.job.tx.0 (counted (tally_of tallies r.job.tx.0) end.Late) ∙ can.count;
      few = λ n. omega (arith, can.few n, tally_set tallies r.job.tx.0 n end.Late, pending_less set tick rows r ok can.frame top);
    }

pub cancels : (set : Set) (tick : ℕ) (old now next : PendingSeen) (old_tallies tallies next_tallies : List Tally) (job : JobId) → AreFactsOf set old.facts
    → Cancelling set tick old now old_tallies tallies → Some job ≡ option_map (λ (r : Row). r.job) (highest_due set tick now.rows)
    → next ≡ record now { rows = rows_without now.rows job } → next_tallies ≡ tallies_after tallies job.tx.0 end.Late
    → Cancelling set tick old next old_tallies next_tallies
cancels set tick old now next old_tallies tallies next_tallies job facts c due en et =
    let named = row_named (highest_due set tick now.rows) job due in
    let r : Row = named.0 in
    let is : record now { rows = rows_without now.rows r.job } ≡ next = ap (λ (k : JobId). record now { rows = rows_without now.rows k }) named.2 ∙ sym en in
    let is_t : tallies_after tallies r.job.tx.0 end.Late ≡ next_tallies = ap (λ (k : JobId). tallies_after tallies k.tx.0 end.Late) named.2 ∙ sym et in
    let more : late_jobs set tick now.rows ≡ r.job ∷ late_jobs set tick (rows_without now.rows r.job) = late_next set tick now.rows r facts.compiled c.can.frame named.1 in
    let done : Cancelling set tick old (record now { rows = rows_without now.rows r.job }) old_tallies (tallies_after tallies r.job.tx.0 end.Late) = record {
      facts = c.facts;
      can = can_still set tick now.rows tallies r facts.compiled c.can named.1;
      rows = sym (ap (fold rows_without now.rows) more) ∙ c.rows;
      tallies_as = sym (ap (fold tally_late tallies) more) ∙ c.tallies_as;
    } in
    subst (λ (p : PendingSeen). Cancelling set tick old p old_tallies next_tallies) is
    (subst (λ (l : List Tally). Cancelling set tick old (record now { rows = rows_without now.rows r.job }) old_tallies l) is_t done)

-- none is due

pub none_late : (set : Set) (tick : ℕ) (rows : List (Option Row)) → highest_due set tick rows ≡ None → late_jobs set tick rows ≡ []
none_late set tick rows h =
    ap (λ (l : List Row). map (λ (r : Row). r.job) (in_falling_priority set l)) (highest_none set (filter (is_due set tick) (pending rows)) h)

pub cancelled_all : (set : Set) (tick : ℕ) (old now : PendingSeen) (old_tallies tallies : List Tally) → Cancelling set tick old now old_tallies tallies → none_job ≡ option_map (λ (r : Row). r.job) (highest_due set tick now.rows)
    → (now ≡ record old { rows = rows_cancelled set tick old.rows }) × (tallies ≡ tallies_cancelled set tick old.rows old_tallies)
cancelled_all set tick old now old_tallies tallies c due =
    let none : late_jobs set tick now.rows ≡ [] = none_late set tick now.rows (none_named (highest_due set tick now.rows) due) in
    let rows : now.rows ≡ rows_cancelled set tick old.rows = sym (ap (fold rows_without now.rows) none) ∙ c.rows in
    let all : record { facts = now.facts; rows = now.rows } ≡ record { facts = old.facts; rows = rows_cancelled set tick old.rows } =
    ap (λ (f : Facts). record { facts = f; rows = now.rows }) c.facts ∙ ap (λ (l : List (Option Row)). record { facts = old.facts; rows = l }) rows in
    (all, sym (ap (fold tally_late tallies) none) ∙ c.tallies_as)

pub cancelling_nothing : (set : Set) (tick : ℕ) (p : PendingSeen) (tallies : List Tally) → CanCancel set p.rows tallies → Cancelling set tick p p tallies tallies
cancelling_nothing set tick p tallies can = record { facts = refl; can = can; rows = refl; tallies_as = refl }

-- the least deadline is later

no_row : (l : List Row) → ((x : Row) → In x l → ⊥) → l ≡ []
no_row [] h = refl
no_row (x ∷ xs) h = absurd (h x (inl refl))

pub nothing_late : (set : Set) (tick : ℕ) (rows : List (Option Row)) → ((n : ℕ) (x : Row) → row_of rows n ≡ Some x → x.release + (txn_of set x.job.tx.0).deadline ≢ tick) → late_jobs set tick rows ≡ []
nothing_late set tick rows h =
    ap (λ (l : List Row). map (λ (r : Row). r.job) (in_falling_priority set l))
    (no_row (filter (is_due set tick) (pending rows)) (λ x i.
    let f = filter_in (is_due set tick) x (pending rows) i in
    let at = pending_in rows x f.0 in
    h at.0 x at.1 (eqb-true _ _ f.1)))

pub never_late : (set : Set) (tick least : ℕ) (p : PendingSeen) → AreFactsOf set p.facts → IsLeastDeadline p.facts.deadlines p.rows least → tick < least → late_jobs set tick p.rows ≡ []
never_late set tick least p facts is lt =
    nothing_late set tick p.rows (λ n x h e.
    let at : get_or p.facts.deadlines x.job.tx.0 0 ≡ (txn_of set x.job.tx.0).deadline =
    ap (λ (l : List ℕ). get_or l x.job.tx.0 0) facts.deadlines ∙ get_or-map (λ (t : TxnDecl). t.deadline) set.txns x.job.tx.0 no_txn in
    let le : least ≤ deadline_of p.facts.deadlines x = is.least n x h in
    absurd (omega arith))

pub none_pending : (set : Set) (tick : ℕ) (rows : List (Option Row)) → pending rows ≡ [] → late_jobs set tick rows ≡ []
none_pending set tick rows h = ap (λ (l : List Row). map (λ (r : Row). r.job) (in_falling_priority set (filter (is_due set tick) l))) h

pub cancelled_none : (set : Set) (tick : ℕ) (p : PendingSeen) → late_jobs set tick p.rows ≡ [] → p ≡ record p { rows = rows_cancelled set tick p.rows }
cancelled_none set tick p none = ap (λ (l : List JobId). record p { rows = fold rows_without p.rows l }) (sym none)

pub late_row : (set : Set) (tick : ℕ) (p : PendingSeen) (job : JobId) → Frame set p.rows → Some job ≡ option_map (λ (r : Row). r.job) (highest_due set tick p.rows) → (r : Row) × (row_of p.rows job.tx.0 ≡ Some r) × (r.job ≡ job)
late_row set tick p job frame due =
    let named = row_named (highest_due set tick p.rows) job due in
    let here = (late_is set tick p.rows named.0 frame named.1).here in
    (named.0, subst (λ (k : JobId). row_of p.rows k.tx.0 ≡ Some named.0) named.2 here, named.2)

pub ended_late : (set : Set) (tick : ℕ) (old now next : PendingSeen) (old_tallies tallies : List Tally) (job : JobId) → Cancelling set tick old now old_tallies tallies → Some job ≡ option_map (λ (r : Row). r.job) (highest_due set tick now.rows)
    → ((row : Row) → row_of now.rows job.tx.0 ≡ Some row → next ≡ record now { rows = rows_ended now.rows row }) → next ≡ record now { rows = rows_without now.rows job }
ended_late set tick old now next old_tallies tallies job c due ends =
    let r = late_row set tick now job c.can.frame due in
    ends r.0 r.1 ∙ ap (λ (k : JobId). record now { rows = rows_without now.rows k }) r.2

pub late_in_range : (set : Set) (tick : ℕ) (p : PendingSeen) (job : JobId) → Frame set p.rows → Some job ≡ option_map (λ (r : Row). r.job) (highest_due set tick p.rows) → job.tx.0 < length p.rows
late_in_range set tick p job frame due = let r = late_row set tick p job frame due in in_range p.rows job.tx.0 r.0 r.1

pub late_less : (set : Set) (tick : ℕ) (now next : PendingSeen) (job : JobId) → IsCompiled set → Frame set now.rows → Some job ≡ option_map (λ (r : Row). r.job) (highest_due set tick now.rows)
    → next ≡ record now { rows = rows_without now.rows job } → length (pending next.rows) < length (pending now.rows)
late_less set tick now next job ok frame due is =
    let named = row_named (highest_due set tick now.rows) job due in
    let same : length (pending next.rows) ≡ length (pending (rows_without now.rows named.0.job)) =
    ap (λ (p : PendingSeen). length (pending p.rows)) is ∙ ap (λ (k : JobId). length (pending (rows_without now.rows k))) (sym named.2) in
    omega (arith, pending_less set tick now.rows named.0 ok frame named.1)

pub facts_of : (set : Set) (now old : Facts) → now ≡ old → AreFactsOf set old → AreFactsOf set now
facts_of set now old e h = subst (AreFactsOf set) (sym e) h

pub default_none : (o : Option JobId) → ((job : JobId) → o ≡ Some job → ⊥) → o ≡ none_job
default_none None h = refl
default_none (Some job) h = absurd (h job refl)
