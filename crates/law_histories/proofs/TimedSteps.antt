-- Steps and plans keep that no job of an item's writer commits between a read of the item and the end of the reader.
use Rattle.std.proofs.Common.{◌≡◌, ◌≢◌, ◌⊎◌, ℕ, ◌+◌, ◌<◌, ◌==◌, Bool, true, false, cond, List, [], ◌∷◌, ◌++◌, length, Option, None, Some, set as with_item, refl, ap, sym, ◌∙◌, subst, inl, inr, arith}
use Rattle.std.proofs.lemmas.List.{append-nil}
use Rattle.std.proofs.lemmas.Bool.{cases_eq, eq-eqb, or_left}
use Rattle.std.specs.List.{cons_option}
use Rattle.std.specs.Option.{option_map}
use Rattle.rt_base.specs.declared.ids.JobId.{JobId}
use Rattle.rt_base.specs.declared.operation.Op.{Op}
use Rattle.rt_base.specs.declared.operation.Op.TheVariants.{Commit}
use Rattle.rt_base.specs.declared.operation.End.{End}
use Rattle.rt_base.specs.declared.operation.End.TheVariants as end
use Rattle.step_journal.specs.declared.entry.Entry.{Entry}
use Rattle.step_journal.specs.declared.entry.Entry.TheVariants.{Step}
use Rattle.txn_set.specs.Set.{Set, txn_of, IsCompiled, IsTheWriter}
use Rattle.item_model.specs.Kinds.{is_dated}
use Rattle.item_model.specs.Work.{outcome_of, has_read, has_written, is_complete, items_after}
use Rattle.item_model.specs.declared.stored.OutsideRead.{OutsideRead}
use Rattle.step_journal.specs.State.{State, Row, new_row, same_job}
use Rattle.step_journal.specs.declared.entry.EndedJob.{EndedJob}
use Rattle.step_journal.specs.Instant.{with_row, with_end}
use Rattle.step_journal.specs.Step.{next_job, with_plan, may_ask, row_after, end_by, settled}
use Rattle.step_journal.specs.Timing.{outside_read, outside_reads_of}
use Rattle.law_histories.proofs.Members.{In}
use Rattle.law_histories.proofs.Invariant.{IsPending, Runs, in_range, same_row, written}
use Rattle.law_histories.proofs.Holding.{append_in, in_find}
use Rattle.law_histories.proofs.Calendar.{Sound, named_from}
use Rattle.law_histories.proofs.Conflict.{conflict}
use Rattle.law_histories.proofs.Serials.{Serial}
use Rattle.law_histories.specs.Commits.{TimedRead, timed_reads_of}
use Rattle.law_histories.proofs.Noted.{alone_knows}
use Rattle.law_histories.proofs.Known.{Known, IsByCommit}
use Rattle.law_histories.proofs.Installs.{complete_wrote}
use Rattle.law_histories.proofs.Settling.{by_commit, planned_in}
use Rattle.law_histories.proofs.Timed.{NoneSince, Timed, timed_read, timed_more, timed_same, end_timed, rows_timed}
use Rattle.law_histories.proofs.SerialSteps.{other_false}

-- a plan

module _ (set : Set) (refused : JobId → Bool) (s : State) (tx tick : ℕ) (sound : Sound set refused (s.now + 1) s) (in_set : tx < length set.txns) (times : JobId → List TimedRead)
    (fresh : (q : TimedRead) → In q (times (next_job s tx)) → ⊥) (h : Timed set times s) where
  at_once : Timed set times (record s { rows = with_row tick s.rows (next_job s tx) })
  at_once = record {
    row_last = λ y i. elim (written s.rows tx (new_row (next_job s tx) tick) y (omega (arith, in_set, sound.frame.count)) refl i) [
      | inl e ↦ (λ q w u j. absurd (fresh q (subst (λ (r : Row). In q (times r.job)) e j)))
      | inr o ↦ h.row_last y o.1
    ];
    ends = h.ends;
  }

  plan_at : (b : Bool) → Timed set times (record s { rows = cond b (with_row tick s.rows (next_job s tx)) s.rows })
  plan_at true = at_once
  plan_at false = h

  pub plan_timed : Timed set times (with_plan s tx tick)
  unfolding with_plan
  plan_timed = let k = plan_at (tick == s.now) in record { row_last = k.row_last; ends = k.ends }

-- the effect of a granted step

new_time_at : (qs : List TimedRead) (o : Option OutsideRead) (tick : ℕ) (b : Bool) (q : TimedRead) → In q (qs ++ cons_option (cond b (option_map (λ r. record { read = r; tick = tick }) o) None) []) → In q qs ⊎ (q.tick ≡ tick)
new_time_at qs (Some r) tick true q i = elim (append_in q qs (record { read = r; tick = tick } ∷ []) i) [ inl old ↦ inl old | inr n ↦ elim n [ inl e ↦ inr (ap (λ (k : TimedRead). k.tick) e) | inr none ↦ absurd none ] ]
new_time_at qs None tick true q i = elim (append_in q qs [] i) [ inl old ↦ inl old | inr none ↦ absurd none ]
new_time_at qs o tick false q i = elim (append_in q qs [] i) [ inl old ↦ inl old | inr none ↦ absurd none ]

module _ (set : Set) (es : List Entry) (s : State) (x : Row) (op : Op) (over : Option End) (refused : JobId → Bool) (ok : IsCompiled set) (sound : Sound set refused (s.now + 1) s) (run : Runs set s.rows refused x)
    (may : may_ask set x op ≡ true) (serial : Serial set es s) (known : Known set (outside_reads_of es) (planned_in es) s.now s) (h : Timed set (timed_reads_of es) s) where
  t : ℕ
  t = s.now + 1

  entry : Entry
  entry = Step x.job op (outcome_of s.items x.work op) over s.now

  longer : List Entry
  longer = es ++ entry ∷ []

  others_times : (j : JobId) → (x.job ≡ j → ⊥) → timed_reads_of longer j ≡ timed_reads_of es j
  unfolding longer entry
  others_times j ne = timed_more es (Step x.job op (outcome_of s.items x.work op) over s.now) j None (ap (λ (b : Bool). cond b (option_map (λ r. record { read = r; tick = s.now }) (outside_read op (outcome_of s.items x.work op))) None) (other_false x.job j ne)) ∙ append-nil (timed_reads_of es j)

  own_times : (q : TimedRead) → In q (timed_reads_of longer x.job) → In q (timed_reads_of es x.job) ⊎ (q.tick ≡ s.now)
  unfolding longer entry
  own_times q i = new_time_at (timed_reads_of es x.job) (outside_read op (outcome_of s.items x.work op)) s.now (same_job x.job x.job) q
      (subst (λ (l : List TimedRead). In q l) (timed_more es (Step x.job op (outcome_of s.items x.work op) over s.now) x.job (cond (same_job x.job x.job) (option_map (λ r. record { read = r; tick = s.now }) (outside_read op (outcome_of s.items x.work op))) None) refl) i)

  done_other : (e : EndedJob) → In e s.ended → x.job ≡ e.job → ⊥
  done_other e i same = let d = serial.done_row e x i run.here (ap (λ (k : JobId). k.tx.0) (sym same)) in omega (arith, d, ap (λ (k : JobId). k.serial) same)

  own_last : NoneSince set (timed_reads_of longer x.job) s.ended
  own_last q w tx i j c d wr own = elim (own_times q i) [ inl old ↦ h.row_last x run.here q w tx old j c d wr own | inr now ↦ omega (arith, now, known.ended_by w j) ]

  base : Timed set (timed_reads_of longer) s
  base = timed_same set (timed_reads_of es) (timed_reads_of longer) s (λ w i. others_times w.job (done_other w i))
      (λ y i. elim (cases_eq y.job.tx.0 x.job.tx.0) [
        | inl same ↦ (let e : y ≡ x = same_row s.rows y x i run.here same in subst (λ (r : Row). NoneSince set (timed_reads_of longer r.job) s.ended) (sym e) own_last)
        | inr ne ↦ subst (λ (l : List TimedRead). NoneSince set l s.ended) (sym (others_times y.job (λ e. ne (ap (λ (k : JobId). k.tx.0) (sym e))))) (h.row_last y i)
      ]) h

  row_timed : Timed set (timed_reads_of longer) (record s { rows = with_item s.rows x.job.tx.0 (Some (row_after s x op)) })
  row_timed = rows_timed set (timed_reads_of longer) s (with_item s.rows x.job.tx.0 (Some (row_after s x op)))
      (λ y i. elim (written s.rows x.job.tx.0 (row_after s x op) y (in_range s.rows _ x run.here) refl i) [
        | inl e ↦ record { was = x; here = run.here; job = ap (λ (q : Row). q.job) e; release = ap (λ (q : Row). q.release) e }
        | inr o ↦ record { was = y; here = o.1; job = refl; release = refl }
      ]) base

  -- a pending job did not read what a committing job wrote
  unread : (y : Row) (q : TimedRead) (tx : ℕ) → IsPending s.rows y → y.job.tx.0 ≢ x.job.tx.0 → In q (timed_reads_of es y.job) → op ≡ Commit → is_dated set.items q.read.item.0 ≡ true → IsTheWriter set q.read.item.0 tx → x.job.tx.0 ≡ tx → ⊥
  unread y q tx here ne i o d w own =
      let a = serial.alone y here in
      let knows = alone_knows s.items es y.job y.work a.work a.outcomes in
      let r : In q.read y.work.reads = knows.noted q.read (timed_read es y.job q i) in
      let has : has_read y.work q.read.item.0 ≡ true = in_find (λ (k : OutsideRead). k.item.0 == q.read.item.0) q.read y.work.reads r (eq-eqb q.read.item.0 q.read.item.0 refl) in
      let complete : is_complete set.items (txn_of set x.job.tx.0).writes x.work ≡ true = subst (λ (k : Op). may_ask set x k ≡ true) o may in
      let c : is_complete set.items (txn_of set tx).writes x.work ≡ true = subst (λ (n : ℕ). is_complete set.items (txn_of set n).writes x.work ≡ true) own complete in
      let wrote : has_written x.work q.read.item.0 ≡ true = complete_wrote set (txn_of set tx).writes x.work q.read.item.0 c w.writes d in
      conflict set s.rows refused x y q.read.item.0 (named_from set s.rows ok sound.frame) sound.protocol (omega (arith, sound.frame.count)) run.here here (λ e. ne (sym e)) (serial.declared x run.here) (serial.declared y here) wrote (or_left _ _ has)

  ended_timed : (e : End) → end_by set (row_after s x op) t op ≡ Some e → Timed set (timed_reads_of longer) (with_end (row_after s x op) e t (record s { items = items_after set.items (row_after s x op).work x.release e s.items }))
  ended_timed e ends = end_timed set (timed_reads_of longer) t s (row_after s x op) e (items_after set.items (row_after s x op).work x.release e s.items) (record { was = x; here = run.here; job = refl; release = refl }) base
      (λ y here ne q w tx i j c d wr own. elim j [
        | inl is ↦ absurd (
            let committed : e ≡ end.Committed = sym (ap (λ (k : EndedJob). k.end) is) ∙ c in
            let o : op ≡ Commit = by_commit set (row_after s x op) t op e ends (subst IsByCommit (sym committed) tt) in
            let old : In q (timed_reads_of es y.job) = subst (λ (l : List TimedRead). In q l) (others_times y.job (λ e. ne (ap (λ (k : JobId). k.tx.0) (sym e)))) i in
            unread y q tx here ne old o d wr (sym (ap (λ (k : EndedJob). k.job.tx.0) is) ∙ own))
        | inr none ↦ absurd none
      ])

  settled_at : (o : Option End) → end_by set (row_after s x op) t op ≡ o → Timed set (timed_reads_of longer) (settled set (row_after s x op) t o s)
  settled_at None is = row_timed
  settled_at (Some e) is = ended_timed e is

  pub settled_timed : Timed set (timed_reads_of (es ++ Step x.job op (outcome_of s.items x.work op) over s.now ∷ [])) (settled set (row_after s x op) (s.now + 1) (end_by set (row_after s x op) (s.now + 1) op) s)
  unfolding longer entry t
  settled_timed = settled_at (end_by set (row_after s x op) (s.now + 1) op) refl
