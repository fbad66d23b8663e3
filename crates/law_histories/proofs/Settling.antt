-- The effect of a granted step keeps what is known: a commit that is judged good is fresh and together by the verdict
-- itself.
use Rattle.std.proofs.Common.{◌≡◌, ◌≢◌, ℕ, ◌+◌, ◌==◌, Bool, true, false, cond, List, [], ◌∷◌, ◌++◌, Option, None, Some, set as with_item, refl, ap, sym, ◌∙◌, subst, arith}
use Rattle.std.proofs.lemmas.List.{append-nil}
use Rattle.std.proofs.lemmas.List.Elements.{filter_map-append}
use Rattle.std.proofs.lemmas.Bool.{eq-eqb}
use Rattle.std.specs.Prelude.{IsTrue}
use Rattle.std.specs.List.{filter_map, cons_option}
use Rattle.rt_base.specs.declared.ids.JobId.{JobId}
use Rattle.rt_base.specs.declared.operation.Op.{Op}
use Rattle.rt_base.specs.declared.operation.Op.TheVariants.{Commit, Quit}
use Rattle.rt_base.specs.declared.operation.Outcome.{Outcome}
use Rattle.rt_base.specs.declared.operation.End.{End}
use Rattle.rt_base.specs.declared.operation.End.TheVariants as end
use Rattle.step_journal.specs.declared.entry.Entry.{Entry}
use Rattle.step_journal.specs.declared.entry.Entry.TheVariants.{Step}
use Rattle.txn_set.specs.Set.{Set, txn_of, IsTheWriter, IsCompiled}
use Rattle.item_model.specs.Kinds.{is_dated}
use Rattle.item_model.specs.Work.{Work, stored_of, outcome_of, work_after, is_complete, has_written, items_after, verdict, stamp_for}
use Rattle.item_model.specs.declared.stored.OutsideRead.{OutsideRead}
use Rattle.step_journal.specs.State.{State, Row, same_job}
use Rattle.step_journal.specs.declared.entry.EndedJob.{EndedJob}
use Rattle.step_journal.specs.Instant.{with_end}
use Rattle.step_journal.specs.Step.{given, may_ask, row_after, end_by, settled}
use Rattle.step_journal.specs.Timing.{outside_read, read_in, outside_reads_of, planned_tick_in}
use Rattle.law_histories.proofs.Members.{In}
use Rattle.law_histories.proofs.Invariant.{Runs}
use Rattle.law_histories.proofs.Holding.{in_find}
use Rattle.law_histories.proofs.Calendar.{Sound}
use Rattle.law_histories.proofs.Alone.{item_stays}
use Rattle.law_histories.proofs.Serials.{Serial}
use Rattle.law_histories.proofs.Noted.{Knows, alone_knows, one_current}
use Rattle.law_histories.proofs.Stamps.{same_stamp}
use Rattle.law_histories.proofs.Known.{Known, Judged, IsByCommit, Sourced, ended_job, known_same, later_known, sourced_more, sourced_new, end_known, put_known}
use Rattle.law_histories.proofs.Installs.{dated_in_range, after_count, written_stamp, complete_wrote}
use Rattle.law_histories.proofs.SerialSteps.{other_false}

-- the ticks for which jobs of a transaction were planned
abbrev pub planned_in : List Entry → ℕ → List ℕ
planned_in es tx = filter_map (planned_tick_in tx) es

-- one more entry

pub reads_more : (es : List Entry) (e : Entry) (job : JobId) (o : Option OutsideRead) → read_in job e ≡ o → outside_reads_of (es ++ e ∷ []) job ≡ outside_reads_of es job ++ cons_option o []
reads_more es e job o h = filter_map-append (read_in job) es (e ∷ []) ∙ ap (λ (p : Option OutsideRead). outside_reads_of es job ++ cons_option p []) h

pub ticks_more : (es : List Entry) (e : Entry) (tx : ℕ) (o : Option ℕ) → planned_tick_in tx e ≡ o → planned_in (es ++ e ∷ []) tx ≡ planned_in es tx ++ cons_option o []
ticks_more es e tx o h = filter_map-append (planned_tick_in tx) es (e ∷ []) ∙ ap (λ (p : Option ℕ). planned_in es tx ++ cons_option p []) h

none_read : (b : Bool) (o : Option OutsideRead) → o ≡ None → cond b o None ≡ None
none_read true o e = e
none_read false o e = refl

commit_reads : (op : Op) (out : Outcome) → op ≡ Commit → outside_read op out ≡ None
commit_reads op out e = ap (λ (o : Op). outside_read o out) e

-- which operation ends a job by a commit

steps_not_at : (b : Bool) (e : End) → given b end.Overrun ≡ Some e → IsByCommit e → ⊥
steps_not_at true e h c = (let s : end.Overrun ≡ e = cc in subst IsByCommit (sym s) c)
steps_not_at false e h c = cc

pub by_commit : (set : Set) (row : Row) (t : ℕ) (op : Op) (e : End) → end_by set row t op ≡ Some e → IsByCommit e → op ≡ Commit
by_commit set row t Commit e h c = refl
by_commit set row t Quit e h c = absurd (let s : end.Quit ≡ e = cc in subst IsByCommit (sym s) c)
by_commit set row t other e h c = absurd (steps_not_at (row.used == (txn_of set row.job.tx.0).steps) e h c)

some_is : (a b : End) → Some a ≡ Some b → a ≡ b
some_is a b h = cc

module _ (set : Set) (es : List Entry) (s : State) (x : Row) (op : Op) (over : Option End) (refused : JobId → Bool) (ok : IsCompiled set) (sound : Sound set refused (s.now + 1) s) (run : Runs set s.rows refused x)
    (may : may_ask set x op ≡ true) (serial : Serial set es s) (h : Known set (outside_reads_of es) (planned_in es) s.now s) where
  t : ℕ
  t = s.now + 1

  entry : Entry
  entry = Step x.job op (outcome_of s.items x.work op) over s.now

  longer : List Entry
  longer = es ++ entry ∷ []

  done_other : (e : EndedJob) → In e s.ended → x.job ≡ e.job → ⊥
  done_other e i same = let d = serial.done_row e x i run.here (ap (λ (k : JobId). k.tx.0) (sym same)) in omega (arith, d, ap (λ (k : JobId). k.serial) same)

  others_reads : (j : JobId) → (x.job ≡ j → ⊥) → outside_reads_of longer j ≡ outside_reads_of es j
  unfolding longer entry
  others_reads j ne = reads_more es (Step x.job op (outcome_of s.items x.work op) over s.now) j None (ap (λ (b : Bool). cond b (outside_read op (outcome_of s.items x.work op)) None) (other_false x.job j ne)) ∙ append-nil (outside_reads_of es j)

  same_ticks : (tx : ℕ) → planned_in longer tx ≡ planned_in es tx
  unfolding longer entry
  same_ticks tx = ticks_more es (Step x.job op (outcome_of s.items x.work op) over s.now) tx None refl ∙ append-nil (planned_in es tx)

  -- before the step's effect, by the longer list
  base : Known set (outside_reads_of longer) (planned_in longer) t s
  unfolding t
  base = later_known set (outside_reads_of longer) (planned_in longer) s.now (s.now + 1) s (omega arith)
      (known_same set (outside_reads_of es) (outside_reads_of longer) (planned_in es) (planned_in longer) s.now s (λ w i. others_reads w.job (done_other w i)) same_ticks h)

  next_row : Row
  next_row = row_after s x op

  row_known : Known set (outside_reads_of longer) (planned_in longer) t (record s { rows = with_item s.rows x.job.tx.0 (Some next_row) })
  unfolding next_row
  row_known = put_known set (outside_reads_of longer) (planned_in longer) t s x (row_after s x op) run.here refl refl base

  knows : Knows s.items (outside_reads_of es x.job) x.work
  knows = let a = serial.alone x run.here in alone_knows s.items es x.job x.work a.work a.outcomes

  own_reads : op ≡ Commit → outside_reads_of longer x.job ≡ outside_reads_of es x.job
  unfolding longer entry
  own_reads e = reads_more es (Step x.job op (outcome_of s.items x.work op) over s.now) x.job None (none_read (same_job x.job x.job) (outside_read op (outcome_of s.items x.work op)) (commit_reads op (outcome_of s.items x.work op) e)) ∙ append-nil (outside_reads_of es x.job)

  same_work : op ≡ Commit → (row_after s x op).work ≡ x.work
  same_work e = ap (work_after s.items x.work) e

  module _ (e : End) (ends : end_by set (row_after s x op) t op ≡ Some e) where
    new : EndedJob
    new = ended_job (row_after s x op) e t

    is_commit : IsByCommit e → op ≡ Commit
    is_commit c = by_commit set (row_after s x op) t op e ends c

    verdict_is : op ≡ Commit → e ≡ verdict set.items set.together (txn_of set x.job.tx.0).reads x.work t
    verdict_is c = let v : end_by set (row_after s x Commit) t Commit ≡ Some e = subst (λ (o : Op). end_by set (row_after s x o) t o ≡ Some e) c ends in
        sym (some_is (verdict set.items set.together (txn_of set x.job.tx.0).reads x.work t) e v)

    judged : IsByCommit e → Judged set (outside_reads_of longer) s.ended new
    unfolding new
    judged c =
        let o = is_commit c in
        let own = own_reads o in
        record {
          work = x.work;
          verdict = verdict_is o;
          declared = λ r i. (serial.declared x run.here).reads r.item.0 (in_find (λ (q : OutsideRead). q.item.0 == r.item.0) r x.work.reads i (eq-eqb r.item.0 r.item.0 refl));
          noted = λ r i. knows.noted r (subst (λ (l : List OutsideRead). In r l) own i);
          was_read = λ r i. subst (λ (l : List OutsideRead). In r l) (sym own) (knows.was_read r i);
          one = λ q r i j same. one_current s.items x.work.reads q r knows.current i j same;
          source = λ r tx i d w. subst (λ (n : ℕ). Sourced set (outside_reads_of longer) s.ended tx r.item.0 n) (sym (knows.current r i)) (base.items r.item.0 tx d w);
        }

    -- an item that is not written keeps its stamp, and its writer is another
    item_kept : (i tx : ℕ) → IsTrue (is_dated set.items i) → IsTheWriter set i tx → (e ≡ end.Committed → x.job.tx.0 ≢ tx) → stored_of (items_after set.items (row_after s x op).work x.release e s.items) i ≡ stored_of s.items i
        → Sourced set (outside_reads_of longer) (s.ended ++ new ∷ []) tx i (stored_of (items_after set.items (row_after s x op).work x.release e s.items) i).stamp
    unfolding new
    item_kept i tx d w other stays = sourced_more set (outside_reads_of longer) s.ended tx i (stored_of (items_after set.items (row_after s x op).work x.release e s.items) i).stamp (ended_job (row_after s x op) e t) other
        (subst (λ (n : ℕ). Sourced set (outside_reads_of longer) s.ended tx i n) (ap (λ q. q.stamp) (sym stays)) (base.items i tx d w))

    item_written : (i tx : ℕ) → IsTrue (is_dated set.items i) → IsTheWriter set i tx → e ≡ end.Committed → op ≡ Commit → has_written (row_after s x op).work i ≡ true
        → Sourced set (outside_reads_of longer) (s.ended ++ new ∷ []) tx i (stored_of (items_after set.items (row_after s x op).work x.release e s.items) i).stamp
    unfolding new
    item_written i tx d w committed o wrote =
        let v : Work = (row_after s x op).work in
        let same : (row_after s x op).work ≡ x.work = same_work o in
        let own : x.job.tx.0 ≡ tx = w.alone x.job.tx.0 ((serial.declared x run.here).writes i (ap (λ (k : Work). has_written k i) (sym same) ∙ wrote)) in
        let stamp : (stored_of (items_after set.items (row_after s x op).work x.release end.Committed s.items) i).stamp ≡ stamp_for set.items (row_after s x op).work x.release i = written_stamp set (row_after s x op).work x.release s.items i (omega (arith, dated_in_range set i d, h.count)) wrote in
        let reads = own_reads o in
        let by_reads : stamp_for set.items (row_after s x op).work x.release i ≡ stamp_for set.items (record { reads = outside_reads_of longer x.job; writes = [] }) x.release i =
        same_stamp set (row_after s x op).work (record { reads = outside_reads_of longer x.job; writes = [] }) x.release i
        (λ r j. subst (λ (l : List OutsideRead). In r l) (sym reads) (knows.was_read r (subst (λ (k : Work). In r k.reads) same j)))
        (λ r j. subst (λ (k : Work). In r k.reads) (sym same) (knows.noted r (subst (λ (l : List OutsideRead). In r l) reads j))) in
        sourced_new set (outside_reads_of longer) s.ended tx i (stored_of (items_after set.items (row_after s x op).work x.release e s.items) i).stamp (ended_job (row_after s x op) e t) committed own
        (ap (λ (k : End). (stored_of (items_after set.items (row_after s x op).work x.release k s.items) i).stamp) committed ∙ (stamp ∙ by_reads))

    committed_item : (i tx : ℕ) (b : Bool) → has_written (row_after s x op).work i ≡ b → IsTrue (is_dated set.items i) → IsTheWriter set i tx → e ≡ end.Committed → op ≡ Commit
        → Sourced set (outside_reads_of longer) (s.ended ++ new ∷ []) tx i (stored_of (items_after set.items (row_after s x op).work x.release e s.items) i).stamp
    committed_item i tx true wrote d w committed o = item_written i tx d w committed o wrote
    committed_item i tx false wrote d w committed o =
        item_kept i tx d w (λ _ own.
        let complete : is_complete set.items (txn_of set x.job.tx.0).writes x.work ≡ true = subst (λ (k : Op). may_ask set x k ≡ true) o may in
        let c : is_complete set.items (txn_of set tx).writes x.work ≡ true = subst (λ (n : ℕ). is_complete set.items (txn_of set n).writes x.work ≡ true) own complete in
        let y : has_written x.work i ≡ true = complete_wrote set (txn_of set tx).writes x.work i c w.writes d in
        let n : has_written x.work i ≡ false = ap (λ (k : Work). has_written k i) (sym (same_work o)) ∙ wrote in
        cc (y, n))
        (item_stays set (row_after s x op).work x.release e s.items i wrote)

    sourced_at : (k : End) → e ≡ k → (i tx : ℕ) → IsTrue (is_dated set.items i) → IsTheWriter set i tx → Sourced set (outside_reads_of longer) (s.ended ++ new ∷ []) tx i (stored_of (items_after set.items (row_after s x op).work x.release e s.items) i).stamp
    sourced_at end.Committed is i tx d w = committed_item i tx (has_written (row_after s x op).work i) refl d w is (is_commit (subst IsByCommit (sym is) tt))
    sourced_at end.Overrun is i tx d w = item_kept i tx d w (λ c. absurd cc) (ap (λ (k : End). stored_of (items_after set.items (row_after s x op).work x.release k s.items) i) is)
    sourced_at end.Late is i tx d w = item_kept i tx d w (λ c. absurd cc) (ap (λ (k : End). stored_of (items_after set.items (row_after s x op).work x.release k s.items) i) is)
    sourced_at (end.Stale item stamp) is i tx d w = item_kept i tx d w (λ c. absurd cc) (ap (λ (k : End). stored_of (items_after set.items (row_after s x op).work x.release k s.items) i) is)
    sourced_at end.Quit is i tx d w = item_kept i tx d w (λ c. absurd cc) (ap (λ (k : End). stored_of (items_after set.items (row_after s x op).work x.release k s.items) i) is)
    sourced_at (end.Apart a b) is i tx d w = item_kept i tx d w (λ c. absurd cc) (ap (λ (k : End). stored_of (items_after set.items (row_after s x op).work x.release k s.items) i) is)

    ended_known : Known set (outside_reads_of longer) (planned_in longer) t (with_end (row_after s x op) e t (record s { items = items_after set.items (row_after s x op).work x.release e s.items }))
    unfolding new
    ended_known = end_known set (outside_reads_of longer) (planned_in longer) t s (row_after s x op) e (items_after set.items (row_after s x op).work x.release e s.items) (record { was = x; here = run.here; job = refl; release = refl }) base
        (after_count set (row_after s x op).work x.release e s.items) (sourced_at e refl) judged

  settled_at : (o : Option End) → end_by set (row_after s x op) t op ≡ o → Known set (outside_reads_of longer) (planned_in longer) t (settled set (row_after s x op) t o s)
  unfolding next_row
  settled_at None is = row_known
  settled_at (Some e) is = ended_known e is

  pub settled_known : Known set (outside_reads_of (es ++ Step x.job op (outcome_of s.items x.work op) over s.now ∷ [])) (planned_in (es ++ Step x.job op (outcome_of s.items x.work op) over s.now ∷ [])) (s.now + 1)
      (settled set (row_after s x op) (s.now + 1) (end_by set (row_after s x op) (s.now + 1) op) s)
  unfolding longer entry t
  settled_known = settled_at (end_by set (row_after s x op) (s.now + 1) op) refl
