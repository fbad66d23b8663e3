-- The invariant of serial replies: each pending job has read, written and been told what it would alone on the
-- present items, and the ended jobs what they would one after another. The end of a job is one more turn of the
-- serial run.
use Rattle.std.proofs.Common.{◌≡◌, ◌≢◌, ℕ, ◌<◌, ◌≤◌, true, List, [], ◌∷◌, ◌++◌, map, Option, None, refl, ap, sym, ◌∙◌, inl, inr, arith}
use Rattle.std.proofs.lemmas.List.{append-nil, map-append}
use Rattle.rt_base.specs.declared.ids.JobId.{JobId}
use Rattle.rt_base.specs.declared.operation.Outcome.{Outcome}
use Rattle.rt_base.specs.declared.operation.End.{End}
use Rattle.step_journal.specs.declared.entry.Entry.{Entry}
use Rattle.txn_set.specs.Set.{Set, txn_of, may_read, may_write}
use Rattle.item_model.specs.Work.{Work, no_work, stored_of, items_after, has_read, has_written}
use Rattle.item_model.specs.declared.stored.Stored.{Stored}
use Rattle.step_journal.specs.State.{State, Row, opening}
use Rattle.rt_base.specs.declared.release.Release.{Release}
use Rattle.step_journal.specs.declared.entry.EndedJob.{EndedJob}
use Rattle.step_journal.specs.Instant.{with_end}
use Rattle.step_journal.specs.Step.{plans_of}
use Rattle.step_journal.specs.Serial.{op_in, outcome_in, ops_of, outcomes_of, work_alone, outcomes_alone, serial_items, serial_outcomes}
use Rattle.law_histories.proofs.Members.{In}
use Rattle.law_histories.proofs.Invariant.{IsPending}
use Rattle.law_histories.proofs.Holding.{append_in}
use Rattle.law_histories.proofs.Ends.{left}
use Rattle.law_histories.proofs.Conflict.{IsDeclared}
use Rattle.law_histories.proofs.Alone.{alone_same, ops_more, outcomes_more_in, serial_items_same, serial_outcomes_same, serial_items_more, serial_outcomes_more, map_same}

-- a pending job has read and written, and was told, what it would alone on the present items
pub record IsAlone (items : List Stored) (es : List Entry) (x : Row) : Type 0 where
  pub work : x.work ≡ work_alone items no_work (ops_of es x.job)
  pub outcomes : outcomes_of es x.job ≡ outcomes_alone items no_work (ops_of es x.job)

-- a job that was not released took no step
pub record IsUntouched (es : List Entry) (job : JobId) : Type 0 where
  pub ops : ops_of es job ≡ []
  pub outcomes : outcomes_of es job ≡ []

-- the jobs of a transaction end in the order of their serials
abbrev pub AreRising : List EndedJob → Type 0
AreRising [] = Unit {0}
AreRising (e ∷ es) = ((d : EndedJob) → In d es → e.job.tx.0 ≡ d.job.tx.0 → e.job.serial < d.job.serial) × AreRising es

pub rising_more : (es : List EndedJob) (e : EndedJob) → AreRising es → ((d : EndedJob) → In d es → d.job.tx.0 ≡ e.job.tx.0 → d.job.serial < e.job.serial) → AreRising (es ++ e ∷ [])
rising_more [] e rising h = (λ d i. absurd i, tt)
rising_more (x ∷ es) e rising h = (
  λ d i same. elim (append_in d es (e ∷ []) i) [
    | inl old ↦ rising.0 d old same
    | inr new ↦ elim new [ inl is ↦ omega (arith, h x (inl refl) (same ∙ ap (λ (q : EndedJob). q.job.tx.0) is), ap (λ (q : EndedJob). q.job.serial) is) | inr none ↦ absurd none ]
  ],
  rising_more es e rising.1 (λ d i. h d (inr i)),
)

pub record Serial (set : Set) (es : List Entry) (s : State) : Type 0 where
  pub declared : (x : Row) → IsPending s.rows x → IsDeclared set x
  pub done_row : (e : EndedJob) (x : Row) → In e s.ended → IsPending s.rows x → e.job.tx.0 ≡ x.job.tx.0 → e.job.serial < x.job.serial
  pub done_plan : (e : EndedJob) (r : Release) → In e s.ended → In r s.planned → e.job.tx.0 ≡ r.job.tx.0 → e.job.serial < r.job.serial
  pub rising : AreRising s.ended
  pub done : (e : EndedJob) → In e s.ended → e.job.serial < (plans_of s e.job.tx.0).number
  pub alone : (x : Row) → IsPending s.rows x → IsAlone s.items es x
  pub planned_new : (r : Release) → In r s.planned → IsUntouched es r.job
  pub future_new : (j : JobId) → (plans_of s j.tx.0).number ≤ j.serial → IsUntouched es j
  pub items : s.items ≡ serial_items set es (opening set).items s.ended
  pub outcomes : map (λ e. outcomes_of es e.job) s.ended ≡ serial_outcomes set es (opening set).items s.ended

-- one more entry that is no step
pub quiet_entry : (set : Set) (es : List Entry) (e : Entry) (s : State) → ((j : JobId) → op_in j e ≡ None) → ((j : JobId) → outcome_in j e ≡ None) → Serial set es s → Serial set (es ++ e ∷ []) s
quiet_entry set es e s noop noout h =
    let ops : (j : JobId) → ops_of (es ++ e ∷ []) j ≡ ops_of es j = λ j. ops_more es e j None (noop j) ∙ append-nil (ops_of es j) in
    let outs : (j : JobId) → outcomes_of (es ++ e ∷ []) j ≡ outcomes_of es j = λ j. outcomes_more_in es e j None (noout j) ∙ append-nil (outcomes_of es j) in
    record {
      declared = h.declared;
      done_row = h.done_row;
      done_plan = h.done_plan;
      rising = h.rising;
      done = h.done;
      alone = λ x i. let a = h.alone x i in record {
        work = a.work ∙ ap (work_alone s.items no_work) (sym (ops x.job));
        outcomes = outs x.job ∙ (a.outcomes ∙ ap (outcomes_alone s.items no_work) (sym (ops x.job)));
      };
      planned_new = λ r i. let u = h.planned_new r i in record { ops = ops r.job ∙ u.ops; outcomes = outs r.job ∙ u.outcomes };
      future_new = λ j le. let u = h.future_new j le in record { ops = ops j ∙ u.ops; outcomes = outs j ∙ u.outcomes };
      items = h.items ∙ sym (serial_items_same set es (es ++ e ∷ []) s.ended (opening set).items (λ d i. ops d.job));
      outcomes = map_same es (es ++ e ∷ []) s.ended (λ d i. outs d.job) ∙ (h.outcomes ∙ sym (serial_outcomes_same set es (es ++ e ∷ []) s.ended (opening set).items (λ d i. ops d.job)));
    }

-- a row that stands for another with the same job and work
pub record SameWork (rows : List (Option Row)) (y : Row) : Type 0 where
  pub was : Row
  pub here : IsPending rows was
  pub job : y.job ≡ was.job
  pub work : y.work ≡ was.work

declared_from : (set : Set) (x y : Row) → y.job ≡ x.job → y.work ≡ x.work → IsDeclared set x → IsDeclared set y
declared_from set x y job work d = record {
  reads = λ i h. ap (λ (k : JobId). may_read (txn_of set k.tx.0) i) job ∙ d.reads i (ap (λ (w : Work). has_read w i) (sym work) ∙ h);
  writes = λ i h. ap (λ (k : JobId). may_write (txn_of set k.tx.0) i) job ∙ d.writes i (ap (λ (w : Work). has_written w i) (sym work) ∙ h);
}

alone_from : (items : List Stored) (es : List Entry) (x y : Row) → y.job ≡ x.job → y.work ≡ x.work → IsAlone items es x → IsAlone items es y
alone_from items es x y job work a = record {
  work = work ∙ (a.work ∙ ap (λ (k : JobId). work_alone items no_work (ops_of es k)) (sym job));
  outcomes = ap (outcomes_of es) job ∙ (a.outcomes ∙ ap (λ (k : JobId). outcomes_alone items no_work (ops_of es k)) (sym job));
}

pub rows_from : (set : Set) (es : List Entry) (s : State) (rows : List (Option Row)) → ((y : Row) → IsPending rows y → SameWork s.rows y) → Serial set es s → Serial set es (record s { rows = rows })
rows_from set es s rows from h = record {
  declared = λ x i. let f = from x i in declared_from set f.was x f.job f.work (h.declared f.was f.here);
  done_row = λ e x i j same. let f = from x j in let d = h.done_row e f.was i f.here (same ∙ ap (λ (k : JobId). k.tx.0) f.job) in omega (arith, d, ap (λ (k : JobId). k.serial) f.job);
  done_plan = h.done_plan;
  rising = h.rising;
  done = h.done;
  alone = λ x i. let f = from x i in alone_from s.items es f.was x f.job f.work (h.alone f.was f.here);
  planned_new = h.planned_new;
  future_new = h.future_new;
  items = h.items;
  outcomes = h.outcomes;
}

-- the end of a pending job, with its writes installed or not

-- what is known of a job that ends: it is pending, and the jobs of its transaction that are planned come after it
pub record MayEnd (s : State) (job : JobId) : Type 0 where
  pub row : Row
  pub here : IsPending s.rows row
  pub is : row.job ≡ job
  pub behind : (q : Release) → In q s.planned → job.tx.0 ≡ q.job.tx.0 → job.serial < q.job.serial
  pub below : job.serial < (plans_of s job.tx.0).number

-- the items after the end are those of the run alone, and no other pending job read what was written
pub end_serial : (set : Set) (es : List Entry) (s : State) (row : Row) (e : End) (tick : ℕ) (items : List Stored) → (m : MayEnd s row.job) → items ≡ items_after set.items m.row.work row.release e s.items
    → ((y : Row) (i : ℕ) → IsPending s.rows y → y.job.tx.0 ≢ row.job.tx.0 → has_read y.work i ≡ true → stored_of items i ≡ stored_of s.items i)
    → Serial set es s → Serial set es (with_end row e tick (record s { items = items }))
unfolding with_end
end_serial set es s row e tick items m after apart h =
    let ended : EndedJob = record { job = row.job; release = row.release; end = e; tick = tick } in
    let a = h.alone m.row m.here in
    let ops : ops_of es m.row.job ≡ ops_of es row.job = ap (ops_of es) m.is in
    let work : m.row.work ≡ work_alone s.items no_work (ops_of es row.job) = a.work ∙ ap (work_alone s.items no_work) ops in
    let outs : outcomes_of es row.job ≡ outcomes_alone s.items no_work (ops_of es row.job) = ap (outcomes_of es) (sym m.is) ∙ (a.outcomes ∙ ap (outcomes_alone s.items no_work) ops) in
    record {
      declared = λ x i. let l = left s.rows row.job x i in declared_from set l.was x (ap (λ (q : Row). q.job) l.is) (ap (λ (q : Row). q.work) l.is) (h.declared l.was l.here);
      done_row = λ d x i j same.
          let l = left s.rows row.job x j in
          let k : x.job ≡ l.was.job = ap (λ (q : Row). q.job) l.is in
          elim (append_in d s.ended (ended ∷ []) i) [
            | inl old ↦ (let r = h.done_row d l.was old l.here (same ∙ ap (λ (q : JobId). q.tx.0) k) in omega (arith, r, ap (λ (q : JobId). q.serial) k))
            | inr new ↦ elim new [ inl is ↦ absurd (l.other (sym (ap (λ (q : JobId). q.tx.0) k) ∙ (sym same ∙ ap (λ (q : EndedJob). q.job.tx.0) is))) | inr none ↦ absurd none ]
          ];
      rising = rising_more s.ended ended h.rising (λ d i same.
          let r = h.done_row d m.row i m.here (same ∙ ap (λ (q : JobId). q.tx.0) (sym m.is)) in
          omega (arith, r, ap (λ (q : JobId). q.serial) m.is));
      done_plan = λ d r i j same. elim (append_in d s.ended (ended ∷ []) i) [
        | inl old ↦ h.done_plan d r old j same
        | inr new ↦ elim new [ inl is ↦ (let b = m.behind r j (sym (ap (λ (q : EndedJob). q.job.tx.0) is) ∙ same) in omega (arith, b, ap (λ (q : EndedJob). q.job.serial) is)) | inr none ↦ absurd none ]
      ];
      done = λ d i. elim (append_in d s.ended (ended ∷ []) i) [
        | inl old ↦ h.done d old
        | inr new ↦ elim new [ inl is ↦ omega (arith, m.below, ap (λ (q : EndedJob). q.job.serial) is, ap (λ (q : EndedJob). (plans_of s q.job.tx.0).number) is) | inr none ↦ absurd none ]
      ];
      alone = λ x i.
          let l = left s.rows row.job x i in
          let o = h.alone l.was l.here in
          let agree = alone_same s.items items no_work (ops_of es l.was.job) (λ k r. sym (apart l.was k l.here l.other (ap (λ (w : Work). has_read w k) o.work ∙ r))) in
          alone_from items es l.was x (ap (λ (q : Row). q.job) l.is) (ap (λ (q : Row). q.work) l.is) (record { work = o.work ∙ sym agree.1; outcomes = o.outcomes ∙ sym agree.0 });
      planned_new = h.planned_new;
      future_new = h.future_new;
      items =
          after ∙ (ap (λ (w : Work). items_after set.items w row.release e s.items) work
          ∙ (ap (λ (l : List Stored). items_after set.items (work_alone l no_work (ops_of es row.job)) row.release e l) h.items
          ∙ sym (serial_items_more set es s.ended ended (opening set).items)));
      outcomes =
          map-append (λ (d : EndedJob). outcomes_of es d.job) s.ended (ended ∷ [])
          ∙ (ap (λ (l : List (List Outcome)). l ++ outcomes_of es row.job ∷ []) h.outcomes
          ∙ (ap (λ (l : List Outcome). serial_outcomes set es (opening set).items s.ended ++ l ∷ []) (outs ∙ ap (λ (k : List Stored). outcomes_alone k no_work (ops_of es row.job)) h.items)
          ∙ sym (serial_outcomes_more set es s.ended ended (opening set).items)));
    }
