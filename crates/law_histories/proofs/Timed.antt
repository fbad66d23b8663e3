-- No job of an item's writer commits between a read of the item and the end of the reader: the invariant, and how
-- ends keep it. The reader holds its lock until it ends, and the writer would need one too.
use Rattle.std.proofs.Common.{◌≡◌, ◌≢◌, ℕ, ◌≤◌, ◌==◌, Bool, true, false, cond, List, [], ◌∷◌, ◌++◌, map, Option, None, Some, get_or, refl, ap, sym, ◌∙◌, subst, inl, inr, arith, append_assoc}
use Rattle.std.proofs.lemmas.List.{append-nil}
use Rattle.std.proofs.lemmas.List.Elements.{filter_map-append}
use Rattle.std.specs.Prelude.{IsTrue}
use Rattle.std.specs.List.{fold, filter, cons_option}
use Rattle.std.specs.Option.{option_map}
use Rattle.rt_base.specs.declared.ids.JobId.{JobId}
use Rattle.rt_base.specs.declared.operation.End.{End}
use Rattle.rt_base.specs.declared.operation.End.TheVariants as end
use Rattle.rt_base.specs.declared.operation.End.TheVariants.{Late}
use Rattle.step_journal.specs.declared.entry.Entry.{Entry}
use Rattle.step_journal.specs.declared.entry.Entry.TheVariants.{Planned, Step, Blocked, Idle}
use Rattle.txn_set.specs.Set.{Set, IsTheWriter, IsCompiled}
use Rattle.item_model.specs.Kinds.{is_dated}
use Rattle.item_model.specs.declared.stored.OutsideRead.{OutsideRead}
use Rattle.item_model.specs.declared.stored.Stored.{Stored}
use Rattle.step_journal.specs.State.{State, Row, pending, same_job}
use Rattle.rt_base.specs.declared.release.Release.{Release}
use Rattle.step_journal.specs.declared.entry.EndedJob.{EndedJob}
use Rattle.step_journal.specs.LockRule.{in_falling_priority}
use Rattle.step_journal.specs.Instant.{with_end, with_late, is_due, with_cancellations, with_releases, arrived}
use Rattle.step_journal.specs.Timing.{outside_read, outside_reads_of}
use Rattle.step_journal.specs.Serial.{outcomes_of}
use Rattle.law_histories.proofs.Members.{In, filter_in, pending_in}
use Rattle.law_histories.proofs.Invariant.{IsPending}
use Rattle.law_histories.proofs.Holding.{append_in, in_map}
use Rattle.law_histories.proofs.Ends.{left}
use Rattle.law_histories.proofs.Calendar.{Sound, sorted_in, late_rows, after_cancelled, planned_before, due, after_due}
use Rattle.law_histories.proofs.SerialSteps.{AreDistinct, distinct_pending, distinct_filter, distinct_sorted}
use Rattle.law_histories.proofs.Serials.{IsUntouched}
use Rattle.law_histories.specs.Commits.{TimedRead, timed_in, timed_reads_of}
use Rattle.law_histories.proofs.Noted.{reads_by, reads_by_is}
use Rattle.law_histories.proofs.Known.{WillEnd, Stands, ended_job}
use Rattle.law_histories.proofs.Arriving.{later_will_end}

-- the timed reads are the outside reads

timed_at : (o : Option OutsideRead) (tick : ℕ) (qs : List TimedRead) (rs : List OutsideRead) (b : Bool) → map (λ q. q.read) qs ≡ rs → map (λ q. q.read) (cons_option (cond b (option_map (λ r. record { read = r; tick = tick }) o) None) qs) ≡ cons_option (cond b o None) rs
timed_at None tick qs rs true h = h
timed_at (Some r) tick qs rs true h = ap (λ (l : List OutsideRead). r ∷ l) h
timed_at o tick qs rs false h = h

pub timed_reads : (es : List Entry) (job : JobId) → map (λ q. q.read) (timed_reads_of es job) ≡ outside_reads_of es job
timed_reads [] job = refl
timed_reads (Step by op o over tick ∷ es) job = timed_at (outside_read op o) tick (timed_reads_of es job) (outside_reads_of es job) (same_job by job) (timed_reads es job)
timed_reads (Planned tx tick ∷ es) job = timed_reads es job
timed_reads (Blocked by op on ceiling tick ∷ es) job = timed_reads es job
timed_reads (Idle from to ∷ es) job = timed_reads es job

pub timed_read : (es : List Entry) (job : JobId) (q : TimedRead) → In q (timed_reads_of es job) → In q.read (outside_reads_of es job)
timed_read es job q i = subst (λ (l : List OutsideRead). In q.read l) (timed_reads es job) (in_map (λ (k : TimedRead). k.read) q (timed_reads_of es job) i)

pub untouched_none : (es : List Entry) (job : JobId) → IsUntouched es job → (q : TimedRead) → In q (timed_reads_of es job) → ⊥
untouched_none es job u q i =
    let e : outside_reads_of es job ≡ [] = reads_by_is es job ∙ (ap (λ l. reads_by l (outcomes_of es job)) u.ops ∙ ap (reads_by []) u.outcomes) in
    subst (λ (l : List OutsideRead). In q.read l) e (timed_read es job q i)

pub timed_more : (es : List Entry) (e : Entry) (job : JobId) (o : Option TimedRead) → timed_in job e ≡ o → timed_reads_of (es ++ e ∷ []) job ≡ timed_reads_of es job ++ cons_option o []
timed_more es e job o h = filter_map-append (timed_in job) es (e ∷ []) ∙ ap (λ (p : Option TimedRead). timed_reads_of es job ++ cons_option p []) h

-- none of these jobs is one of an item's writer that committed after the item was read
abbrev pub NoneSince : Set → List TimedRead → List EndedJob → Type 0
NoneSince set qs jobs =
    (q : TimedRead) (w : EndedJob) (tx : ℕ) → In q qs → In w jobs → w.end ≡ end.Committed → IsTrue (is_dated set.items q.read.item.0) → IsTheWriter set q.read.item.0 tx → w.job.tx.0 ≡ tx → w.tick ≤ q.tick

abbrev pub AreTimed : Set → (JobId → List TimedRead) → List EndedJob → List EndedJob → Type 0
AreTimed set times before [] = Unit {0}
AreTimed set times before (e ∷ es) = NoneSince set (times e.job) before × AreTimed set times (before ++ e ∷ []) es

pub record Timed (set : Set) (times : JobId → List TimedRead) (s : State) : Type 0 where
  pub row_last : (x : Row) → IsPending s.rows x → NoneSince set (times x.job) s.ended
  pub ends : AreTimed set times [] s.ended

pub timed_split : (set : Set) (times : JobId → List TimedRead) (b before after : List EndedJob) (e : EndedJob) → AreTimed set times b (before ++ e ∷ after) → NoneSince set (times e.job) (b ++ before)
timed_split set times b [] after e h = subst (λ (l : List EndedJob). NoneSince set (times e.job) l) (sym (append-nil b)) h.0
timed_split set times b (x ∷ before) after e h = subst (λ (l : List EndedJob). NoneSince set (times e.job) l) (append_assoc b (x ∷ []) before) (timed_split set times (b ++ x ∷ []) before after e h.1)

-- by another account of the reads
timed_ends_same : (set : Set) (times times' : JobId → List TimedRead) (before es : List EndedJob) → ((w : EndedJob) → In w es → times' w.job ≡ times w.job) → AreTimed set times before es → AreTimed set times' before es
timed_ends_same set times times' before [] same h = tt
timed_ends_same set times times' before (e ∷ es) same h = (subst (λ (l : List TimedRead). NoneSince set l before) (sym (same e (inl refl))) h.0, timed_ends_same set times times' (before ++ e ∷ []) es (λ w i. same w (inr i)) h.1)

pub timed_same : (set : Set) (times times' : JobId → List TimedRead) (s : State) → ((w : EndedJob) → In w s.ended → times' w.job ≡ times w.job) → ((x : Row) → IsPending s.rows x → NoneSince set (times' x.job) s.ended) → Timed set times s → Timed set times' s
timed_same set times times' s same rows h = record { row_last = rows; ends = timed_ends_same set times times' [] s.ended same h.ends }

timed_ends_more : (set : Set) (times : JobId → List TimedRead) (before es : List EndedJob) (e : EndedJob) → AreTimed set times before es → NoneSince set (times e.job) (before ++ es) → AreTimed set times before (es ++ e ∷ [])
timed_ends_more set times before [] e h new = (subst (λ (l : List EndedJob). NoneSince set (times e.job) l) (append-nil before) new, tt)
timed_ends_more set times before (x ∷ es) e h new = (h.0, timed_ends_more set times (before ++ x ∷ []) es e h.1 (subst (λ (l : List EndedJob). NoneSince set (times e.job) l) (sym (append_assoc before (x ∷ []) es)) new))

-- the end of a job

pub end_timed : (set : Set) (times : JobId → List TimedRead) (t : ℕ) (s : State) (row : Row) (e : End) (items : List Stored) → WillEnd s row → Timed set times s
    → ((y : Row) → IsPending s.rows y → y.job.tx.0 ≢ row.job.tx.0 → NoneSince set (times y.job) (ended_job row e t ∷ [])) → Timed set times (with_end row e t (record s { items = items }))
unfolding with_end
end_timed set times t s row e items m h apart = record {
  row_last = λ x i q w tx j k.
      let l = left s.rows row.job x i in
      let job : x.job ≡ l.was.job = ap (λ (r : Row). r.job) l.is in
      let j' : In q (times l.was.job) = subst (λ (n : JobId). In q (times n)) job j in
      elim (append_in w s.ended (ended_job row e t ∷ []) k) [ inl old ↦ h.row_last l.was l.here q w tx j' old | inr new ↦ apart l.was l.here l.other q w tx j' new ];
  ends = timed_ends_more set times [] s.ended (ended_job row e t) h.ends (subst (λ (n : JobId). NoneSince set (times n) s.ended) m.job (h.row_last m.was m.here));
}

late_timed : (set : Set) (times : JobId → List TimedRead) (t : ℕ) (gone : List Row) (s : State) → AreDistinct gone → ((r : Row) → In r gone → WillEnd s r) → Timed set times s → Timed set times (fold (with_late t) s gone)
late_timed set times t [] s d may h = h
late_timed set times t (r ∷ rs) s d may h =
    let next : Timed set times (with_late t s r) = end_timed set times t s r Late s.items (may r (inl refl)) h (λ y i ne q w tx j k c. elim k [ inl is ↦ absurd (let e : Late ≡ end.Committed = sym (ap (λ (v : EndedJob). v.end) is) ∙ c in cc) | inr none ↦ absurd none ]) in
    late_timed set times t rs (with_late t s r) d.1 (λ q i. later_will_end s t r q (d.0 q i) (may q (inr i))) next

pub rows_timed : (set : Set) (times : JobId → List TimedRead) (s : State) (rows : List (Option Row)) → ((y : Row) → IsPending rows y → Stands s.rows y) → Timed set times s → Timed set times (record s { rows = rows })
rows_timed set times s rows from h = record {
  row_last = λ x i. let f = from x i in subst (λ (n : JobId). NoneSince set (times n) s.ended) (sym f.job) (h.row_last f.was f.here);
  ends = h.ends;
}

-- to arrive at a tick
module _ (set : Set) (refused : JobId → Bool) (t : ℕ) (s : State) (ok : IsCompiled set) (sound : Sound set refused t s) (times : JobId → List TimedRead)
    (fresh : (r : Release) → In r s.planned → (q : TimedRead) → In q (times r.job) → ⊥) (h : Timed set times s) where
  after_late_timed : Timed set times (after_cancelled set refused t s ok sound)
  unfolding after_cancelled late_rows
  after_late_timed =
      let start : Timed set times (record s { now = t }) = record { row_last = h.row_last; ends = h.ends } in
      late_timed set times t (in_falling_priority set (filter (is_due set t) (pending s.rows))) (record s { now = t })
      (distinct_sorted set (filter (is_due set t) (pending s.rows)) (distinct_filter (is_due set t) (pending s.rows) (distinct_pending s.rows 0 (λ n x e. omega (arith, sound.frame.named n x e)))))
      (λ r i.
      let f = filter_in (is_due set t) r (pending s.rows) (sorted_in set r (filter (is_due set t) (pending s.rows)) i) in
      let at = pending_in s.rows r f.0 in
      let here : IsPending s.rows r = subst (λ (k : ℕ). get_or s.rows k None ≡ Some r) (sym (sound.frame.named at.0 r at.1)) at.1 in
      record { was = r; here = here; job = refl; release = refl })
      start

  pub arrived_timed : Timed set times (arrived set t s)
  unfolding arrived with_releases with_cancellations after_cancelled due late_rows
  arrived_timed =
      let k = after_late_timed in
      let each = (after_due set refused t s ok sound).each in
      record {
        row_last = λ x i. elim (each x i) [
          | inl old ↦ k.row_last x old
          | inr c ↦ (λ q w tx j. absurd (
              let r = filter_in (λ (q : Release). q.tick == t) c.release (after_cancelled set refused t s ok sound).planned c.is_due in
              fresh c.release (planned_before set refused t s ok sound c.release r.0) q (subst (λ (n : Row). In q (times n.job)) c.is j)))
        ];
        ends = k.ends;
      }
