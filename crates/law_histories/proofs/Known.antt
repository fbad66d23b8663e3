-- What is known along a history of its ended jobs: what each had read at its commit, how that was judged, and from
-- which job the stamp of each item comes. A further end keeps it.
use Rattle.std.proofs.Common.{◌≡◌, ◌≢◌, ◌⊎◌, ℕ, ◌<◌, ◌≤◌, true, List, [], ◌∷◌, ◌++◌, length, Option, Some, set as with_item, refl, ap, sym, ◌∙◌, subst, inl, inr, arith, append_assoc}
use Rattle.std.proofs.lemmas.List.{append-nil}
use Rattle.std.proofs.lemmas.Bool.{cases_eq}
use Rattle.std.specs.Prelude.{IsTrue}
use Rattle.rt_base.specs.declared.ids.JobId.{JobId}
use Rattle.rt_base.specs.declared.operation.End.{End}
use Rattle.rt_base.specs.declared.operation.End.TheVariants as end
use Rattle.txn_set.specs.Set.{Set, txn_of, may_read, IsTheWriter}
use Rattle.item_model.specs.Kinds.{is_dated}
use Rattle.item_model.specs.Work.{Work, stored_of, verdict, stamp_for}
use Rattle.item_model.specs.declared.stored.OutsideRead.{OutsideRead}
use Rattle.item_model.specs.declared.stored.Stored.{Stored}
use Rattle.step_journal.specs.State.{State, Row}
use Rattle.rt_base.specs.declared.release.Release.{Release}
use Rattle.step_journal.specs.declared.entry.EndedJob.{EndedJob}
use Rattle.step_journal.specs.Instant.{freed, with_end}
use Rattle.law_histories.proofs.Members.{In}
use Rattle.law_histories.proofs.Invariant.{IsPending, in_range, same_row, written, written_here, written_other}
use Rattle.law_histories.proofs.Holding.{append_in, in_left, in_right}
use Rattle.law_histories.proofs.Ends.{left, stays}

-- the stamp that a committed job gives an item, where `reads` tells what each job read from outside
abbrev pub given_stamp : Set → (JobId → List OutsideRead) → EndedJob → ℕ → ℕ
given_stamp set reads w item = stamp_for set.items (record { reads = reads w.job; writes = [] }) w.release item

abbrev pub NoneOf : ℕ → List EndedJob → Type 0
NoneOf tx jobs = (w : EndedJob) → In w jobs → w.end ≡ end.Committed → w.job.tx.0 ≢ tx

-- the last of the jobs of the transaction that committed gave the item the stamp
pub record ByLast (set : Set) (reads : JobId → List OutsideRead) (jobs : List EndedJob) (tx item stamp : ℕ) : Type 0 where
  pub earlier : List EndedJob
  pub by : EndedJob
  pub later : List EndedJob
  pub place : jobs ≡ earlier ++ by ∷ later
  pub committed : by.end ≡ end.Committed
  pub own : by.job.tx.0 ≡ tx
  pub none_later : NoneOf tx later
  pub is : stamp ≡ given_stamp set reads by item

abbrev pub Sourced : Set → (JobId → List OutsideRead) → List EndedJob → ℕ → ℕ → ℕ → Type 0
Sourced set reads jobs tx item stamp = (NoneOf tx jobs × (stamp ≡ 0)) ⊎ ByLast set reads jobs tx item stamp

-- the ends that a Commit makes
abbrev pub IsByCommit : End → Type 0
IsByCommit end.Committed = Unit {0}
IsByCommit (end.Stale item stamp) = Unit {0}
IsByCommit (end.Apart a b) = Unit {0}
IsByCommit other = ⊥

-- what stood at the commit of a job, after these jobs had ended
pub record Judged (set : Set) (reads : JobId → List OutsideRead) (before : List EndedJob) (e : EndedJob) : Type 0 where
  pub work : Work
  pub verdict : e.end ≡ verdict set.items set.together (txn_of set e.job.tx.0).reads work e.tick
  pub declared : (r : OutsideRead) → In r work.reads → may_read (txn_of set e.job.tx.0) r.item.0 ≡ true
  pub noted : (r : OutsideRead) → In r (reads e.job) → In r work.reads
  pub was_read : (r : OutsideRead) → In r work.reads → In r (reads e.job)
  pub one : (q r : OutsideRead) → In q work.reads → In r work.reads → q.item.0 ≡ r.item.0 → q ≡ r
  pub source : (r : OutsideRead) (tx : ℕ) → In r work.reads → IsTrue (is_dated set.items r.item.0) → IsTheWriter set r.item.0 tx → Sourced set reads before tx r.item.0 r.stamp

pub record IsEnd (set : Set) (reads : JobId → List OutsideRead) (before : List EndedJob) (e : EndedJob) : Type 0 where
  pub after : (w : EndedJob) → In w before → w.tick ≤ e.tick
  pub order : (w : EndedJob) → In w before → w.job.tx.0 ≡ e.job.tx.0 → w.release ≤ e.release
  pub released : e.release ≤ e.tick
  pub judged : IsByCommit e.end → Judged set reads before e

abbrev pub AreEnds : Set → (JobId → List OutsideRead) → List EndedJob → List EndedJob → Type 0
AreEnds set reads before [] = Unit {0}
AreEnds set reads before (e ∷ es) = IsEnd set reads before e × AreEnds set reads (before ++ e ∷ []) es

-- a tick for which a job of the transaction was planned: it is still planned, or a job with this release is pending
-- or has ended
abbrev pub Placed : List Release → List (Option Row) → List EndedJob → ℕ → ℕ → Type 0
Placed planned rows ended tx k =
    ((r : Release) × In r planned × (r.job.tx.0 ≡ tx) × (r.tick ≡ k))
    ⊎ (((x : Row) × IsPending rows x × (x.job.tx.0 ≡ tx) × (x.release ≡ k)) ⊎ ((e : EndedJob) × In e ended × (e.job.tx.0 ≡ tx) × (e.release ≡ k)))

-- up to tick t: `ticks` tells for which ticks jobs of a transaction were planned
pub record Known (set : Set) (reads : JobId → List OutsideRead) (ticks : ℕ → List ℕ) (t : ℕ) (s : State) : Type 0 where
  pub count : length s.items ≡ length set.items
  pub row_by : (x : Row) → IsPending s.rows x → x.release ≤ t
  pub ended_by : (e : EndedJob) → In e s.ended → e.tick ≤ t
  pub released_by : (e : EndedJob) → In e s.ended → e.release ≤ t
  pub done_row : (e : EndedJob) (x : Row) → In e s.ended → IsPending s.rows x → e.job.tx.0 ≡ x.job.tx.0 → e.release ≤ x.release
  pub items : (i tx : ℕ) → IsTrue (is_dated set.items i) → IsTheWriter set i tx → Sourced set reads s.ended tx i (stored_of s.items i).stamp
  pub ends : AreEnds set reads [] s.ended
  pub plan_row : (x : Row) → IsPending s.rows x → In x.release (ticks x.job.tx.0)
  pub plan_end : (e : EndedJob) → In e s.ended → In e.release (ticks e.job.tx.0)
  pub plan_next : (r : Release) → In r s.planned → In r.tick (ticks r.job.tx.0)
  pub placed : (tx k : ℕ) → In k (ticks tx) → Placed s.planned s.rows s.ended tx k

-- the same by another account of what was read and planned

stamp_same : (set : Set) (reads reads' : JobId → List OutsideRead) (w : EndedJob) (item : ℕ) → reads' w.job ≡ reads w.job → given_stamp set reads' w item ≡ given_stamp set reads w item
stamp_same set reads reads' w item e = ap (λ (l : List OutsideRead). stamp_for set.items (record { reads = l; writes = [] }) w.release item) e

pub by_here : (jobs earlier later : List EndedJob) (w : EndedJob) → jobs ≡ earlier ++ w ∷ later → In w jobs
by_here jobs earlier later w e = subst (λ (l : List EndedJob). In w l) (sym e) (in_right w earlier (w ∷ later) (inl refl))

pub sourced_same : (set : Set) (reads reads' : JobId → List OutsideRead) (jobs : List EndedJob) (tx item stamp : ℕ) → ((w : EndedJob) → In w jobs → reads' w.job ≡ reads w.job) → Sourced set reads jobs tx item stamp → Sourced set reads' jobs tx item stamp
sourced_same set reads reads' jobs tx item stamp same (inl h) = inl h
sourced_same set reads reads' jobs tx item stamp same (inr h) = inr (record {
  earlier = h.earlier;
  by = h.by;
  later = h.later;
  place = h.place;
  committed = h.committed;
  own = h.own;
  none_later = h.none_later;
  is = h.is ∙ sym (stamp_same set reads reads' h.by item (same h.by (by_here jobs h.earlier h.later h.by h.place)));
})

judged_same : (set : Set) (reads reads' : JobId → List OutsideRead) (before : List EndedJob) (e : EndedJob) → ((w : EndedJob) → In w before → reads' w.job ≡ reads w.job) → reads' e.job ≡ reads e.job → Judged set reads before e → Judged set reads' before e
judged_same set reads reads' before e same own h = record {
  work = h.work;
  verdict = h.verdict;
  declared = h.declared;
  noted = λ r i. h.noted r (subst (λ (l : List OutsideRead). In r l) own i);
  was_read = λ r i. subst (λ (l : List OutsideRead). In r l) (sym own) (h.was_read r i);
  one = h.one;
  source = λ r tx i d w. sourced_same set reads reads' before tx r.item.0 r.stamp same (h.source r tx i d w);
}

ends_same : (set : Set) (reads reads' : JobId → List OutsideRead) (before es : List EndedJob) → ((w : EndedJob) → In w before → reads' w.job ≡ reads w.job) → ((w : EndedJob) → In w es → reads' w.job ≡ reads w.job) → AreEnds set reads before es → AreEnds set reads' before es
ends_same set reads reads' before [] same later h = tt
ends_same set reads reads' before (e ∷ es) same later h = (
  record { after = h.0.after; order = h.0.order; released = h.0.released; judged = λ c. judged_same set reads reads' before e same (later e (inl refl)) (h.0.judged c) },
  ends_same set reads reads' (before ++ e ∷ []) es
      (λ w i. elim (append_in w before (e ∷ []) i) [ inl old ↦ same w old | inr new ↦ elim new [ inl is ↦ ap (λ (k : EndedJob). reads' k.job) is ∙ (later e (inl refl) ∙ sym (ap (λ (k : EndedJob). reads k.job) is)) | inr none ↦ absurd none ] ])
      (λ w i. later w (inr i)) h.1,
)

pub known_same : (set : Set) (reads reads' : JobId → List OutsideRead) (ticks ticks' : ℕ → List ℕ) (t : ℕ) (s : State) → ((w : EndedJob) → In w s.ended → reads' w.job ≡ reads w.job) → ((tx : ℕ) → ticks' tx ≡ ticks tx) → Known set reads ticks t s → Known set reads' ticks' t s
known_same set reads reads' ticks ticks' t s same planned h = record {
  count = h.count;
  row_by = h.row_by;
  ended_by = h.ended_by;
  released_by = h.released_by;
  done_row = h.done_row;
  items = λ i tx d w. sourced_same set reads reads' s.ended tx i (stored_of s.items i).stamp same (h.items i tx d w);
  ends = ends_same set reads reads' [] s.ended (λ w i. absurd i) same h.ends;
  plan_row = λ x i. subst (λ (l : List ℕ). In x.release l) (sym (planned x.job.tx.0)) (h.plan_row x i);
  plan_end = λ e i. subst (λ (l : List ℕ). In e.release l) (sym (planned e.job.tx.0)) (h.plan_end e i);
  plan_next = λ r i. subst (λ (l : List ℕ). In r.tick l) (sym (planned r.job.tx.0)) (h.plan_next r i);
  placed = λ tx k i. h.placed tx k (subst (λ (l : List ℕ). In k l) (planned tx) i);
}

pub later_known : (set : Set) (reads : JobId → List OutsideRead) (ticks : ℕ → List ℕ) (t t' : ℕ) (s : State) → t ≤ t' → Known set reads ticks t s → Known set reads ticks t' s
later_known set reads ticks t t' s le h = record {
  count = h.count;
  row_by = λ x i. omega (arith, h.row_by x i);
  ended_by = λ e i. omega (arith, h.ended_by e i);
  released_by = λ e i. omega (arith, h.released_by e i);
  done_row = h.done_row;
  items = h.items;
  ends = h.ends;
  plan_row = h.plan_row;
  plan_end = h.plan_end;
  plan_next = h.plan_next;
  placed = h.placed;
}

-- one more ended job

none_more : (jobs : List EndedJob) (tx : ℕ) (e : EndedJob) → (e.end ≡ end.Committed → e.job.tx.0 ≢ tx) → NoneOf tx jobs → NoneOf tx (jobs ++ e ∷ [])
none_more jobs tx e new h w i c =
    elim (append_in w jobs (e ∷ []) i) [
      | inl old ↦ h w old c
      | inr n ↦ elim n [ inl is ↦ (λ same. new (sym (ap (λ (k : EndedJob). k.end) is) ∙ c) (sym (ap (λ (k : EndedJob). k.job.tx.0) is) ∙ same)) | inr none ↦ absurd none ]
    ]

pub sourced_more : (set : Set) (reads : JobId → List OutsideRead) (jobs : List EndedJob) (tx item stamp : ℕ) (e : EndedJob) → (e.end ≡ end.Committed → e.job.tx.0 ≢ tx) → Sourced set reads jobs tx item stamp → Sourced set reads (jobs ++ e ∷ []) tx item stamp
sourced_more set reads jobs tx item stamp e new (inl h) = inl (none_more jobs tx e new h.0, h.1)
sourced_more set reads jobs tx item stamp e new (inr h) = inr (record {
  earlier = h.earlier;
  by = h.by;
  later = h.later ++ e ∷ [];
  place = ap (λ (l : List EndedJob). l ++ e ∷ []) h.place ∙ append_assoc h.earlier (h.by ∷ h.later) (e ∷ []);
  committed = h.committed;
  own = h.own;
  none_later = none_more h.later tx e new h.none_later;
  is = h.is;
})

pub sourced_new : (set : Set) (reads : JobId → List OutsideRead) (jobs : List EndedJob) (tx item stamp : ℕ) (e : EndedJob) → e.end ≡ end.Committed → e.job.tx.0 ≡ tx → stamp ≡ given_stamp set reads e item → Sourced set reads (jobs ++ e ∷ []) tx item stamp
sourced_new set reads jobs tx item stamp e committed own is = inr (record { earlier = jobs; by = e; later = []; place = refl; committed = committed; own = own; none_later = λ w i. absurd i; is = is })

pub ends_more : (set : Set) (reads : JobId → List OutsideRead) (before es : List EndedJob) (e : EndedJob) → AreEnds set reads before es → IsEnd set reads (before ++ es) e → AreEnds set reads before (es ++ e ∷ [])
ends_more set reads before [] e h new = (subst (λ (l : List EndedJob). IsEnd set reads l e) (append-nil before) new, tt)
ends_more set reads before (x ∷ es) e h new = (h.0, ends_more set reads (before ++ x ∷ []) es e h.1 (subst (λ (l : List EndedJob). IsEnd set reads l e) (sym (append_assoc before (x ∷ []) es)) new))

-- a job that is to end is pending, by its name and its release
pub record WillEnd (s : State) (row : Row) : Type 0 where
  pub was : Row
  pub here : IsPending s.rows was
  pub job : was.job ≡ row.job
  pub release : was.release ≡ row.release

abbrev pub ended_job : Row → End → ℕ → EndedJob
ended_job row e t = record { job = row.job; release = row.release; end = e; tick = t }

placed_end : (s : State) (row : Row) (e : End) (t : ℕ) → WillEnd s row → (tx k : ℕ) → Placed s.planned s.rows s.ended tx k → Placed (with_end row e t s).planned (with_end row e t s).rows (s.ended ++ ended_job row e t ∷ []) tx k
unfolding with_end
placed_end s row e t m tx k (inl h) = inl h
placed_end s row e t m tx k (inr (inr h)) = inr (inr (h.0, in_left h.0 s.ended (ended_job row e t ∷ []) h.1, h.2, h.3))
placed_end s row e t m tx k (inr (inl h)) =
    elim (cases_eq h.0.job.tx.0 row.job.tx.0) [
      | inl same ↦ (let is : h.0 ≡ m.was = same_row s.rows h.0 m.was h.1 m.here (same ∙ sym (ap (λ (j : JobId). j.tx.0) m.job)) in
          inr (inr (ended_job row e t, in_right (ended_job row e t) s.ended (ended_job row e t ∷ []) (inl refl), sym same ∙ h.2, sym m.release ∙ (ap (λ (q : Row). q.release) (sym is) ∙ h.3))))
      | inr ne ↦ inr (inl (freed row.job h.0, stays s.rows row.job h.0 h.1 ne, h.2, h.3))
    ]

pub end_known : (set : Set) (reads : JobId → List OutsideRead) (ticks : ℕ → List ℕ) (t : ℕ) (s : State) (row : Row) (e : End) (items : List Stored) → WillEnd s row → Known set reads ticks t s → length items ≡ length s.items
    → ((i tx : ℕ) → IsTrue (is_dated set.items i) → IsTheWriter set i tx → Sourced set reads (s.ended ++ ended_job row e t ∷ []) tx i (stored_of items i).stamp)
    → (IsByCommit e → Judged set reads s.ended (ended_job row e t))
    → Known set reads ticks t (with_end row e t (record s { items = items }))
unfolding with_end
end_known set reads ticks t s row e items m h count sourced judged =
    let new : EndedJob = ended_job row e t in
    let tx : m.was.job.tx.0 ≡ row.job.tx.0 = ap (λ (j : JobId). j.tx.0) m.job in
    record {
      count = count ∙ h.count;
      row_by = λ x i. let l = left s.rows row.job x i in omega (arith, h.row_by l.was l.here, ap (λ (q : Row). q.release) l.is);
      ended_by = λ d i. elim (append_in d s.ended (new ∷ []) i) [ inl old ↦ h.ended_by d old | inr n ↦ elim n [ inl is ↦ omega (arith, ap (λ (k : EndedJob). k.tick) is) | inr none ↦ absurd none ] ];
      released_by = λ d i. elim (append_in d s.ended (new ∷ []) i) [ inl old ↦ h.released_by d old | inr n ↦ elim n [ inl is ↦ omega (arith, ap (λ (k : EndedJob). k.release) is, h.row_by m.was m.here, m.release) | inr none ↦ absurd none ] ];
      done_row = λ d x i j same.
          let l = left s.rows row.job x j in
          let k : x.job.tx.0 ≡ l.was.job.tx.0 = ap (λ (q : Row). q.job.tx.0) l.is in
          elim (append_in d s.ended (new ∷ []) i) [
            | inl old ↦ omega (arith, h.done_row d l.was old l.here (same ∙ k), ap (λ (q : Row). q.release) l.is)
            | inr n ↦ elim n [ inl is ↦ absurd (l.other (sym k ∙ (sym same ∙ ap (λ (q : EndedJob). q.job.tx.0) is))) | inr none ↦ absurd none ]
          ];
      items = sourced;
      ends = ends_more set reads [] s.ended new h.ends (record {
        after = h.ended_by;
        order = λ w i same. omega (arith, h.done_row w m.was i m.here (same ∙ sym tx), m.release);
        released = omega (arith, h.row_by m.was m.here, m.release);
        judged = judged;
      });
      plan_row = λ x i. let l = left s.rows row.job x i in subst (λ (q : Row). In q.release (ticks q.job.tx.0)) (sym l.is) (h.plan_row l.was l.here);
      plan_end = λ d i. elim (append_in d s.ended (new ∷ []) i) [
        | inl old ↦ h.plan_end d old
        | inr n ↦ elim n [
          | inl is ↦ subst (λ (q : EndedJob). In q.release (ticks q.job.tx.0)) (sym is) (subst (λ (j : JobId). In row.release (ticks j.tx.0)) m.job (subst (λ (k : ℕ). In k (ticks m.was.job.tx.0)) m.release (h.plan_row m.was m.here)))
          | inr none ↦ absurd none
        ]
      ];
      plan_next = h.plan_next;
      placed = λ u k i. placed_end (record s { items = items }) row e t (record { was = m.was; here = m.here; job = m.job; release = m.release }) u k (h.placed u k i);
    }

-- rows that stand for others with the same job and release, and those for these
pub record Stands (rows : List (Option Row)) (y : Row) : Type 0 where
  pub was : Row
  pub here : IsPending rows was
  pub job : y.job ≡ was.job
  pub release : y.release ≡ was.release

pub rows_known : (set : Set) (reads : JobId → List OutsideRead) (ticks : ℕ → List ℕ) (t : ℕ) (s : State) (rows : List (Option Row)) → ((y : Row) → IsPending rows y → Stands s.rows y) → ((y : Row) → IsPending s.rows y → Stands rows y)
    → Known set reads ticks t s → Known set reads ticks t (record s { rows = rows })
rows_known set reads ticks t s rows from to h = record {
  count = h.count;
  row_by = λ x i. let f = from x i in omega (arith, h.row_by f.was f.here, f.release);
  ended_by = h.ended_by;
  released_by = h.released_by;
  done_row = λ e x i j same. let f = from x j in omega (arith, h.done_row e f.was i f.here (same ∙ ap (λ (k : JobId). k.tx.0) f.job), f.release);
  items = h.items;
  ends = h.ends;
  plan_row = λ x i. let f = from x i in subst (λ (j : JobId). In x.release (ticks j.tx.0)) (sym f.job) (subst (λ (k : ℕ). In k (ticks f.was.job.tx.0)) (sym f.release) (h.plan_row f.was f.here));
  plan_end = h.plan_end;
  plan_next = h.plan_next;
  placed = λ tx k i. elim (h.placed tx k i) [
    | inl a ↦ inl a
    | inr o ↦ elim o [
      | inl b ↦ (let f = to b.0 b.1 in inr (inl (f.was, f.here, sym (ap (λ (j : JobId). j.tx.0) f.job) ∙ b.2, sym f.release ∙ b.3)))
      | inr c ↦ inr (inr c)
    ]
  ];
}

-- a row in the place of one with the same job and release
pub put_known : (set : Set) (reads : JobId → List OutsideRead) (ticks : ℕ → List ℕ) (t : ℕ) (s : State) (x x' : Row) → IsPending s.rows x → x'.job ≡ x.job → x'.release ≡ x.release
    → Known set reads ticks t s → Known set reads ticks t (record s { rows = with_item s.rows x.job.tx.0 (Some x') })
put_known set reads ticks t s x x' here job release h =
    let lt : x.job.tx.0 < length s.rows = in_range s.rows _ x here in
    let own : x'.job.tx.0 ≡ x.job.tx.0 = ap (λ (j : JobId). j.tx.0) job in
    rows_known set reads ticks t s (with_item s.rows x.job.tx.0 (Some x'))
    (λ y i. elim (written s.rows x.job.tx.0 x' y lt own i) [
      | inl e ↦ record { was = x; here = here; job = ap (λ (q : Row). q.job) e ∙ job; release = ap (λ (q : Row). q.release) e ∙ release }
      | inr o ↦ record { was = y; here = o.1; job = refl; release = refl }
    ])
    (λ y i. elim (cases_eq y.job.tx.0 x.job.tx.0) [
      | inl same ↦ (let e : y ≡ x = same_row s.rows y x i here same in
          record { was = x'; here = written_here s.rows x.job.tx.0 x' lt own; job = ap (λ (q : Row). q.job) e ∙ sym job; release = ap (λ (q : Row). q.release) e ∙ sym release })
      | inr ne ↦ record { was = y; here = written_other s.rows x.job.tx.0 x' y ne i; job = refl; release = refl }
    ])
    h
