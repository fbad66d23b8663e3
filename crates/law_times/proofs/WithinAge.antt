-- Over an admitted set and a steady history, what a job read is within its age bound at its end. By induction on the
-- ended jobs: the next job of the item's writer would have installed by its release and response, and did not before
-- the reader's end.
use Rattle.std.proofs.Common.{◌≡◌, ◌≢◌, ◌⊎◌, ℕ, ◌+◌, ◌-◌, ◌<◌, ◌≤◌, ◌==◌, max, Bool, true, false, cond, List, [], ◌∷◌, ◌++◌, map, length, Option, None, Some, refl, ap, sym, ◌∙◌, subst, inl, inr, arith}
use Rattle.std.proofs.Math.Nat.{le-max_left, le-max_right}
use Rattle.std.proofs.lemmas.Bool.{cases_lt, eqb-true, ltb-true, le-leb}
use Rattle.std.specs.Prelude.{IsTrue, is_some, nat_le, nat_lt}
use Rattle.std.specs.List.{All, filter, find}
use Rattle.rt_base.specs.declared.ids.JobId.{JobId}
use Rattle.rt_base.specs.declared.ids.ItemId.{ItemId}
use Rattle.rt_base.specs.declared.ids.TogetherDecl.{TogetherDecl}
use Rattle.rt_base.specs.declared.operation.End.{End}
use Rattle.rt_base.specs.declared.operation.End.TheVariants as end
use Rattle.step_journal.specs.declared.entry.Entry.{Entry}
use Rattle.txn_set.specs.Set.{Set, txn_of, may_read, IsTheWriter, IsCompiled}
use Rattle.item_model.specs.Kinds.{validity_of, is_dated, is_derived}
use Rattle.txn_set.specs.Ceilings.{greatest}
use Rattle.item_model.specs.Work.{Work, reads_of, is_above, is_expired, oldest, newest, parted, apart_in, first_of_both, first_apart, judged as judge, verdict}
use Rattle.item_model.specs.declared.stored.OutsideRead.{OutsideRead}
use Rattle.step_journal.specs.State.{State, row_of}
use Rattle.rt_base.specs.declared.release.Release.{Release}
use Rattle.step_journal.specs.declared.entry.EndedJob.{EndedJob}
use Rattle.step_journal.specs.History.{IsLegal, state_of}
use Rattle.step_journal.specs.Timing.{outside_reads_of, periodic, IsPeriodic, GaveUp, IsSteadyAt, IsSteady}
use Rattle.law_histories.proofs.Members.{In, in_filter, filter_in, le_greatest}
use Rattle.law_histories.proofs.Holding.{append_in, in_left, in_right}
use Rattle.law_histories.proofs.Calendar.{times_at}
use Rattle.law_histories.proofs.Never.{legal_sound}
use Rattle.law_times.specs.Ages.{IsAgeBound, IsAdmittedBy}
use Rattle.law_times.specs.Deadlines.{IsInTime}
use Rattle.law_times.specs.Freshness.{IsWithinAge, IsWithinSpread, EndsAreFresh}
use Rattle.law_histories.proofs.Lists.{all_from, all_at, in_any, find_some, two_members, any_in}
use Rattle.law_histories.proofs.Stamps.{newest_is, oldest_is, stamp_cases}
use Rattle.law_histories.proofs.Known.{ByLast, Sourced, IsByCommit, Judged, IsEnd, AreEnds, Known, ends_more, by_here}
use Rattle.law_histories.proofs.Settling.{planned_in}
use Rattle.law_histories.proofs.KnownAll.{legal_known}
use Rattle.law_histories.proofs.Commits.{ends_split, ends_in, by_commit, reads_in}
use Rattle.law_times.proofs.Periodic.{first_in, next_in}

-- verdicts

stale_by : (o : Option OutsideRead) (p : Option (OutsideRead × OutsideRead)) (item : ItemId) (stamp : ℕ) → judge o p ≡ end.Stale item stamp → (r : OutsideRead) × (o ≡ Some r)
stale_by (Some r) p item stamp h = (r, refl)
stale_by None (Some p) item stamp h = absurd cc
stale_by None None item stamp h = absurd cc

apart_by : (o : Option OutsideRead) (p : Option (OutsideRead × OutsideRead)) (a b : ItemId) → judge o p ≡ end.Apart a b → (q : OutsideRead × OutsideRead) × (p ≡ Some q)
apart_by (Some r) p a b h = absurd cc
apart_by None (Some p) a b h = (p, refl)
apart_by None None a b h = absurd cc

above_by : (age : ℕ) (o : Option ℕ) → is_above age o ≡ true → (v : ℕ) × (o ≡ Some v) × (v < age)
above_by age None h = absurd cc
above_by age (Some v) h = (v, refl, ltb-true _ _ h)

-- the relative set that is apart
group_at : (w : Work) (g : TogetherDecl) (gs : List TogetherDecl) (q : OutsideRead × OutsideRead) (o : Option (OutsideRead × OutsideRead)) → apart_in w g ≡ o → first_of_both o (first_apart w gs) ≡ Some q
    → (first_apart w gs ≡ Some q → (k : TogetherDecl) × In k gs × (apart_in w k ≡ Some q)) → (k : TogetherDecl) × ((k ≡ g) ⊎ In k gs) × (apart_in w k ≡ Some q)
group_at w g gs q (Some p) e h rest = (g, inl refl, e ∙ h)
group_at w g gs q None e h rest = let r = rest h in (r.0, inr r.1, r.2)

group_apart : (w : Work) (gs : List TogetherDecl) (q : OutsideRead × OutsideRead) → first_apart w gs ≡ Some q → (g : TogetherDecl) × In g gs × (apart_in w g ≡ Some q)
group_apart w [] q h = absurd cc
group_apart w (g ∷ gs) q h = group_at w g gs q (apart_in w g) refl h (group_apart w gs q)

-- the two reads that are too far apart
pub record AreParted (rs : List OutsideRead) (within : ℕ) : Type 0 where
  pub old : OutsideRead
  pub new : OutsideRead
  pub old_in : In old rs
  pub new_in : In new rs
  pub far : within < new.stamp - old.stamp

far_at : (within a b : ℕ) (x : OutsideRead × OutsideRead) (q : OutsideRead × OutsideRead) (c : Bool) → nat_lt within (b - a) ≡ c → cond c (Some x) None ≡ Some q → within < b - a
far_at within a b x q true e h = ltb-true _ _ e
far_at within a b x q false e h = absurd cc

parted_at : (rs : List OutsideRead) (within : ℕ) (q : OutsideRead × OutsideRead) (o p : Option OutsideRead) → oldest rs ≡ o → newest rs ≡ p → parted within o p ≡ Some q → AreParted rs within
parted_at rs within q (Some a) (Some b) e f h = record { old = a; new = b; old_in = (oldest_is rs a e).here; new_in = (newest_is rs b f).here; far = far_at within a.stamp b.stamp (a, b) q (nat_lt within (b.stamp - a.stamp)) refl h }
parted_at rs within q (Some a) None e f h = absurd cc
parted_at rs within q None p e f h = absurd cc

apart_parted : (w : Work) (g : TogetherDecl) (q : OutsideRead × OutsideRead) → apart_in w g ≡ Some q → AreParted (reads_of w g.items) g.within
apart_parted w g q h = parted_at (reads_of w g.items) g.within q (oldest (reads_of w g.items)) (newest (reads_of w g.items)) refl refl h

pub dated_derived_at : (o : Option ℕ) (v : ℕ) → o ≡ Some v → is_some o ≡ true
dated_derived_at o v e = ap is_some e

dated_at : (set : Set) (a b : ℕ) → a ≡ b → is_dated set.items b ≡ true → is_dated set.items a ≡ true
dated_at set a b e h = ap (is_dated set.items) e ∙ h

may_at : (set : Set) (tx a b : ℕ) → a ≡ b → may_read (txn_of set tx) a ≡ true → may_read (txn_of set tx) b ≡ true
may_at set tx a b e h = ap (may_read (txn_of set tx)) (sym e) ∙ h

-- what is good of an ended job

pub record IsAged (bound : ℕ → ℕ) (e : EndedJob) (r : OutsideRead) : Type 0 where
  pub past : r.stamp ≤ e.tick
  pub within : e.tick ≤ r.stamp + bound r.item.0

pub record IsGood (set : Set) (bound : ℕ → ℕ) (reads : JobId → List OutsideRead) (e : EndedJob) : Type 0 where
  pub not_stale : (item : ItemId) (stamp : ℕ) → e.end ≢ end.Stale item stamp
  pub not_apart : (a b : ItemId) → e.end ≢ end.Apart a b
  pub aged : e.end ≡ end.Committed → (r : OutsideRead) → In r (reads e.job) → is_dated set.items r.item.0 ≡ true → IsAged bound e r

committed_at : (k : End) (e : End) → e ≡ k → ¬ GaveUp e → e ≢ end.Late → ((item : ItemId) (stamp : ℕ) → e ≢ end.Stale item stamp) → ((a b : ItemId) → e ≢ end.Apart a b) → e ≡ end.Committed
committed_at end.Committed e is up late stale apart = is
committed_at end.Late e is up late stale apart = absurd (late is)
committed_at (end.Stale item stamp) e is up late stale apart = absurd (stale item stamp is)
committed_at (end.Apart a b) e is up late stale apart = absurd (apart a b is)
committed_at other e is up late stale apart = absurd (up (subst GaveUp (sym is) tt))

-- the age bound is at least the period and the response bound of the writer
bound_at : (set : Set) (response bound : ℕ → ℕ) (item tx : ℕ) (b : Bool) → is_derived set.items item ≡ b → IsAgeBound set response bound → is_dated set.items item ≡ true → IsTheWriter set item tx → (txn_of set tx).period + response tx ≤ bound item
bound_at set response bound item tx true e ages d w = omega (arith, ages.derived item tx e w)
bound_at set response bound item tx false e ages d w = omega (arith, ages.sensor item tx d e w)

-- of a derived item it is at least that and the age bound of each dated item that the writer reads
bound_over : (set : Set) (response bound : ℕ → ℕ) (item tx other : ℕ) → IsAgeBound set response bound → is_derived set.items item ≡ true → IsTheWriter set item tx → may_read (txn_of set tx) other ≡ true → is_dated set.items other ≡ true
    → (txn_of set tx).period + response tx + bound other ≤ bound item
bound_over set response bound item tx other ages derived w reads dated =
    let k = any_in (λ (i : ItemId). i.0 == other) (txn_of set tx).reads reads in
    let n : k.0.0 ≡ other = eqb-true _ _ k.2 in
    let i : In k.0 (filter (λ i. is_dated set.items i.0) (txn_of set tx).reads) = in_filter (λ (i : ItemId). is_dated set.items i.0) k.0 (txn_of set tx).reads k.1 (ap (is_dated set.items) n ∙ dated) in
    let le : bound k.0.0 ≤ greatest (map (λ i. bound i.0) (filter (λ i. is_dated set.items i.0) (txn_of set tx).reads)) = le_greatest (λ (i : ItemId). bound i.0) k.0 (filter (λ i. is_dated set.items i.0) (txn_of set tx).reads) i in
    omega (arith, ages.derived item tx derived w, le, ap bound n)

-- the history as a whole
pub record IsHistory (set : Set) (response bound : ℕ → ℕ) (reads : JobId → List OutsideRead) (ticks : ℕ → List ℕ) (s : State) : Type 0 where
  pub ok : IsCompiled set
  pub ages : IsAgeBound set response bound
  pub admitted : IsAdmittedBy set bound
  pub meets : (tx : ℕ) → tx < length set.txns → IsInTime tx (response tx) s
  pub known : Known set reads ticks s.now s
  pub future : (r : Release) → In r s.planned → s.now < r.tick
  pub periodic : (item tx : ℕ) → is_dated set.items item ≡ true → IsTheWriter set item tx → IsPeriodic (txn_of set tx).offset (txn_of set tx).period s.now (filter (λ t. nat_le t s.now) (ticks tx))
  pub goes_on : (item tx : ℕ) → is_dated set.items item ≡ true → IsTheWriter set item tx → (e : EndedJob) → In e s.ended → e.job.tx.0 ≡ tx → ¬ GaveUp e.end

module _ (set : Set) (response bound : ℕ → ℕ) (reads : JobId → List OutsideRead) (ticks : ℕ → List ℕ) (s : State) (h : IsHistory set response bound reads ticks s) where
  -- a job that was planned for a tick has ended once its response bound is over
  pub record EndedBy (tx k : ℕ) : Type 0 where
    pub job : EndedJob
    pub here : In job s.ended
    pub own : job.job.tx.0 ≡ tx
    pub release : job.release ≡ k
    pub soon : job.tick ≤ k + response tx

  in_time : (tx : ℕ) → tx < length set.txns → (e : EndedJob) → In e s.ended → e.job.tx.0 ≡ tx → (e.tick ≤ e.release + response tx) × (e.end ≢ end.Late)
  in_time tx lt e i own = all_at (λ (e : EndedJob). e.job.tx.0 ≡ tx → (e.tick ≤ e.release + response tx) × (e.end ≢ end.Late)) s.ended e (h.meets tx lt).ended i own

  ended_by : (tx k : ℕ) → tx < length set.txns → In k (ticks tx) → k + response tx < s.now + 1 → EndedBy tx k
  ended_by tx k in_set i lt = elim (h.known.placed tx k i) [
    | inl a ↦ absurd (omega (arith, h.future a.0 a.1, a.3))
    | inr o ↦ elim o [
      | inl b ↦ absurd (let p : s.now < b.0.release + response tx = (h.meets tx in_set).pending b.0 (subst (λ (n : ℕ). row_of s.rows n ≡ Some b.0) b.2 b.1) in omega (arith, p, b.3))
      | inr c ↦ (let p : c.0.tick ≤ c.0.release + response tx = (in_time tx in_set c.0 c.1 c.2).0 in record { job = c.0; here = c.1; own = c.2; release = c.3; soon = omega (arith, p, c.3) })
    ]
  ]

  past_tick : (tx k : ℕ) → In k (filter (λ t. nat_le t s.now) (ticks tx)) → In k (ticks tx)
  past_tick tx k i = (filter_in (λ (t : ℕ). nat_le t s.now) k (ticks tx) i).0

  module _ (before : List EndedJob) (e : EndedJob) (is : IsEnd set reads before e) (past : AreEnds set reads [] before) (good : (w : EndedJob) → In w before → IsGood set bound reads w)
      (here : In e s.ended) (whole : (w : EndedJob) → In w s.ended → w.tick < e.tick → In w before) (within : (w : EndedJob) → In w before → In w s.ended) where
    -- a job of an item's writer that was to end before e has committed before
    committed_before : (item tx : ℕ) → is_dated set.items item ≡ true → IsTheWriter set item tx → (v : EndedJob) → In v s.ended → v.job.tx.0 ≡ tx → v.tick < e.tick → (v.end ≡ end.Committed) × In v before
    committed_before item tx d w v i own lt =
        let b = whole v i lt in
        let g = good v b in
        (committed_at v.end v.end refl (h.goes_on item tx d w v i own) (in_time tx w.in_range v i own).1 g.not_stale g.not_apart, b)

    tick_le : e.tick ≤ s.now
    tick_le = h.known.ended_by e here

    -- nothing of the writer had committed
    age_of_initial : (item tx : ℕ) → is_dated set.items item ≡ true → IsTheWriter set item tx → ((w : EndedJob) → In w before → w.end ≡ end.Committed → w.job.tx.0 ≢ tx) → e.tick ≤ (txn_of set tx).offset + response tx
    age_of_initial item tx d w none =
        elim (cases_lt ((txn_of set tx).offset + response tx) e.tick) [
          | inl lt ↦ absurd (
              let p = h.periodic item tx d w in
              let f : In (txn_of set tx).offset (periodic (txn_of set tx).offset (txn_of set tx).period p.0) = first_in (txn_of set tx).offset (txn_of set tx).period p.0 s.now (omega (arith, tick_le)) p.2 in
              let i : In (txn_of set tx).offset (ticks tx) = past_tick tx (txn_of set tx).offset (subst (λ (l : List ℕ). In (txn_of set tx).offset l) (sym p.1) f) in
              let v = ended_by tx (txn_of set tx).offset w.in_range i (omega (arith, tick_le)) in
              let c = committed_before item tx d w v.job v.here v.own (omega (arith, v.soon)) in
              none v.job c.1 c.0 v.own)
          | inr le ↦ le
        ]

    released_tick : (tx : ℕ) (by : EndedJob) → In by before → by.job.tx.0 ≡ tx → In by.release (filter (λ t. nat_le t s.now) (ticks tx))
    released_tick tx by i own =
        let j = within by i in
        in_filter (λ (t : ℕ). nat_le t s.now) by.release (ticks tx) (subst (λ (n : ℕ). In by.release (ticks n)) own (h.known.plan_end by j)) (le-leb _ _ (h.known.released_by by j))

    -- the last that committed was released at most a period and a response bound ago
    age_of_last : (item tx stamp : ℕ) → is_dated set.items item ≡ true → (w : IsTheWriter set item tx) → (b : ByLast set reads before tx item stamp) → e.tick ≤ b.by.release + (txn_of set tx).period + response tx
    age_of_last item tx stamp d w b =
        let a : ℕ = b.by.release in
        elim (cases_lt (b.by.release + (txn_of set tx).period + response tx) e.tick) [
          | inl lt ↦ absurd (
              let p = h.periodic item tx d w in
              let i : In b.by.release (periodic (txn_of set tx).offset (txn_of set tx).period p.0) = subst (λ (l : List ℕ). In b.by.release l) p.1 (released_tick tx b.by (by_here before b.earlier b.later b.by b.place) b.own) in
              let n : In (b.by.release + (txn_of set tx).period) (periodic (txn_of set tx).offset (txn_of set tx).period p.0) = next_in (txn_of set tx).offset (txn_of set tx).period p.0 b.by.release s.now i (omega (arith, tick_le)) p.2 in
              let k : In (b.by.release + (txn_of set tx).period) (ticks tx) = past_tick tx (b.by.release + (txn_of set tx).period) (subst (λ (l : List ℕ). In (b.by.release + (txn_of set tx).period) l) (sym p.1) n) in
              let v = ended_by tx (b.by.release + (txn_of set tx).period) w.in_range k (omega (arith, tick_le)) in
              let c = committed_before item tx d w v.job v.here v.own (omega (arith, v.soon)) in
              let pos : 1 ≤ (txn_of set tx).period = (times_at set tx h.ok w.in_range).period.0 in
              let at : IsEnd set reads b.earlier b.by = ends_split set reads [] b.earlier b.later b.by (subst (AreEnds set reads []) b.place past) in
              elim (append_in v.job b.earlier (b.by ∷ b.later) (subst (λ (l : List EndedJob). In v.job l) b.place c.1)) [
                | inl old ↦ omega (arith, at.order v.job old (v.own ∙ sym b.own), v.release)
                | inr new ↦ elim new [ inl same ↦ omega (arith, ap (λ (q : EndedJob). q.release) same, v.release) | inr later ↦ b.none_later v.job later c.0 v.own ]
              ])
          | inr le ↦ le
        ]

    steps_past : (by : EndedJob) → In by before → by.release ≤ by.tick
    steps_past by i = (ends_in set reads [] before by past i).1.released

    -- the stamp that the last one gave
    aged_by_last : (r : OutsideRead) (tx : ℕ) → is_dated set.items r.item.0 ≡ true → (w : IsTheWriter set r.item.0 tx) → ByLast set reads before tx r.item.0 r.stamp → IsAged bound e r
    aged_by_last r tx d w b =
        let i : In b.by before = by_here before b.earlier b.later b.by b.place in
        let age : e.tick ≤ b.by.release + (txn_of set tx).period + response tx = age_of_last r.item.0 tx r.stamp d w b in
        let after : b.by.tick ≤ e.tick = is.after b.by i in
        let started : b.by.release ≤ b.by.tick = steps_past b.by i in
        elim (stamp_cases set (record { reads = reads b.by.job; writes = [] }) b.by.release r.item.0) [
          | inl release ↦ (let stamp : r.stamp ≡ b.by.release = b.is ∙ release in
              record { past = omega arith; within = omega (arith, bound_at set response bound r.item.0 tx (is_derived set.items r.item.0) refl h.ages d w) })
          | inr old ↦ (let stamp : r.stamp ≡ old.read.stamp = b.is ∙ old.is in
              let g = (good b.by i).aged b.committed old.read old.here old.dated in
              let j = (ends_in set reads [] before b.by past i).1.judged (by_commit b.by.end b.committed) in
              let declared : may_read (txn_of set tx) old.read.item.0 ≡ true = subst (λ (n : ℕ). may_read (txn_of set n) old.read.item.0 ≡ true) b.own (j.declared old.read (j.noted old.read old.here)) in
              let over : (txn_of set tx).period + response tx + bound old.read.item.0 ≤ bound r.item.0 = bound_over set response bound r.item.0 tx old.read.item.0 h.ages old.derived w declared old.dated in
              record { past = omega (arith, g.past); within = omega (arith, g.within) })
        ]

    aged_by : (r : OutsideRead) (tx : ℕ) → is_dated set.items r.item.0 ≡ true → (w : IsTheWriter set r.item.0 tx) → Sourced set reads before tx r.item.0 r.stamp → IsAged bound e r
    aged_by r tx d w (inr b) = aged_by_last r tx d w b
    aged_by r tx d w (inl none) =
        let age : e.tick ≤ (txn_of set tx).offset + response tx = age_of_initial r.item.0 tx d w none.0 in
        let offset : (txn_of set tx).offset ≤ (txn_of set tx).period = (times_at set tx h.ok w.in_range).offset in
        record { past = omega (arith, none.1); within = omega (arith, none.1, bound_at set response bound r.item.0 tx (is_derived set.items r.item.0) refl h.ages d w) }

    -- each dated read of a job that ended by a commit
    aged : (j : Judged set reads before e) (r : OutsideRead) → In r j.work.reads → is_dated set.items r.item.0 ≡ true → IsAged bound e r
    aged j r i d = let w = h.ok.written r.item.0 d in aged_by r w.0 d w.1 (j.source r w.0 i d w.1)

    good_age : e.end ≡ end.Committed → (r : OutsideRead) → In r (reads e.job) → is_dated set.items r.item.0 ≡ true → IsAged bound e r
    good_age c r i d = let j = is.judged (by_commit e.end c) in aged j r (j.noted r i) d

    good_stale : (item : ItemId) (stamp : ℕ) → e.end ≢ end.Stale item stamp
    unfolding verdict
    good_stale item stamp c =
        let j = is.judged (subst IsByCommit (sym c) tt) in
        let r = stale_by (find (is_expired set.items e.tick) (reads_of j.work (txn_of set e.job.tx.0).reads)) (first_apart j.work set.together) item stamp (sym j.verdict ∙ c) in
        let f = find_some (is_expired set.items e.tick) (reads_of j.work (txn_of set e.job.tx.0).reads) r.0 r.1 in
        let i = reads_in j.work (txn_of set e.job.tx.0).reads r.0 f.here in
        let v = above_by (e.tick - r.0.stamp) (validity_of set.items r.0.item.0) f.passes in
        let a = aged j r.0 i.here (dated_derived_at (validity_of set.items r.0.item.0) v.0 v.1) in
        let le : bound r.0.item.0 ≤ v.0 = h.admitted.valid e.job.tx.0 r.0.item.0 v.0 (j.declared r.0 i.here) v.1 in
        omega (arith, a.past, a.within, v.2)

    -- no relative set has reads that are too far apart
    not_parted : (j : Judged set reads before e) (g : TogetherDecl) (old new : OutsideRead) (a b : ItemId) → In g set.together → In old j.work.reads → In new j.work.reads → In a g.items → In b g.items → old.item.0 ≡ a.0 → new.item.0 ≡ b.0
        → g.within < new.stamp - old.stamp → ⊥
    not_parted j g old new a b i old_in new_in a_in b_in old_is new_is far =
        let dated = all_at (λ (g : TogetherDecl). All (λ i. IsTrue (is_dated set.items i.0)) g.items) set.together g h.ok.together_dated i in
        let u = aged j old old_in (dated_at set old.item.0 a.0 old_is (all_at (λ (i : ItemId). IsTrue (is_dated set.items i.0)) g.items a dated a_in)) in
        let v = aged j new new_in (dated_at set new.item.0 b.0 new_is (all_at (λ (i : ItemId). IsTrue (is_dated set.items i.0)) g.items b dated b_in)) in
        let read_a : In a (filter (λ i. may_read (txn_of set e.job.tx.0) i.0) g.items) = in_filter (λ (i : ItemId). may_read (txn_of set e.job.tx.0) i.0) a g.items a_in (may_at set e.job.tx.0 old.item.0 a.0 old_is (j.declared old old_in)) in
        let read_b : In b (filter (λ i. may_read (txn_of set e.job.tx.0) i.0) g.items) = in_filter (λ (i : ItemId). may_read (txn_of set e.job.tx.0) i.0) b g.items b_in (may_at set e.job.tx.0 new.item.0 b.0 new_is (j.declared new new_in)) in
        let two : 2 ≤ length (filter (λ i. may_read (txn_of set e.job.tx.0) i.0) g.items) = two_members a b (filter (λ i. may_read (txn_of set e.job.tx.0) i.0) g.items) read_a read_b
        (λ same. let one : old ≡ new = j.one old new old_in new_in (old_is ∙ (ap (λ (i : ItemId). i.0) same ∙ sym new_is)) in omega (arith, far, ap (λ (r : OutsideRead). r.stamp) one)) in
        let small : greatest (map (λ i. bound i.0) (filter (λ i. may_read (txn_of set e.job.tx.0) i.0) g.items)) ≤ g.within =
        all_at (λ (g : TogetherDecl). 2 ≤ length (filter (λ i. may_read (txn_of set e.job.tx.0) i.0) g.items) → greatest (map (λ i. bound i.0) (filter (λ i. may_read (txn_of set e.job.tx.0) i.0) g.items)) ≤ g.within) set.together g (h.admitted.within e.job.tx.0) i two in
        let le : bound a.0 ≤ greatest (map (λ i. bound i.0) (filter (λ i. may_read (txn_of set e.job.tx.0) i.0) g.items)) = le_greatest (λ (i : ItemId). bound i.0) a (filter (λ i. may_read (txn_of set e.job.tx.0) i.0) g.items) read_a in
        omega (arith, far, u.within, v.past, ap bound old_is)

    good_apart : (x y : ItemId) → e.end ≢ end.Apart x y
    unfolding verdict
    good_apart x y c =
        let j = is.judged (subst IsByCommit (sym c) tt) in
        let q = apart_by (find (is_expired set.items e.tick) (reads_of j.work (txn_of set e.job.tx.0).reads)) (first_apart j.work set.together) x y (sym j.verdict ∙ c) in
        let g = group_apart j.work set.together q.0 q.1 in
        let p = apart_parted j.work g.0 q.0 g.2 in
        let old = reads_in j.work g.0.items p.old p.old_in in
        let new = reads_in j.work g.0.items p.new p.new_in in
        not_parted j g.0 p.old p.new old.item new.item g.1 old.here new.here old.named new.named old.is new.is p.far

    good_end : IsGood set bound reads e
    good_end = record { not_stale = good_stale; not_apart = good_apart; aged = good_age }

  -- whoever ended later has no smaller tick
  ends_after : (before es : List EndedJob) (v w : EndedJob) → AreEnds set reads before es → In v before → In w es → v.tick ≤ w.tick
  ends_after before [] v w k i j = absurd j
  ends_after before (x ∷ es) v w k i (inl is) = omega (arith, k.0.after v i, ap (λ (q : EndedJob). q.tick) is)
  ends_after before (x ∷ es) v w k i (inr j) = ends_after (before ++ x ∷ []) es v w k.1 (in_left v before (x ∷ []) i) j

  good_all : (before es : List EndedJob) → AreEnds set reads [] before → AreEnds set reads before es → ((w : EndedJob) → In w before → IsGood set bound reads w)
      → ((w : EndedJob) → In w s.ended → In w before ⊎ In w es) → ((w : EndedJob) → In w before → In w s.ended) → ((w : EndedJob) → In w es → In w s.ended) → (w : EndedJob) → In w s.ended → IsGood set bound reads w
  good_all before [] past rest good whole from to w i = elim (whole w i) [ inl b ↦ good w b | inr none ↦ absurd none ]
  good_all before (e ∷ es) past rest good whole from to w i =
      let g : IsGood set bound reads e = good_end before e rest.0 past good (to e (inl refl)) (λ v j lt. elim (whole v j) [
        | inl b ↦ b
        | inr later ↦ elim later [ inl same ↦ absurd (omega (arith, ap (λ (q : EndedJob). q.tick) same)) | inr more ↦ absurd (omega (arith, ends_after (before ++ e ∷ []) es e v rest.1 (in_right e before (e ∷ []) (inl refl)) more)) ]
      ]) from in
      good_all (before ++ e ∷ []) es (ends_more set reads [] before e past rest.0) rest.1
      (λ v j. elim (append_in v before (e ∷ []) j) [ inl old ↦ good v old | inr n ↦ elim n [ inl same ↦ subst (IsGood set bound reads) (sym same) g | inr none ↦ absurd none ] ])
      (λ v j. elim (whole v j) [ inl b ↦ inl (in_left v before (e ∷ []) b) | inr later ↦ elim later [ inl same ↦ inl (in_right v before (e ∷ []) (inl same)) | inr more ↦ inr more ] ])
      (λ v j. elim (append_in v before (e ∷ []) j) [ inl old ↦ from v old | inr n ↦ elim n [ inl same ↦ to v (inl same) | inr none ↦ absurd none ] ])
      (λ v j. to v (inr j)) w i

  pub all_good : (w : EndedJob) → In w s.ended → IsGood set bound reads w
  all_good w i = good_all [] s.ended tt h.known.ends (λ v j. absurd j) (λ v j. inr j) (λ v j. absurd j) (λ v j. j) w i

-- the law

spread_at : (bound : ℕ → ℕ) (e : EndedJob) (q r : OutsideRead) → IsAged bound e q → IsAged bound e r → IsWithinSpread bound q r
spread_at bound e q r a b =
    let m : bound q.item.0 ≤ max (bound q.item.0) (bound r.item.0) = le-max_left _ _ in
    let n : bound r.item.0 ≤ max (bound q.item.0) (bound r.item.0) = le-max_right _ _ in
    record { below = omega (arith, a.past, b.within); above = omega (arith, b.past, a.within) }

within_age : (bound : ℕ → ℕ) (e : EndedJob) (r : OutsideRead) → IsAged bound e r → IsWithinAge bound e r
within_age bound e r a = record { past = a.past; age = omega (arith, a.past, a.within) }

pub freshness : (set : Set) (response bound : ℕ → ℕ) (entries : List Entry) → IsCompiled set → IsAgeBound set response bound → IsAdmittedBy set bound → IsLegal set entries → ((tx : ℕ) → tx < length set.txns → IsInTime tx (response tx) (state_of set entries)) → IsSteady set entries
    → EndsAreFresh set bound entries
freshness set response bound entries ok ages admitted legal meets steady =
    let s : State = state_of set entries in
    let sound = legal_sound set entries ok legal in
    let steady_at : (item tx : ℕ) → is_dated set.items item ≡ true → IsTheWriter set item tx → IsSteadyAt set entries tx = λ item tx d w.
    let k = any_in (λ (i : ItemId). i.0 == item) (txn_of set tx).writes w.writes in
    steady tx (in_any (λ (i : ItemId). is_dated set.items i.0) k.0 (txn_of set tx).writes k.1 (ap (is_dated set.items) (eqb-true _ _ k.2) ∙ d)) in
    let history : IsHistory set response bound (outside_reads_of entries) (planned_in entries) (state_of set entries) = record {
      ok = ok;
      ages = ages;
      admitted = admitted;
      meets = meets;
      known = (legal_known set entries ok legal).known;
      future = λ r i. omega (arith, sound.calendar.future r i);
      periodic = λ item tx d w. (steady_at item tx d w).periodic;
      goes_on = λ item tx d w e i own. all_at (λ (e : EndedJob). e.job.tx.0 ≡ tx → ¬ GaveUp e.end) (state_of set entries).ended e (steady_at item tx d w).ends i own;
    } in
    let good : (w : EndedJob) → In w (state_of set entries).ended → IsGood set bound (outside_reads_of entries) w = all_good set response bound (outside_reads_of entries) (planned_in entries) (state_of set entries) history in
    record {
      none_stale = all_from (λ e. (item : ItemId) (stamp : ℕ) → e.end ≢ end.Stale item stamp) (state_of set entries).ended (λ e i. (good e i).not_stale);
      none_apart = all_from (λ e. (a b : ItemId) → e.end ≢ end.Apart a b) (state_of set entries).ended (λ e i. (good e i).not_apart);
      age = all_from (λ e. e.end ≡ end.Committed → All (λ r. IsTrue (is_dated set.items r.item.0) → IsWithinAge bound e r) (outside_reads_of entries e.job)) (state_of set entries).ended
          (λ e i c. all_from (λ r. IsTrue (is_dated set.items r.item.0) → IsWithinAge bound e r) (outside_reads_of entries e.job) (λ r j d. within_age bound e r ((good e i).aged c r j d)));
      spread = all_from (λ e. e.end ≡ end.Committed → All (λ q. All (λ r. IsTrue (is_dated set.items q.item.0) → IsTrue (is_dated set.items r.item.0) → IsWithinSpread bound q r) (outside_reads_of entries e.job)) (outside_reads_of entries e.job)) (state_of set entries).ended
          (λ e i c. all_from (λ q. All (λ r. IsTrue (is_dated set.items q.item.0) → IsTrue (is_dated set.items r.item.0) → IsWithinSpread bound q r) (outside_reads_of entries e.job)) (outside_reads_of entries e.job)
          (λ q j. all_from (λ r. IsTrue (is_dated set.items q.item.0) → IsTrue (is_dated set.items r.item.0) → IsWithinSpread bound q r) (outside_reads_of entries e.job)
          (λ r k dq dr. spread_at bound e q r ((good e i).aged c q j dq) ((good e i).aged c r k dr))));
    }
