-- One tick of a legal history: which locks, waits and pending jobs are drawn in it, and which the state has.
use Rattle.std.proofs.Common.{◌≡◌, ◌⊎◌, ℕ, ◌+◌, ◌<◌, ◌≤◌, ◌==◌, Bool, true, false, not, cond, min, ◌&&◌, ◌||◌, nat_lt, nat_le, List, [], ◌∷◌, ◌++◌, map, length, Option, None, Some, set as with_item, refl, ap, sym, ◌∙◌, subst, inl, inr, append_assoc, arith}
use Rattle.std.proofs.lemmas.Bool.{cases_eq, eqb-true, eq-eqb, and_from, and_parts, ltb-true, leb-true, lt-ltb, le-leb}
use Rattle.std.specs.List.{filter_map, list_any}
use Rattle.std.specs.Option.{option_map, option_and_then}
use Rattle.rt_base.specs.declared.ids.ItemId.{ItemId}
use Rattle.rt_base.specs.declared.ids.JobId.{JobId}
use Rattle.rt_base.specs.declared.operation.Op.{Op}
use Rattle.rt_base.specs.declared.operation.Outcome.{Outcome}
use Rattle.rt_base.specs.declared.operation.End.{End}
use Rattle.txn_set.specs.declared.decl.TxnDecl.{TxnDecl}
use Rattle.txn_set.specs.Set.{Set, IsCompiled, txn_of, no_txn, names_item, AreItemsOf}
use Rattle.txn_set.specs.Ceilings.{greatest, write_ceiling, absolute_ceiling}
use Rattle.item_model.specs.Work.{Work, no_work, has_written}
use Rattle.step_journal.specs.State.{State, Row, pending, row_of, same_job, opening}
use Rattle.step_journal.specs.declared.entry.Entry.{Entry}
use Rattle.step_journal.specs.declared.entry.Entry.TheVariants.{Planned, Step, Blocked, Idle}
use Rattle.step_journal.specs.declared.entry.EndedJob.{EndedJob}
use Rattle.step_journal.specs.LockRule.{Lock, locks, lock_ceiling, ceiling_of}
use Rattle.step_journal.specs.Running.{job_row, of_job}
use Rattle.step_journal.specs.Step.{row_after, step}
use Rattle.step_journal.specs.History.{event_of, state_after, state_of, IsLegalFrom, IsLegal}
use Rattle.law_histories.proofs.Members.{In, in_pending, le_greatest}
use Rattle.law_histories.proofs.Invariant.{IsPending, in_range, same_row, same_job_is, written, written_here, written_other}
use Rattle.law_histories.proofs.Holding.{in_left, in_right, append_in, in_map, write_held, read_held, locks_tell, lock_le, map_in, greatest_least}
use Rattle.law_histories.proofs.Calendar.{Sound, Frame}
use Rattle.law_histories.proofs.Histories.{frame_set}
use Rattle.law_histories.proofs.Never.{entry_goes, step_goes, refused_after, refused_all, legal_sound, opening_sound, nothing_at}
use Rattle.law_histories.proofs.Lists.{in_filter_map, filter_map_in, in_any, any_in, all_at}
use Rattle.law_histories.proofs.Conflict.{IsDeclared, in_get_or, row_declared}
use Rattle.law_histories.proofs.SerialAll.{legal_serial}
use Rattle.law_histories.proofs.DelayAll.{legal_delay}
use Rattle.job_rows.specs.declared.row.JobRow.{JobRow}
use Rattle.job_rows.specs.Rows.{ended_row, pending_row, job_rows}
use Rattle.schedule_marks.specs.declared.part.Part.{Part}
use Rattle.schedule_marks.specs.declared.mark.Mark.{Mark}
use Rattle.schedule_marks.specs.declared.mark.Mark.TheVariants as mark
use Rattle.schedule_marks.specs.Marks.{until, until_of, instant_to, last_instant, present, pending_in as job_mark, wait_in, lock_by, is_lock_on, shows_lock, until_write, lock_until, locks_along, locks_of, ceiling_in, ceiling_by}
use Rattle.law_histories.proofs.Events.{false_from as not_true}
use Rattle.job_rows.proofs.Bounding.{clash}
use Rattle.schedule_marks.proofs.Along.{lock_most}
use Rattle.sim_run.proofs.Histories.{states_append}
use Rattle.job_rows.proofs.Fronts.{front_legal as legal_front}
use Rattle.law_texts.specs.Ceilings.{rows_in, with_work, held_ceiling}
use Rattle.law_texts.specs.Drawn.{Waiting, waiting_on, waits_of, jobs_of, wait_shown, job_shown}
use Rattle.law_texts.proofs.Lists.{first_that}
use Rattle.law_texts.proofs.Shown.{shown_then, shows_then}
use Rattle.law_texts.proofs.Goes.{Pends, Goes, goes_further, StepOf, IsAt, Moves, entry_moves, IsSince, IsUpTo, IsKnown, Passes, passes}
use Rattle.law_texts.proofs.Turns.{Waits, Ended, GoesOn, WasOrCame, Turns, turns_weaker, turns_further, IsRefusal, IsWaiting, entry_turns, HasRefusal, Turned, turned}
use Rattle.law_texts.proofs.Steps.{noted, IsTaking, takes_noted, noted_new, noted_still, taken_by, some_took}
use Rattle.law_texts.proofs.Taken.{shows_what, step_shows, as_strong, until_late, until_written, mark_at, IsLockOf, lock_is, lock_there}
use Rattle.law_texts.proofs.PicturePieces.{legal_rest, until_above, until_below, is_present, comes_present, row_cases, ended_in_rows, pending_in_rows, one_of_rising, is_pending}

-- ---- ceilings of items

in_items : (set : Set) (items : List ItemId) (i : ℕ) → ((q : ItemId) → In q items → q.0 < length set.items) → names_item items i ≡ true → i < length set.items
in_items set items i h e = let r = any_in (λ (q : ItemId). q.0 == i) items e in let q : r.0.0 ≡ i = eqb-true _ _ r.2 in omega (arith, h r.0 r.1, q)

declared_in_range : (set : Set) (x : Row) (i : ℕ) (b : Bool) → IsCompiled set → x.job.tx.0 < length set.txns → IsDeclared set x → noted x.work i b ≡ true → i < length set.items
declared_in_range set x i true ok lt d h =
    let t : In (txn_of set x.job.tx.0) set.txns = in_get_or set.txns x.job.tx.0 no_txn lt in
    let w : AreItemsOf set (txn_of set x.job.tx.0).writes = all_at (λ (t : TxnDecl). AreItemsOf set t.writes) set.txns (txn_of set x.job.tx.0) ok.writes t in
    in_items set (txn_of set x.job.tx.0).writes i (λ q k. all_at (λ (i : ItemId). i.0 < length set.items) (txn_of set x.job.tx.0).writes q w.in_range k) (d.writes i h)
declared_in_range set x i false ok lt d h =
    let t : In (txn_of set x.job.tx.0) set.txns = in_get_or set.txns x.job.tx.0 no_txn lt in
    let r : AreItemsOf set (txn_of set x.job.tx.0).reads = all_at (λ (t : TxnDecl). AreItemsOf set t.reads) set.txns (txn_of set x.job.tx.0) ok.reads t in
    in_items set (txn_of set x.job.tx.0).reads i (λ q k. all_at (λ (i : ItemId). i.0 < length set.items) (txn_of set x.job.tx.0).reads q r.in_range k) (d.reads i h)

-- the ceiling of an item by how it is locked
abbrev by_item : Set → ℕ → Bool → ℕ
by_item set i true = absolute_ceiling set i
by_item set i false = write_ceiling set i

cond_same : (b : Bool) (x y : ℕ) → b ≡ true → cond b x y ≡ x
cond_same b x y e = ap (λ (c : Bool). cond c x y) e

in_range_ceiling : (set : Set) (item : ItemId) (b : Bool) → item.0 < length set.items → ceiling_in set item b ≡ by_item set item.0 b
in_range_ceiling set item true lt = cond_same _ _ _ (lt-ltb _ _ lt)
in_range_ceiling set item false lt = cond_same _ _ _ (lt-ltb _ _ lt)

at_most_item : (set : Set) (item : ItemId) (b : Bool) → ceiling_in set item b ≤ by_item set item.0 b
at_most_item set item b = at b (nat_lt item.0 (length set.items)) where
  at : (b c : Bool) → cond c (cond b (absolute_ceiling set item.0) (write_ceiling set item.0)) 0 ≤ by_item set item.0 b
  at true true = omega arith
  at false true = omega arith
  at b false = omega arith

-- each lock of a job's work is one that it noted
lock_noted : (set : Set) (x : Row) (l : Lock) → In l (locks x.work) → (noted x.work l.item l.is_write ≡ true) × (lock_ceiling set l ≡ by_item set l.item l.is_write)
lock_noted set x l i = elim (locks_tell x.work l i) [
  | inl w ↦ (let b : l.is_write ≡ true = ap (λ (k : Lock). k.is_write) w.0 in
      (ap (noted x.work l.item) b ∙ w.1, ap (lock_ceiling set) w.0 ∙ sym (ap (by_item set l.item) b)))
  | inr r ↦ (let b : l.is_write ≡ false = ap (λ (k : Lock). k.is_write) r.0 in
      (ap (noted x.work l.item) b ∙ r.1, ap (lock_ceiling set) r.0 ∙ sym (ap (by_item set l.item) b)))
]

row_ceiling_le : (set : Set) (x : Row) (c : ℕ) → ((l : Lock) → In l (locks x.work) → lock_ceiling set l ≤ c) → ceiling_of set x ≤ c
unfolding ceiling_of
row_ceiling_le set x c h = greatest_least (lock_ceiling set) (locks x.work) c h

ceiling_at_tick : (tick : ℕ) (job : JobId) (item : ItemId) (b : Bool) (c from to : ℕ) → from ≤ tick → tick < to → ceiling_by tick (mark.Lock job item b c from to) ≡ c
ceiling_at_tick tick job item b c from to le lt = cond_same _ _ _ (and_from _ _ (le-leb _ _ le) (lt-ltb _ _ lt))

pub cut : (tick from to c n : ℕ) (b : Bool) → (nat_le from tick && nat_lt tick to) ≡ b → (from ≤ tick → tick < to → c ≤ n) → cond b c 0 ≤ n
cut tick from to c n true e h = let p = and_parts (nat_le from tick) (nat_lt tick to) e in h (leb-true _ _ p.0) (ltb-true _ _ p.1)
cut tick from to c n false e h = omega arith

-- ---- locks by what a job has noted

-- a pending job that has noted the lock
pub record HasNoted (rows : List (Option Row)) (job : JobId) (i : ℕ) (b : Bool) : Type 0 where
  pub row : Row
  pub here : IsPending rows row
  pub job_is : row.job ≡ job
  pub has : noted row.work i b ≡ true

-- and one that holds it
pub record HasLock (rows : List (Option Row)) (job : JobId) (l : Lock) : Type 0 where
  pub row : Row
  pub here : IsPending rows row
  pub job_is : row.job ≡ job
  pub has : In l (locks row.work)

-- the mark of a lock among marks, in a tick
pub record DrawnLock (set : Set) (tick : ℕ) (job : JobId) (l : Lock) (marks : List Mark) : Type 0 where
  pub by : JobId
  pub lock : ItemId × Bool
  pub from : ℕ
  pub to : ℕ
  pub here : In (mark.Lock by lock.0 lock.1 (ceiling_in set lock.0 lock.1) from to) marks
  pub begins : from ≤ tick
  pub lasts : tick < to
  pub job_is : by ≡ job
  pub item_is : lock.0.0 ≡ l.item
  pub write_is : lock.1 ≡ l.is_write

taking_shows : (job : JobId) (item : ItemId) (w b : Bool) (e : Entry) → IsTaking job item.0 w e → (w || not b) ≡ true → shows_lock job item b e ≡ true
taking_shows job item w b (Step by op outcome over t) takes h =
    step_shows job item b by op outcome over t takes.1.lock takes.0 takes.1.by takes.1.item_is (ap (λ (c : Bool). c || not b) takes.1.write_is ∙ h)
taking_shows job item w b other takes h = absurd takes

must_write : (b : Bool) → (b || not true) ≡ true → b ≡ true
must_write true h = refl
must_write false h = absurd cc

shows_write : (job : JobId) (item : ItemId) (e : Entry) → shows_lock job item true e ≡ true → IsTaking job item.0 true e
shows_write job item e h =
    let r = shows_what job item true e h in
    subst (IsTaking job item.0 true) (sym r.entry_is) (r.job_is, record { lock = r.lock; by = r.locks; item_is = r.item_is; write_is = must_write r.lock.1 r.strong })

in_locks : (work : Work) (i : ℕ) (b : Bool) → noted work i b ≡ true → (b ≡ false → has_written work i ≡ false) → In (record { item = i; is_write = b }) (locks work)
in_locks work i true n free = write_held work i n
in_locks work i false n free = read_held work i n (free refl)

ceiling_of_lock : (set : Set) (i : ℕ) (b : Bool) → lock_ceiling set (record { item = i; is_write = b }) ≡ by_item set i b
ceiling_of_lock set i true = refl
ceiling_of_lock set i false = refl

not_written_lock : (work : Work) (l : Lock) → In l (locks work) → l.is_write ≡ false → has_written work l.item ≡ false
not_written_lock work l i kind = elim (locks_tell work l i) [
  | inl w ↦ absurd (clash l.is_write (ap (λ (k : Lock). k.is_write) w.0) kind)
  | inr r ↦ r.2
]

same_kind : (b w : Bool) → (b || not w) ≡ true → (b ≡ true → w ≡ false → ⊥) → b ≡ w
same_kind true true s h = refl
same_kind true false s h = absurd (h refl refl)
same_kind false true s h = absurd cc
same_kind false false s h = refl

-- ---- the marks of waits

-- a mark is that of a refusal
pub record IsWaitOf (stop : ℕ) (shown : List JobRow) (e : Entry) (m : Mark) : Type 0 where
  pub job : JobId
  pub op : Op
  pub by : JobId
  pub ceiling : ℕ
  pub from : ℕ
  pub entry_is : e ≡ Blocked job op by ceiling from
  pub mark_is : m ≡ mark.Wait job by from (min (until_of stop shown job) (until_of stop shown by))

pub wait_is : (part : Part) (stop : ℕ) (shown : List JobRow) (e : Entry) (m : Mark) → wait_in part stop shown e ≡ Some m → IsWaitOf stop shown e m
wait_is part stop shown (Planned tx t) m h = absurd cc
wait_is part stop shown (Step job op outcome over t) m h = absurd cc
wait_is part stop shown (Blocked job op by c t) m h = record { job = job; op = op; by = by; ceiling = c; from = t; entry_is = refl; mark_is = mark_at _ _ m h }
wait_is part stop shown (Idle from to) m h = absurd cc

-- a refusal of a job, which waits on the other
pub record IsBlocked (job by : JobId) (e : Entry) : Type 0 where
  pub op : Op
  pub ceiling : ℕ
  pub tick : ℕ
  pub is : e ≡ Blocked job op by ceiling tick

blocked_is : (e : Entry) (job by : JobId) → IsRefusal e job by → IsBlocked job by e
blocked_is (Blocked j op on c t) job by h = record { op = op; ceiling = c; tick = t; is = ap (λ (k : JobId). Blocked k op on c t) h.0 ∙ ap (λ (k : JobId). Blocked job op k c t) h.1 }
blocked_is other job by h = absurd h

waits_some : (job : JobId) (o : Option JobId) (w : Waiting) → option_map (waiting_on job) o ≡ Some w → (j : JobId) × (o ≡ Some j) × (w ≡ waiting_on job j)
waits_some job None w h = absurd cc
waits_some job (Some j) w h = (j, refl, cc)

nobody_waits : (set : Set) (job by : JobId) → Waits (opening set).rows job by → ⊥
unfolding opening
nobody_waits set job by w = nothing_at set.txns w.row.job.tx.0 w.row w.here

-- the row of a pending job is found by its name
found : (rows : List (Option Row)) (x : Row) (job : JobId) → IsPending rows x → x.job ≡ job → job_row rows job ≡ Some x
found rows x job h e =
    let same : same_job x.job job ≡ true = ap (λ (k : JobId). same_job x.job k) (sym e) ∙ and_from _ _ (eq-eqb x.job.tx.0 x.job.tx.0 refl) (eq-eqb x.job.serial x.job.serial refl) in
    let here : row_of rows job.tx.0 ≡ Some x = subst (λ (n : ℕ). row_of rows n ≡ Some x) (ap (λ (k : JobId). k.tx.0) e) h in
    ap (option_and_then (of_job job)) here ∙ ap (λ (b : Bool). cond b (Some x) None) same

-- a job's row in a tick, by its row before
pub record InTick (rows : List (Option Row)) (x : Row) : Type 0 where
  pub row : Row
  pub here : IsPending rows row
  pub job_is : row.job ≡ x.job
  pub grows : (i : ℕ) (b : Bool) → noted x.work i b ≡ true → noted row.work i b ≡ true

-- and the row before, by that in the tick
pub record FromTick (set : Set) (s : State) (entry : Entry) (y : Row) : Type 0 where
  pub row : Row
  pub here : IsPending s.rows row
  pub job_is : y.job ≡ row.job
  pub noted_then : (i : ℕ) (b : Bool) → noted y.work i b ≡ true → (noted row.work i b ≡ true) ⊎ IsTaking row.job i b entry
  pub declared : IsDeclared set y

nothing_noted : (i : ℕ) (b : Bool) → noted no_work i b ≡ true → ⊥
nothing_noted i true h = cc
nothing_noted i false h = cc

-- the row that a pending job has at the end of a history
pub record RowOn (rows : List JobRow) (x : Row) : Type 0 where
  pub row : JobRow
  pub here : In row rows
  pub job_is : row.job ≡ x.job
  pub release_is : row.release ≡ x.release

-- whichever wait is new
abbrev any_new : JobId → JobId → Type 0
any_new job by = Unit {0}

-- ---- one tick of a history, between the state before an entry and the one after it

module _ (set : Set) (ok : IsCompiled set) (part : Part) (before after : List Entry) (entry : Entry) (legal : IsLegal set (before ++ entry ∷ after)) (tick : ℕ)
    (from_le : part.from ≤ tick) (lt_to : tick < part.to) (since : (state_of set before).now ≤ tick) (ends : tick < (state_after set (state_of set before) entry).now) where
  abbrev whole : List Entry
  whole = before ++ entry ∷ after

  abbrev now_state : State
  now_state = state_of set before

  abbrev next_state : State
  next_state = state_after set now_state entry

  abbrev last_state : State
  last_state = state_of set whole

  abbrev stop : ℕ
  stop = last_instant part.to whole

  abbrev shown : List JobRow
  shown = present part stop (job_rows set whole)

  abbrev refused : JobId → Bool
  refused = refused_all (λ _. false) before

  legal_before : IsLegal set before
  legal_before = legal_front set (opening set) before (entry ∷ after) legal

  legal_now : IsLegalFrom set now_state (entry ∷ after)
  legal_now = legal_rest set (opening set) before (entry ∷ after) legal

  sound : Sound set refused (now_state.now + 1) now_state
  sound = legal_sound set before ok legal_before

  moved : Moves set now_state next_state entry
  moved = entry_moves set ok refused now_state sound entry legal_now.0

  passed_before : Passes (opening set) now_state before
  passed_before = passes set (λ _. false) (opening set) before ok (opening_sound set) legal_before

  passed_after : Passes next_state last_state after
  passed_after =
      let next_sound = (entry_goes set refused now_state entry (step set now_state (event_of entry)) (step_goes set ok refused now_state sound (event_of entry)) legal_now.0).0 in
      subst (λ (l : State). Passes next_state l after) (sym (states_append set (opening set) before (entry ∷ after)))
      (passes set (refused_after refused entry) next_state after ok next_sound legal_now.1)

  turned_before : Turned (opening set) now_state before
  turned_before = turned set (λ _. false) (opening set) before ok (opening_sound set) legal_before

  turned_after : Turned next_state last_state after
  turned_after =
      let next_sound = (entry_goes set refused now_state entry (step set now_state (event_of entry)) (step_goes set ok refused now_state sound (event_of entry)) legal_now.0).0 in
      subst (λ (l : State). Turned next_state l after) (sym (states_append set (opening set) before (entry ∷ after)))
      (turned set (refused_after refused entry) next_state after ok next_sound legal_now.1)

  turns_on : Turns any_new next_state.now now_state last_state.rows last_state.ended
  turns_on =
      let first = turns_weaker (IsRefusal entry) any_new next_state.now next_state.now now_state next_state.rows next_state.ended (omega arith) (λ x j r. tt) (entry_turns set ok refused now_state sound entry legal_now.0).turns in
      let later = turns_weaker (HasRefusal after) any_new next_state.now next_state.now next_state last_state.rows last_state.ended (omega arith) (λ x j r. tt) turned_after.turns in
      turns_further any_new next_state.now next_state.now now_state next_state last_state.rows last_state.ended (omega arith) first later

  goes : Goes next_state.now now_state last_state
  goes = goes_further next_state.now next_state.now now_state next_state last_state (omega arith) moved.goes passed_after.goes

  entry_in : In entry whole
  entry_in = in_right entry before (entry ∷ after) (inl refl)

  stop_at : (e : Entry) → IsAt set now_state next_state e → tick < instant_to part.to e
  stop_at (Planned tx t) h = absurd (omega (arith, h, since, ends))
  stop_at (Step job op outcome over t) h = omega (arith, h.1, h.2, since, ends, lt_to)
  stop_at (Blocked job op by c t) h = absurd (omega (arith, h.1, since, ends))
  stop_at (Idle from to) h = omega (arith, h.0, ends, lt_to)

  stop_later : tick < stop
  stop_later = omega (arith, stop_at entry moved.at, le_greatest (instant_to part.to) entry whole entry_in)

  -- a pending job ends later than the tick
  late_end : (x : Row) → IsPending now_state.rows x → (d : EndedJob) → In d last_state.ended → d.job ≡ x.job → tick < d.tick
  late_end x h d i e = elim (goes.new d i) [
    | inl old ↦ (let lt = (legal_serial set before ok legal_before).done_row d x old h (ap (λ (k : JobId). k.tx.0) e) in
        absurd (let same : d.job.serial ≡ x.job.serial = ap (λ (k : JobId). k.serial) e in omega (arith, lt, same)))
    | inr late ↦ omega (arith, late, ends)
  ]

  row_lasts : (x : Row) → IsPending now_state.rows x → (r : JobRow) → In r (job_rows set whole) → r.job ≡ x.job → tick < until stop r
  row_lasts x h r i e = elim (row_cases set whole r i) [
    | inl d ↦ (let late = late_end x h d.0 d.1 (sym (ap (λ (k : JobRow). k.job) d.2) ∙ e) in omega (arith, late, ap (until stop) d.2))
    | inr y ↦ omega (arith, stop_later, ap (until stop) y.2)
  ]

  released_by : (x : Row) → IsPending now_state.rows x → x.release ≤ tick
  released_by x h = omega (arith, (legal_delay set before ok legal_before).since x h, since)

  row_on : (x : Row) → IsPending now_state.rows x → RowOn (job_rows set whole) x
  row_on x h = elim (goes.goes_on x h) [
    | inl p ↦ record { row = pending_row set whole p.row; here = pending_in_rows set whole p.row p.here; job_is = p.job_is; release_is = p.release_is }
    | inr o ↦ record { row = ended_row set whole o.ended; here = ended_in_rows set whole o.ended o.here; job_is = o.job_is; release_is = o.release_is }
  ]

  -- its spans are drawn beyond the tick
  lasts : (x : Row) → IsPending now_state.rows x → tick < until_of stop shown x.job
  lasts x h =
      let r = row_on x h in
      let until_row : tick < until stop r.row = row_lasts x h r.row r.here r.job_is in
      let there = comes_present part stop (job_rows set whole) r.row r.here (omega (arith, r.release_is, released_by x h, lt_to)) (omega (arith, until_row, from_le)) in
      until_above stop tick shown x.job (λ q i e. row_lasts x h q (is_present part stop (job_rows set whole) q i) e) (r.row, there, r.job_is)

  -- those of a job that ended are not
  is_over : (d : EndedJob) → In d now_state.ended → until_of stop shown d.job ≤ tick
  is_over d i = until_below stop tick shown d.job (λ r k e. elim (row_cases set whole r (is_present part stop (job_rows set whole) r k)) [
    | inl f ↦ (let j : f.0.job ≡ d.job = sym (ap (λ (q : JobRow). q.job) f.2) ∙ e in
        let same = one_of_rising last_state.ended f.0 d (legal_serial set whole ok legal).rising f.1 (goes.kept d i) j in
        let done : d.tick ≤ now_state.now = ((legal_delay set before ok legal_before).done d i).tick in
        omega (arith, done, since, ap (until stop) f.2, ap (λ (q : EndedJob). q.tick) same))
    | inr y ↦ (let j : y.0.job ≡ d.job = sym (ap (λ (q : JobRow). q.job) y.2) ∙ e in
        let here = is_pending set last_state.rows y.0 (legal_sound set whole ok legal).frame y.1 in
        let lt = (legal_serial set whole ok legal).done_row d y.0 (goes.kept d i) here (ap (λ (k : JobId). k.tx.0) (sym j)) in
        absurd (let same : y.0.job.serial ≡ d.job.serial = ap (λ (k : JobId). k.serial) j in omega (arith, lt, same)))
  ])

  -- ---- the rows in the tick

  rows_of_step : (job : JobId) (op : Op) (outcome : Outcome) (over : Option End) (t : ℕ) (h : StepOf set now_state job op outcome)
      → rows_in now_state (Step job op outcome over t) ≡ with_item now_state.rows h.row.job.tx.0 (Some (row_after now_state h.row op))
  rows_of_step job op outcome over t h = ap (with_work now_state op) (found now_state.rows h.row job h.here h.job_is)

  in_tick_at : (e : Entry) → IsAt set now_state next_state e → (x : Row) → IsPending now_state.rows x → InTick (rows_in now_state e) x
  in_tick_at (Step job op outcome over t) h x here =
      let r = h.0.row in
      subst (λ (rows : List (Option Row)). InTick rows x) (sym (rows_of_step job op outcome over t h.0))
      (elim (cases_eq x.job.tx.0 r.job.tx.0) [
        | inl same ↦ (let is : x ≡ r = same_row now_state.rows x r here h.0.here same in
            record {
              row = row_after now_state r op;
              here = written_here now_state.rows r.job.tx.0 (row_after now_state r op) (in_range now_state.rows _ r h.0.here) refl;
              job_is = ap (λ (q : Row). q.job) (sym is);
              grows = λ i b n. noted_still now_state.items r.work op i b (ap (λ (q : Row). noted q.work i b) (sym is) ∙ n);
            })
        | inr ne ↦ record { row = x; here = written_other now_state.rows r.job.tx.0 (row_after now_state r op) x ne here; job_is = refl; grows = λ i b n. n }
      ])
  in_tick_at other h x here = record { row = x; here = here; job_is = refl; grows = λ i b n. n }

  same_from : (e : Entry) (y : Row) → IsPending now_state.rows y → FromTick set now_state e y
  same_from e y here = record { row = y; here = here; job_is = refl; noted_then = λ i b n. inl n; declared = (legal_serial set before ok legal_before).declared y here }

  from_tick_at : (e : Entry) → IsAt set now_state next_state e → (y : Row) → IsPending (rows_in now_state e) y → FromTick set now_state e y
  from_tick_at (Planned tx t) h y here = same_from (Planned tx t) y here
  from_tick_at (Step job op outcome over t) h y here =
      let r = h.0.row in
      let there : IsPending (with_item now_state.rows r.job.tx.0 (Some (row_after now_state r op))) y = subst (λ (rows : List (Option Row)). IsPending rows y) (rows_of_step job op outcome over t h.0) here in
      elim (written now_state.rows r.job.tx.0 (row_after now_state r op) y (in_range now_state.rows _ r h.0.here) refl there) [
        | inl is ↦ record {
          row = r;
          here = h.0.here;
          job_is = ap (λ (q : Row). q.job) is;
          noted_then = λ i b n. elim (noted_new now_state.items r.work op i b (ap (λ (q : Row). noted q.work i b) (sym is) ∙ n)) [
            | inl old ↦ inl old
            | inr k ↦ inr (sym h.0.job_is, record { lock = k.lock; by = ap (lock_by op) h.0.outcome_is ∙ k.by; item_is = k.item_is; write_is = k.write_is })
          ];
          declared = subst (IsDeclared set) (sym is) (row_declared set now_state r op ((legal_serial set before ok legal_before).declared r h.0.here) h.0.may);
        }
        | inr o ↦ same_from (Step job op outcome over t) y o.1
      ]
  from_tick_at (Blocked job op by c t) h y here = same_from (Blocked job op by c t) y here
  from_tick_at (Idle from to) h y here = same_from (Idle from to) y here

  frame_at : (e : Entry) → IsAt set now_state next_state e → Frame set (rows_in now_state e)
  frame_at (Step job op outcome over t) h = subst (Frame set) (sym (rows_of_step job op outcome over t h.0)) (frame_set set now_state.rows h.0.row (row_after now_state h.0.row op) sound.frame h.0.here refl)
  frame_at other h = sound.frame

  -- ---- the locks that the jobs of the tick's rows have noted

  abbrev rows_then : List (Option Row)
  rows_then = rows_in now_state entry

  -- an entry that the history has by the tick
  abbrev IsBy : Entry → Type 0
  IsBy e = In e before ⊎ (e ≡ entry)

  by_is_in : (e : Entry) → IsBy e → In e (before ++ entry ∷ [])
  by_is_in e (inl old) = in_left e before (entry ∷ []) old
  by_is_in e (inr is) = in_right e before (entry ∷ []) (inl is)

  in_is_by : (e : Entry) → In e (before ++ entry ∷ []) → IsBy e
  in_is_by e i = elim (append_in e before (entry ∷ []) i) [ inl old ↦ inl old | inr new ↦ elim new [ inl is ↦ inr is | inr none ↦ absurd none ] ]

  by_is_whole : (e : Entry) → IsBy e → In e whole
  by_is_whole e (inl old) = in_left e before (entry ∷ after) old
  by_is_whole e (inr is) = in_right e before (entry ∷ after) (inl is)

  up_to_tick : (n m : ℕ) (e : Entry) → n ≤ m → IsUpTo n e → IsUpTo m e
  up_to_tick n m (Planned tx t) le h = tt
  up_to_tick n m (Step job op outcome over t) le h = omega (arith, le, h)
  up_to_tick n m (Blocked job op by c t) le h = omega (arith, le, h)
  up_to_tick n m (Idle from to) le h = omega (arith, le, h)

  entry_early : (e : Entry) (job : JobId) (i : ℕ) (b : Bool) → IsTaking job i b e → IsAt set now_state next_state e → IsUpTo (tick + 1) e
  entry_early (Step by op outcome over t) job i b takes h = omega (arith, h.1, since)
  entry_early other job i b takes h = absurd takes

  step_early : (e : Entry) (job : JobId) (op : Op) (outcome : Outcome) (over : Option End) (t : ℕ) → IsBy e → e ≡ Step job op outcome over t → t ≤ tick
  step_early e job op outcome over t (inl old) is = let u : t < now_state.now = subst (IsUpTo now_state.now) is (passed_before.up_to e old) in omega (arith, u, since)
  step_early e job op outcome over t (inr here) is = let a = subst (IsAt set now_state next_state) (sym here ∙ is) moved.at in omega (arith, a.1, since)

  early : (e : Entry) (job : JobId) (i : ℕ) (b : Bool) → IsBy e → IsTaking job i b e → IsUpTo (tick + 1) e
  early e job i b (inl old) takes = up_to_tick now_state.now (tick + 1) e (omega (arith, since)) (passed_before.up_to e old)
  early e job i b (inr is) takes = entry_early e job i b takes (subst (IsAt set now_state next_state) (sym is) moved.at)

  -- a lock that a step of the history took by the tick, and whose job is pending beyond it
  by_before : (e : Entry) (job : JobId) (i : ℕ) (b : Bool) → In e before → IsTaking job i b e → tick < until_of stop shown job → IsKnown now_state e → HasNoted rows_then job i b
  by_before (Planned tx t) job i b k takes lt known = absurd takes
  by_before (Step by op outcome over t) job i b k takes lt known = elim known.1 [
    | inl p ↦ (let a = (legal_serial set before ok legal_before).alone p.row p.here in
        let mine : IsTaking p.row.job i b (Step by op outcome over t) = (sym p.job_is, takes.1) in
        let n : noted p.row.work i b ≡ true = ap (λ (w : Work). noted w i b) a.work ∙ taken_by now_state.items p.row.job i b before no_work (Step by op outcome over t) a.outcomes k mine in
        let r = in_tick_at entry moved.at p.row p.here in
        record { row = r.row; here = r.here; job_is = r.job_is ∙ (p.job_is ∙ takes.0); has = r.grows i b n })
    | inr o ↦ absurd (omega (arith, lt, is_over o.ended o.here, ap (until_of stop shown) (o.job_is ∙ takes.0)))
  ]
  by_before (Blocked by op on c t) job i b k takes lt known = absurd takes
  by_before (Idle from to) job i b k takes lt known = absurd takes

  by_entry : (e : Entry) (job : JobId) (i : ℕ) (b : Bool) → e ≡ entry → IsTaking job i b e → IsAt set now_state next_state e → HasNoted rows_then job i b
  by_entry (Step by op outcome over t) job i b is takes h =
      let r = h.0.row in
      let n : noted (row_after now_state r op).work i b ≡ true = takes_noted now_state.items r.work op outcome i b h.0.outcome_is takes.1 in
      let at : IsPending (rows_in now_state (Step by op outcome over t)) (row_after now_state r op) =
      subst (λ (rows : List (Option Row)). IsPending rows (row_after now_state r op)) (sym (rows_of_step by op outcome over t h.0))
      (written_here now_state.rows r.job.tx.0 (row_after now_state r op) (in_range now_state.rows _ r h.0.here) refl) in
      record { row = row_after now_state r op; here = subst (λ (q : Entry). IsPending (rows_in now_state q) (row_after now_state r op)) is at; job_is = h.0.job_is ∙ takes.0; has = n }
  by_entry other job i b is takes h = absurd takes

  taken_is_noted : (e : Entry) (job : JobId) (i : ℕ) (b : Bool) → IsBy e → IsTaking job i b e → tick < until_of stop shown job → HasNoted rows_then job i b
  taken_is_noted e job i b (inl old) takes lt = by_before e job i b old takes lt (passed_before.known e old)
  taken_is_noted e job i b (inr is) takes lt = by_entry e job i b is takes (subst (IsAt set now_state next_state) (sym is) moved.at)

  -- and what a pending job has noted was taken by a step
  noted_is_taken : (y : Row) (i : ℕ) (b : Bool) → IsPending rows_then y → noted y.work i b ≡ true → (e : Entry) × IsBy e × IsTaking y.job i b e
  noted_is_taken y i b here n =
      let f = from_tick_at entry moved.at y here in
      let a = (legal_serial set before ok legal_before).alone f.row f.here in
      let found : (e : Entry) × IsBy e × IsTaking f.row.job i b e = elim (f.noted_then i b n) [
        | inl old ↦ elim (some_took now_state.items f.row.job i b before no_work a.outcomes (λ by e. same_job_is by f.row.job e) (ap (λ (w : Work). noted w i b) (sym a.work) ∙ old)) [
          | inl none ↦ absurd (nothing_noted i b none)
          | inr t ↦ (t.0, inl t.1, t.2)
        ]
        | inr new ↦ (entry, inr refl, new)
      ] in
      (found.0, found.1, subst (λ (j : JobId). IsTaking j i b found.0) (sym f.job_is) found.2)

  lasts_then : (y : Row) → IsPending rows_then y → tick < until_of stop shown y.job
  lasts_then y here =
      let f = from_tick_at entry moved.at y here in
      subst (λ (j : JobId). tick < until_of stop shown j) (sym f.job_is) (lasts f.row f.here)

  one_row : (x y : Row) → IsPending rows_then x → IsPending rows_then y → x.job ≡ y.job → x ≡ y
  one_row x y h k e = same_row rows_then x y h k (ap (λ (j : JobId). j.tx.0) e)

  -- ---- what is drawn is held

  abbrev drawn_locks : List Mark
  drawn_locks = locks_of set part stop (job_rows set whole) whole

  -- the parts of the whole about the step of a lock, and when that was
  step_by : (front back : List Entry) (e : Entry) (job : JobId) (op : Op) (outcome : Outcome) (over : Option End) (t : ℕ) → whole ≡ front ++ e ∷ back → e ≡ Step job op outcome over t → t ≤ tick → IsBy e
  step_by front back e job op outcome over t parts is le = elim (append_in e before (entry ∷ after) (subst (λ (l : List Entry). In e l) (sym parts) (in_right e front (e ∷ back) (inl refl)))) [
    | inl old ↦ inl old
    | inr new ↦ elim new [
      | inl here ↦ inr here
      | inr later ↦ absurd (let late : next_state.now ≤ t = subst (IsSince next_state.now) is (passed_after.since e later) in omega (arith, late, le, ends))
    ]
  ]

  not_written : (m : Mark) (k : IsLockOf set stop shown [] whole m) (y : Row) → k.taken.lock.1 ≡ false → IsPending rows_then y → y.job ≡ k.taken.job
      → tick < until_write k.taken.job k.taken.lock.0 (until_of stop shown k.taken.job) k.back → has_written y.work k.taken.lock.0.0 ≡ true → ⊥
  not_written m k y kind here j lt w =
      let t = k.taken in
      let f = noted_is_taken y t.lock.0.0 true here w in
      let s : shows_lock t.job t.lock.0 true f.0 ≡ true = taking_shows t.job t.lock.0 true true f.0 (subst (λ (q : JobId). IsTaking q t.lock.0.0 true f.0) j f.2) refl in
      let weak : shows_lock t.job t.lock.0 t.lock.1 f.0 ≡ true = ap (λ (b : Bool). shows_lock t.job t.lock.0 b f.0) kind ∙ taking_shows t.job t.lock.0 true false f.0 (subst (λ (q : JobId). IsTaking q t.lock.0.0 true f.0) j f.2) refl in
      elim (append_in f.0 k.front (k.here ∷ k.back) (subst (λ (l : List Entry). In f.0 l) k.parts (by_is_whole f.0 f.1))) [
        | inl old ↦ clash _ (in_any (shows_lock t.job t.lock.0 t.lock.1) f.0 k.front old weak) t.first
        | inr new ↦ elim new [
          | inl is ↦ (let q = subst (λ (e : Entry). shows_lock t.job t.lock.0 true e ≡ true) (is ∙ t.entry_is) s in
              let p = and_parts (same_job t.job t.job) (is_lock_on t.lock.0 true (lock_by t.op t.outcome)) q in
              let o : is_lock_on t.lock.0 true (Some t.lock) ≡ true = subst (λ (l : Option (ItemId × Bool)). is_lock_on t.lock.0 true l ≡ true) t.by p.1 in
              clash t.lock.1 (must_write t.lock.1 (and_parts (t.lock.0.0 == t.lock.0.0) (t.lock.1 || not true) o).1) kind)
          | inr later ↦ absurd (omega (arith, lt, until_written t.job t.lock.0 (until_of stop shown t.job) tick k.back f.0 later s (early f.0 y.job t.lock.0.0 true f.1 f.2)))
        ]
      ]

  pub mark_holds : (m : Mark) (k : IsLockOf set stop shown [] whole m) → k.taken.tick ≤ tick → tick < lock_until k.taken.job k.taken.lock.0 k.taken.lock.1 (until_of stop shown k.taken.job) k.back
      → HasLock rows_then k.taken.job (record { item = k.taken.lock.0.0; is_write = k.taken.lock.1 })
  mark_holds m k le lt =
      let t = k.taken in
      let by = step_by k.front k.back k.here t.job t.op t.outcome t.over t.tick k.parts t.entry_is le in
      let takes : IsTaking t.job t.lock.0.0 t.lock.1 k.here = subst (IsTaking t.job t.lock.0.0 t.lock.1) (sym t.entry_is) (refl, record { lock = t.lock; by = t.by; item_is = refl; write_is = refl }) in
      let lasting : tick < until_of stop shown t.job = omega (arith, lt, lock_most t.job t.lock.0 t.lock.1 (until_of stop shown t.job) k.back) in
      let n = taken_is_noted k.here t.job t.lock.0.0 t.lock.1 by takes lasting in
      record {
        row = n.row;
        here = n.here;
        job_is = n.job_is;
        has = in_locks n.row.work t.lock.0.0 t.lock.1 n.has (λ kind. not_true _ (not_written m k n.row kind n.here n.job_is
            (subst (λ (b : Bool). tick < lock_until t.job t.lock.0 b (until_of stop shown t.job) k.back) kind lt)));
      }

  abbrev held : ℕ
  held = held_ceiling set rows_then

  mark_held : (m : Mark) → In m drawn_locks → ceiling_by tick m ≤ held
  mark_held m i =
      let k = lock_is set part stop shown [] whole m i in
      let t = k.taken in
      let to = lock_until t.job t.lock.0 t.lock.1 (until_of stop shown t.job) k.back in
      let small : t.tick ≤ tick → tick < to → ceiling_in set t.lock.0 t.lock.1 ≤ held = λ le lt.
      let h = mark_holds m k le lt in
      let in_row : lock_ceiling set (record { item = t.lock.0.0; is_write = t.lock.1 }) ≤ ceiling_of set h.row = lock_le set h.row _ h.has in
      let in_all = le_greatest (ceiling_of set) h.row (pending rows_then) (in_pending rows_then h.row.job.tx.0 h.row h.here) in
      omega (arith, in_row, in_all, at_most_item set t.lock.0 t.lock.1, ceiling_of_lock set t.lock.0.0 t.lock.1) in
      subst (λ (q : Mark). ceiling_by tick q ≤ held) (sym t.mark_is)
      (cut tick t.tick to (ceiling_in set t.lock.0 t.lock.1) held (nat_le t.tick tick && nat_lt tick to) refl small)

  -- ---- what is held is drawn

  abbrev drawn : ℕ
  drawn = greatest (map (ceiling_by tick) drawn_locks)

  no_write : (y : Row) (item : ItemId) → IsPending rows_then y → has_written y.work item.0 ≡ false → (e : Entry) → IsBy e → shows_lock y.job item true e ≡ true → ⊥
  no_write y item here none e by s =
      let n = taken_is_noted e y.job item.0 true by (shows_write y.job item e s) (lasts_then y here) in
      let same = one_row n.row y n.here here n.job_is in
      clash (has_written y.work item.0) (ap (λ (q : Row). has_written q.work item.0) (sym same) ∙ n.has) none

  until_then : (y : Row) (item : ItemId) (b : Bool) (rest : List Entry) → IsPending rows_then y → (b ≡ false → has_written y.work item.0 ≡ false) → ((e : Entry) → In e rest → IsBy e)
      → tick < lock_until y.job item b (until_of stop shown y.job) (rest ++ after)
  until_then y item true rest here none by = lasts_then y here
  until_then y item false rest here none by = until_late y.job item (until_of stop shown y.job) tick (rest ++ after) (lasts_then y here) (λ e i s. elim (append_in e rest after i) [
    | inl old ↦ absurd (no_write y item here (none refl) e (by e old) s)
    | inr new ↦ later e (passed_after.since e new)
  ]) where
    later : (e : Entry) → IsSince next_state.now e → IsSince (tick + 1) e
    later (Step job op outcome over t) h = omega (arith, h, ends)
    later (Blocked job op by c t) h = omega (arith, h, ends)
    later other h = tt

  pub held_is_drawn : (y : Row) (l : Lock) → IsPending rows_then y → In l (locks y.work) → DrawnLock set tick y.job l drawn_locks
  held_is_drawn y l here i =
      let n = lock_noted set y l i in
      let g = noted_is_taken y l.item l.is_write here n.0 in
      let item : ItemId = record { 0 = l.item } in
      let p = shows_lock y.job item l.is_write in
      let f = first_that p (before ++ entry ∷ []) (in_any p g.0 (before ++ entry ∷ []) (by_is_in g.0 g.1) (taking_shows y.job item l.is_write l.is_write g.0 g.2 (as_strong l.is_write))) in
      let s = shows_what y.job item l.is_write f.here f.passes in
      let by_here : IsBy f.here = in_is_by f.here (subst (λ (es : List Entry). In f.here es) (sym f.parts) (in_right f.here f.front (f.here ∷ f.rest) (inl refl))) in
      let by_rest : (e : Entry) → In e f.rest → IsBy e = λ e k. in_is_by e (subst (λ (es : List Entry). In e es) (sym f.parts) (in_right e f.front (f.here ∷ f.rest) (inr k))) in
      let free : l.is_write ≡ false → has_written y.work l.item ≡ false = λ b. not_written_lock y.work l i b in
      let kind : s.lock.1 ≡ l.is_write = same_kind s.lock.1 l.is_write s.strong (λ w b. no_write y item here (free b) f.here by_here
      (ap (shows_lock y.job item true) s.entry_is ∙ step_shows y.job item true s.by s.op s.outcome s.over s.tick s.lock s.job_is s.locks s.item_is (ap (λ (c : Bool). c || not true) w))) in
      let whole_is : whole ≡ f.front ++ Step s.by s.op s.outcome s.over s.tick ∷ (f.rest ++ after) =
      sym (append_assoc before (entry ∷ []) after) ∙ (ap (λ (es : List Entry). es ++ after) f.parts ∙ (append_assoc f.front (f.here ∷ f.rest) after ∙ ap (λ (e : Entry). f.front ++ e ∷ (f.rest ++ after)) s.entry_is)) in
      let lock_item : s.lock.0 ≡ item = ap (λ (n : ℕ). record { 0 = n }) s.item_is in
      let none : list_any (shows_lock s.by s.lock.0 s.lock.1) f.front ≡ false =
      ap (λ (j : JobId). list_any (shows_lock j s.lock.0 s.lock.1) f.front) s.job_is
      ∙ (ap (λ (q : ItemId). list_any (shows_lock y.job q s.lock.1) f.front) lock_item ∙ (ap (λ (b : Bool). list_any (shows_lock y.job item b) f.front) kind ∙ f.none)) in
      let ends_later : tick < lock_until s.by s.lock.0 s.lock.1 (until_of stop shown s.by) (f.rest ++ after) =
      subst (λ (j : JobId). tick < lock_until j s.lock.0 s.lock.1 (until_of stop shown j) (f.rest ++ after)) (sym s.job_is)
      (subst (λ (q : ItemId). tick < lock_until y.job q s.lock.1 (until_of stop shown y.job) (f.rest ++ after)) (sym lock_item)
      (subst (λ (b : Bool). tick < lock_until y.job item b (until_of stop shown y.job) (f.rest ++ after)) (sym kind) (until_then y item l.is_write f.rest here free by_rest))) in
      let begun = step_early f.here s.by s.op s.outcome s.over s.tick by_here s.entry_is in
      let there = lock_there set part stop shown [] f.front (f.rest ++ after) s.by s.op s.outcome s.over s.tick s.lock s.locks none (omega (arith, begun, lt_to)) (omega (arith, from_le, ends_later)) in
      record {
        by = s.by;
        lock = s.lock;
        from = s.tick;
        to = lock_until s.by s.lock.0 s.lock.1 (until_of stop shown s.by) (f.rest ++ after);
        here = subst (λ (es : List Entry). In (mark.Lock s.by s.lock.0 s.lock.1 (ceiling_in set s.lock.0 s.lock.1) s.tick (lock_until s.by s.lock.0 s.lock.1 (until_of stop shown s.by) (f.rest ++ after))) (locks_along set part stop shown [] es)) (sym whole_is) there;
        begins = begun;
        lasts = ends_later;
        job_is = s.job_is;
        item_is = s.item_is;
        write_is = kind;
      }

  pub pends_then : (y : Row) → In y (pending rows_then) → IsPending rows_then y
  pends_then y j = is_pending set rows_then y (frame_at entry moved.at) j

  row_drawn : (y : Row) → In y (pending rows_then) → ceiling_of set y ≤ drawn
  row_drawn y j =
      let here = pends_then y j in
      let known : y.job.tx.0 < length set.txns = omega (arith, in_range rows_then _ y here, (frame_at entry moved.at).count) in
      row_ceiling_le set y drawn (λ l k.
      let n = lock_noted set y l k in
      let lt = declared_in_range set y l.item l.is_write ok known (from_tick_at entry moved.at y here).declared n.0 in
      let d = held_is_drawn y l here k in
      let c = ceiling_in set d.lock.0 d.lock.1 in
      let is : ceiling_by tick (mark.Lock d.by d.lock.0 d.lock.1 c d.from d.to) ≡ c = ceiling_at_tick tick d.by d.lock.0 d.lock.1 c d.from d.to d.begins d.lasts in
      let same : by_item set d.lock.0.0 d.lock.1 ≡ by_item set l.item l.is_write = ap (λ (i : ℕ). by_item set i d.lock.1) d.item_is ∙ ap (by_item set l.item) d.write_is in
      omega (arith, n.1, le_greatest (ceiling_by tick) _ drawn_locks d.here, is, in_range_ceiling set d.lock.0 d.lock.1 (omega (arith, lt, d.item_is)), same))

  pub drawn_is_held : drawn ≡ held
  drawn_is_held =
      let a = greatest_least (ceiling_by tick) drawn_locks held mark_held in
      let b = greatest_least (ceiling_of set) (pending rows_then) drawn row_drawn in
      omega (arith, a, b)

  -- ---- the pending jobs

  then_pends : (job : JobId) (release : ℕ) → WasOrCame next_state.now now_state job release → release ≤ tick → Pends now_state job release
  then_pends job release (inl p) le = p
  then_pends job release (inr late) le = absurd (omega (arith, late, le, ends))

  ended_pends : (d : EndedJob) → In d last_state.ended → d.release ≤ tick → tick < d.tick → Pends now_state d.job d.release
  ended_pends d i le lt = elim (turns_on.ends d i) [
    | inl old ↦ absurd (let done : d.tick ≤ now_state.now = ((legal_delay set before ok legal_before).done d old).tick in omega (arith, done, since, lt))
    | inr new ↦ then_pends d.job d.release new le
  ]

  -- a job whose row spans the tick was pending then
  row_pends : (r : JobRow) → In r (job_rows set whole) → r.release ≤ tick → tick < until stop r → Pends now_state r.job r.release
  row_pends r i = elim (row_cases set whole r i) [
    | inl d ↦ subst (λ (q : JobRow). q.release ≤ tick → tick < until stop q → Pends now_state q.job q.release) (sym d.2) (ended_pends d.0 d.1)
    | inr y ↦ subst (λ (q : JobRow). q.release ≤ tick → tick < until stop q → Pends now_state q.job q.release) (sym y.2)
        (λ le lt. then_pends y.0.job y.0.release (turns_on.pends y.0 (is_pending set last_state.rows y.0 (legal_sound set whole ok legal).frame y.1)) le)
  ]

  abbrev drawn_jobs : List Mark
  drawn_jobs = filter_map (job_mark part stop) (job_rows set whole)

  pub drawn_job_pends : (job : JobId) → In job (filter_map (job_shown tick) drawn_jobs) → In job (jobs_of now_state.rows)
  drawn_job_pends job i =
      let m = filter_map_in (job_shown tick) job drawn_jobs i in
      let r = filter_map_in (job_mark part stop) m.0 (job_rows set whole) m.1 in
      let is : m.0 ≡ mark.Pending r.0.job r.0.release (until stop r.0) = mark_at _ _ m.0 r.2 in
      let s = shown_then tick r.0.release (until stop r.0) job r.0.job (ap (job_shown tick) (sym is) ∙ m.2) in
      let p = row_pends r.0 r.1 s.begins s.lasts in
      subst (λ (k : JobId). In k (jobs_of now_state.rows)) (p.job_is ∙ sym s.is) (in_map (λ (q : Row). q.job) p.row (pending now_state.rows) (in_pending now_state.rows p.row.job.tx.0 p.row p.here))

  pub pending_job_is_drawn : (job : JobId) → In job (jobs_of now_state.rows) → In job (filter_map (job_shown tick) drawn_jobs)
  pending_job_is_drawn job i =
      let x = map_in (λ (q : Row). q.job) job (pending now_state.rows) i in
      let here = is_pending set now_state.rows x.0 sound.frame x.1 in
      let r = row_on x.0 here in
      let lt : tick < until stop r.row = row_lasts x.0 here r.row r.here r.job_is in
      let le : r.row.release ≤ tick = omega (arith, r.release_is, released_by x.0 here) in
      let m : Mark = mark.Pending r.row.job r.row.release (until stop r.row) in
      let is : job_mark part stop r.row ≡ Some m = ap (λ (c : Bool). cond c (Some m) None) (and_from _ _ (lt-ltb r.row.release part.to (omega (arith, le, lt_to))) (lt-ltb part.from (until stop r.row) (omega (arith, from_le, lt)))) in
      in_filter_map (job_shown tick) m job drawn_jobs (in_filter_map (job_mark part stop) r.row m (job_rows set whole) r.here is)
      (shows_then tick r.row.release (until stop r.row) r.row.job le lt ∙ ap Some (r.job_is ∙ sym x.2))

  -- ---- the waits

  abbrev drawn_waits : List Mark
  drawn_waits = filter_map (wait_in part stop shown) whole

  -- a refusal by the tick stands before the entry that goes through it
  blocked_before : (e : Entry) (job : JobId) (op : Op) (by : JobId) (c t : ℕ) → In e whole → e ≡ Blocked job op by c t → t ≤ tick → In e before
  blocked_before e job op by c t i is le = elim (append_in e before (entry ∷ after) i) [
    | inl old ↦ old
    | inr new ↦ elim new [
      | inl here ↦ absurd (let a = subst (IsAt set now_state next_state) (sym here ∙ is) moved.at in omega (arith, a.1, since, ends))
      | inr later ↦ absurd (let late : next_state.now ≤ t = subst (IsSince next_state.now) is (passed_after.since e later) in omega (arith, late, le, ends))
    ]
  ]

  over_by : (job : JobId) → Ended now_state.ended job → until_of stop shown job ≤ tick
  over_by job o = subst (λ (j : JobId). until_of stop shown j ≤ tick) o.job_is (is_over o.ended o.here)

  still_waits : (job by : JobId) → GoesOn now_state.rows now_state.ended job by → tick < min (until_of stop shown job) (until_of stop shown by) → Waits now_state.rows job by
  still_waits job by (inl w) lt = w
  still_waits job by (inr (inl o)) lt = absurd (omega (arith, lt, over_by job o))
  still_waits job by (inr (inr o)) lt = absurd (omega (arith, lt, over_by by o))

  pub drawn_wait_goes_on : (w : Waiting) → In w (filter_map (wait_shown tick) drawn_waits) → In w (waits_of now_state.rows)
  drawn_wait_goes_on w i =
      let m = filter_map_in (wait_shown tick) w drawn_waits i in
      let e = filter_map_in (wait_in part stop shown) m.0 whole m.1 in
      let k = wait_is part stop shown e.0 m.0 e.2 in
      let s = shown_then tick k.from (min (until_of stop shown k.job) (until_of stop shown k.by)) w (waiting_on k.job k.by) (ap (wait_shown tick) (sym k.mark_is) ∙ m.2) in
      let old = blocked_before e.0 k.job k.op k.by k.ceiling k.from e.1 k.entry_is s.begins in
      let g : GoesOn now_state.rows now_state.ended k.job k.by = subst (IsWaiting now_state.rows now_state.ended) k.entry_is (turned_before.waits e.0 old) in
      let v = still_waits k.job k.by g s.lasts in
      let is : option_map (waiting_on v.row.job) v.row.waits_on ≡ Some w = ap (option_map (waiting_on v.row.job)) v.on ∙ ap Some (ap (λ (j : JobId). waiting_on j k.by) v.job_is ∙ sym s.is) in
      in_filter_map (λ (row : Row). option_map (waiting_on row.job) row.waits_on) v.row w (pending now_state.rows) (in_pending now_state.rows v.row.job.tx.0 v.row v.here) is

  refused_before : (job by : JobId) → Waits (opening set).rows job by ⊎ HasRefusal before job by → HasRefusal before job by
  refused_before job by (inl w) = absurd (nobody_waits set job by w)
  refused_before job by (inr r) = r

  pub wait_is_drawn : (w : Waiting) → In w (waits_of now_state.rows) → In w (filter_map (wait_shown tick) drawn_waits)
  wait_is_drawn w i =
      let x = filter_map_in (λ (row : Row). option_map (waiting_on row.job) row.waits_on) w (pending now_state.rows) i in
      let here = is_pending set now_state.rows x.0 sound.frame x.1 in
      let on = waits_some x.0.job x.0.waits_on w x.2 in
      let r = refused_before x.0.job on.0 (turned_before.turns.began x.0 on.0 here on.1) in
      let b = blocked_is r.0 x.0.job on.0 r.2 in
      let le : b.tick ≤ now_state.now = subst (IsUpTo now_state.now) b.is (passed_before.up_to r.0 r.1) in
      let block = sound.protocol.wait_has_ceiling x.0 on.0 here on.1 in
      let blocker : tick < until_of stop shown on.0 = subst (λ (j : JobId). tick < until_of stop shown j) block.is (lasts block.blocker block.here) in
      let to : ℕ = min (until_of stop shown x.0.job) (until_of stop shown on.0) in
      let lt : tick < to = omega (arith, lasts x.0 here, blocker) in
      let m : Mark = mark.Wait x.0.job on.0 b.tick to in
      let is : wait_in part stop shown r.0 ≡ Some m =
      ap (wait_in part stop shown) b.is ∙ ap (λ (c : Bool). cond c (Some m) None) (and_from _ _ (lt-ltb b.tick part.to (omega (arith, le, since, lt_to))) (lt-ltb part.from to (omega (arith, from_le, lt)))) in
      in_filter_map (wait_shown tick) m w drawn_waits (in_filter_map (wait_in part stop shown) r.0 m whole (in_left r.0 before (entry ∷ after) r.1) is)
      (shows_then tick b.tick to (waiting_on x.0.job on.0) (omega (arith, le, since)) lt ∙ ap Some (sym on.2))
