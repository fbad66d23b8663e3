-- What pictures show, by the ticks of legal histories.
use Rattle.std.proofs.Common.{◌≡◌, ℕ, ◌-◌, ◌<◌, ◌≤◌, ◌&&◌, true, false, nat_lt, nat_le, Bool, cond, List, [], ◌∷◌, ◌++◌, map, Option, None, Some, refl, ap, sym, ◌∙◌, subst, inl, inr, append_assoc, arith}
use Rattle.std.specs.List.{filter_map, cons_option}
use Rattle.std.specs.Option.{option_and_then}
use Rattle.rt_base.specs.declared.ids.JobId.{JobId}
use Rattle.txn_set.specs.Set.{Set, IsCompiled}
use Rattle.txn_set.specs.Ceilings.{greatest}
use Rattle.step_journal.specs.State.{State, Row, pending, opening}
use Rattle.step_journal.specs.declared.entry.Entry.{Entry}
use Rattle.step_journal.specs.declared.entry.Entry.TheVariants.{Planned, Step, Blocked, Idle}
use Rattle.step_journal.specs.LockRule.{Lock, locks}
use Rattle.step_journal.specs.History.{state_after, state_of, IsLegal}
use Rattle.law_histories.specs.Protocol.{is_refusal_of}
use Rattle.law_histories.proofs.Members.{In, in_at, in_pending}
use Rattle.law_histories.proofs.Invariant.{IsPending}
use Rattle.law_histories.proofs.Holding.{in_map, in_right, map_in, greatest_least}
use Rattle.law_histories.proofs.Never.{opening_sound, refused_once}
use Rattle.law_histories.proofs.Lists.{in_filter_map, filter_map_in, in_any}
use Rattle.law_histories.proofs.DelayAll.{legal_delay}
use Rattle.job_rows.specs.declared.row.JobRow.{JobRow}
use Rattle.job_rows.specs.Rows.{job_rows}
use Rattle.schedule_marks.specs.declared.part.Part.{Part}
use Rattle.schedule_marks.specs.declared.mark.Mark.{Mark}
use Rattle.schedule_marks.specs.declared.mark.Mark.TheVariants as mark
use Rattle.schedule_marks.specs.Marks.{until, until_of, instant_to, last_instant, present, pending_in, wait_in, lock_until, locks_of, ceiling_in, ceiling_by}
use Rattle.job_rows.proofs.Bounding.{clash}
use Rattle.schedule_marks.proofs.Along.{lock_most}
use Rattle.sim_run.proofs.Histories.{states_append}
use Rattle.job_rows.proofs.Fronts.{front_legal as legal_front}
use Rattle.law_texts.specs.Ceilings.{Drawn, ticks_from, rows_in, held_ceiling, ShowsCeiling}
use Rattle.law_texts.specs.Drawn.{HeldLock, held_by, held_locks, Waiting, waiting_on, waits_of, jobs_of, lock_shown, wait_shown, job_shown, IsWithin, ShowsExactly, DrawnLocksAreHeld, NoLockIsDrawnLater, DrawnWaitsGoOn, NoWaitIsDrawnLater, DrawnJobsArePending, NoJobIsDrawnLater}
use Rattle.law_texts.proofs.Lists.{flat_map_in, in_flat_map, tick_in, empty_of, about, AreApart, apart_picked, shows_exactly}
use Rattle.law_texts.proofs.Shown.{picked, drawn_are, drawn_at, shown_then, shows_then, locks_are, waits_are, jobs_are}
use Rattle.law_texts.proofs.Goes.{IsUpTo, passes}
use Rattle.law_texts.proofs.Steps.{same_as_self}
use Rattle.law_texts.proofs.Taken.{mark_at, held_as, lock_is, drawn_apart}
use Rattle.law_texts.proofs.PicturePieces.{until_below, is_present, row_cases, rows_apart}
use Rattle.law_texts.proofs.Held.{cut, wait_is, mark_holds, held_is_drawn, pends_then, drawn_is_held, drawn_job_pends, pending_job_is_drawn, drawn_wait_goes_on, wait_is_drawn}

-- ---- the ceilings that marks show

-- the nth is that of one of the part's ticks
pub record IsDrawnAt (set : Set) (part : Part) (entries : List Entry) (d : Drawn) : Type 0 where
  pub from : part.from ≤ d.tick
  pub to : d.tick < part.to
  pub is : d.ceiling ≡ greatest (map (ceiling_by d.tick) (locks_of set part (last_instant part.to entries) (job_rows set entries) entries))

is_drawn : (set : Set) (part : Part) (entries : List Entry) (n : ℕ) (d : Drawn) → ShowsCeiling set entries part n d → IsDrawnAt set part entries d
is_drawn set part entries n d h =
    let marks = locks_of set part (last_instant part.to entries) (job_rows set entries) entries in
    let i = in_at _ n d h in
    let m = map_in (drawn_at marks) d (ticks_from part.from (part.to - part.from)) (subst (λ (l : List Drawn). In d l) (drawn_are set part (job_rows set entries) entries) i) in
    let t = tick_in m.0 part.from (part.to - part.from) m.1 in
    let same : d.tick ≡ m.0 = ap (λ (q : Drawn). q.tick) m.2 in
    record {
      from = omega (arith, same, t.0);
      to = omega (arith, same, t.0, t.1);
      is = ap (λ (q : Drawn). q.ceiling) m.2 ∙ ap (λ (k : ℕ). greatest (map (ceiling_by k) marks)) (sym same);
    }

pub drawn_ceilings_are_held : (set : Set) (part : Part) (before after : List Entry) (entry : Entry) (n : ℕ) (d : Drawn) → IsCompiled set
    → IsLegal set (before ++ entry ∷ after) → ShowsCeiling set (before ++ entry ∷ after) part n d
    → (state_of set before).now ≤ d.tick → d.tick < (state_of set (before ++ entry ∷ [])).now
    → d.ceiling ≡ held_ceiling set (rows_in (state_of set before) entry)
drawn_ceilings_are_held set part before after entry n d ok legal h since ends =
    let k = is_drawn set part (before ++ entry ∷ after) n d h in
    let next = ap (λ (s : State). s.now) (states_append set (opening set) before (entry ∷ [])) in
    k.is ∙ drawn_is_held set ok part before after entry legal d.tick k.from k.to since (omega (arith, ends, next))

instant_up_to : (to n : ℕ) (e : Entry) → IsUpTo n e → instant_to to e ≤ n
instant_up_to to n (Planned tx t) h = omega arith
instant_up_to to n (Step job op outcome over t) h = omega (arith, h)
instant_up_to to n (Blocked job op by c t) h = omega arith
instant_up_to to n (Idle from t) h = omega (arith, h)

-- from the history's last instant on no job's spans go on
row_over_later : (set : Set) (part : Part) (entries : List Entry) (tick : ℕ) → IsCompiled set → IsLegal set entries → (state_of set entries).now ≤ tick
    → (r : JobRow) → In r (job_rows set entries) → until (last_instant part.to entries) r ≤ tick
row_over_later set part entries tick ok legal late r i =
    let last = last_instant part.to entries in
    let p = passes set (λ _. false) (opening set) entries ok (opening_sound set) legal in
    let stops : last ≤ tick = (let g = greatest_least (instant_to part.to) entries (state_of set entries).now (λ e i. instant_up_to part.to (state_of set entries).now e (p.up_to e i)) in omega (arith, g, late)) in
    elim (row_cases set entries r i) [
      | inl f ↦ (let done : f.0.tick ≤ (state_of set entries).now = ((legal_delay set entries ok legal).done f.0 f.1).tick in omega (arith, done, late, ap (until last) f.2))
      | inr y ↦ omega (arith, stops, ap (until last) y.2)
    ]

over_later : (set : Set) (part : Part) (entries : List Entry) (tick : ℕ) → IsCompiled set → IsLegal set entries → (state_of set entries).now ≤ tick
    → (job : JobId) → until_of (last_instant part.to entries) (present part (last_instant part.to entries) (job_rows set entries)) job ≤ tick
over_later set part entries tick ok legal late job =
    let last = last_instant part.to entries in
    until_below last tick (present part last (job_rows set entries)) job (λ r i e. row_over_later set part entries tick ok legal late r (is_present part last (job_rows set entries) r i))

pub nothing_later : (set : Set) (part : Part) (entries : List Entry) (n : ℕ) (d : Drawn) → IsCompiled set → IsLegal set entries
    → ShowsCeiling set entries part n d → (state_of set entries).now ≤ d.tick → d.ceiling ≡ 0
nothing_later set part entries n d ok legal h late =
    let k = is_drawn set part entries n d h in
    let last = last_instant part.to entries in
    let rows = present part last (job_rows set entries) in
    let over = over_later set part entries d.tick ok legal late in
    let none : greatest (map (ceiling_by d.tick) (locks_of set part last (job_rows set entries) entries)) ≤ 0 = greatest_least (ceiling_by d.tick) _ 0 (λ m i.
    let k = lock_is set part last rows [] entries m i in
    let l = k.taken in
    let to = lock_until l.job l.lock.0 l.lock.1 (until_of last rows l.job) k.back in
    subst (λ (q : Mark). ceiling_by d.tick q ≤ 0) (sym l.mark_is)
    (cut d.tick l.tick to (ceiling_in set l.lock.0 l.lock.1) 0 (nat_le l.tick d.tick && nat_lt d.tick to) refl
    (λ le lt. absurd (omega (arith, lt, lock_most l.job l.lock.0 l.lock.1 (until_of last rows l.job) k.back, over l.job))))) in
    omega (arith, k.is, none)

-- the job of a row's span
job_named : (part : Part) (stop tick : ℕ) (r : JobRow) (job : JobId) → option_and_then (job_shown tick) (pending_in part stop r) ≡ Some job → job ≡ r.job
job_named part stop tick r job h = at (nat_lt r.release part.to && nat_lt part.from (until stop r)) h where
  at : (b : Bool) → option_and_then (job_shown tick) (cond b (Some (mark.Pending r.job r.release (until stop r))) None) ≡ Some job → job ≡ r.job
  at true k = (shown_then tick r.release (until stop r) job r.job k).is
  at false k = absurd cc

-- ---- the locks that marks show

-- the tick is before the state after the entry
ends_by : (set : Set) (part : Part) (before : List Entry) (entry : Entry) (tick : ℕ) → IsWithin set part before entry tick → tick < (state_after set (state_of set before) entry).now
ends_by set part before entry tick within = omega (arith, within.ends, ap (λ (s : State). s.now) (states_append set (opening set) before (entry ∷ [])))

module _ (set : Set) (part : Part) (before after : List Entry) (entry : Entry) (tick : ℕ) (ok : IsCompiled set) (legal : IsLegal set (before ++ entry ∷ after)) (within : IsWithin set part before entry tick) where
  abbrev whole : List Entry
  whole = before ++ entry ∷ after

  abbrev stop_then : ℕ
  stop_then = last_instant part.to whole

  abbrev rows_shown : List JobRow
  rows_shown = present part stop_then (job_rows set whole)

  abbrev rows_then : List (Option Row)
  rows_then = rows_in (state_of set before) entry

  abbrev locks_drawn : List Mark
  locks_drawn = locks_of set part stop_then (job_rows set whole) whole

  ends : tick < (state_after set (state_of set before) entry).now
  ends = ends_by set part before entry tick within

  lock_is_held : (held : HeldLock) → In held (filter_map (lock_shown tick) locks_drawn) → In held (held_locks rows_then)
  lock_is_held held i =
      let f = filter_map_in (lock_shown tick) held locks_drawn i in
      let k = lock_is set part stop_then rows_shown [] whole f.0 f.1 in
      let t = k.taken in
      let s = shown_then tick t.tick (lock_until t.job t.lock.0 t.lock.1 (until_of stop_then rows_shown t.job) k.back) held (held_as t.job t.lock) (ap (lock_shown tick) (sym t.mark_is) ∙ f.2) in
      let h = mark_holds set ok part before after entry legal tick within.from within.to within.since ends f.0 k s.begins s.lasts in
      let is : held_by h.row.job (record { item = t.lock.0.0; is_write = t.lock.1 }) ≡ held = ap (λ (j : JobId). held_by j (record { item = t.lock.0.0; is_write = t.lock.1 })) h.job_is ∙ sym s.is in
      in_flat_map (λ (row : Row). map (held_by row.job) (locks row.work)) h.row held (pending rows_then) (in_pending rows_then h.row.job.tx.0 h.row h.here)
      (subst (λ (q : HeldLock). In q (map (held_by h.row.job) (locks h.row.work))) is (in_map (held_by h.row.job) (record { item = t.lock.0.0; is_write = t.lock.1 }) (locks h.row.work) h.has))

  held_lock_is_drawn : (held : HeldLock) → In held (held_locks rows_then) → In held (filter_map (lock_shown tick) locks_drawn)
  held_lock_is_drawn held i =
      let r = flat_map_in (λ (row : Row). map (held_by row.job) (locks row.work)) held (pending rows_then) i in
      let l = map_in (held_by r.0.job) held (locks r.0.work) r.2 in
      let here : IsPending rows_then r.0 = pends_then set ok part before after entry legal tick within.from within.to within.since ends r.0 r.1 in
      let d = held_is_drawn set ok part before after entry legal tick within.from within.to within.since ends r.0 l.0 here l.1 in
      let lock : Lock = record { item = d.lock.0.0; is_write = d.lock.1 } in
      let same : lock ≡ l.0 = ap (λ (n : ℕ). record { item = n; is_write = d.lock.1 }) d.item_is ∙ ap (λ (b : Bool). record { item = l.0.item; is_write = b }) d.write_is in
      let is : held_by d.by lock ≡ held = ap (λ (j : JobId). held_by j lock) d.job_is ∙ (ap (held_by r.0.job) same ∙ sym l.2) in
      in_filter_map (lock_shown tick) (mark.Lock d.by d.lock.0 d.lock.1 (ceiling_in set d.lock.0 d.lock.1) d.from d.to) held locks_drawn d.here
      (shows_then tick d.from d.to (held_by d.by lock) d.begins d.lasts ∙ ap Some is)

  locks_shown : ShowsExactly (filter_map (lock_shown tick) locks_drawn) (held_locks rows_then)
  locks_shown = shows_exactly (filter_map (lock_shown tick) locks_drawn) (held_locks rows_then) lock_is_held held_lock_is_drawn (drawn_apart set part stop_then rows_shown tick [] whole)

  -- ---- the jobs and the waits

  jobs_apart : AreApart (filter_map (job_shown tick) (filter_map (pending_in part stop_then) (job_rows set whole)))
  jobs_apart =
      subst (λ (l : List JobId). AreApart l) (sym (picked (job_shown tick) (pending_in part stop_then) (job_rows set whole)))
      (apart_picked (λ (r : JobRow). option_and_then (job_shown tick) (pending_in part stop_then r)) (λ (r : JobRow). r.job) (job_rows set whole) (job_named part stop_then tick) (rows_apart set whole ok legal))

-- a refusal of a job is its first

again_not : (set : Set) (part : Part) (stop : ℕ) (shown : List JobRow) (tick : ℕ) (done : List Entry) (e : Entry) (es : List Entry) (m : Mark) (w : Waiting) → IsCompiled set → IsLegal set (done ++ e ∷ es)
    → wait_in part stop shown e ≡ Some m → wait_shown tick m ≡ Some w → In w (filter_map (wait_shown tick) (filter_map (wait_in part stop shown) es)) → ⊥
again_not set part stop shown tick done e es m w ok legal is shows again =
    let k = wait_is part stop shown e m is in
    let s = shown_then tick k.from _ w (waiting_on k.job k.by) (ap (wait_shown tick) (sym k.mark_is) ∙ shows) in
    let f = filter_map_in (wait_shown tick) w (filter_map (wait_in part stop shown) es) again in
    let g = filter_map_in (wait_in part stop shown) f.0 es f.1 in
    let l = wait_is part stop shown g.0 f.0 g.2 in
    let t = shown_then tick l.from _ w (waiting_on l.job l.by) (ap (wait_shown tick) (sym l.mark_is) ∙ f.2) in
    let same : l.job ≡ k.job = ap (λ (q : Waiting). q.job) (sym t.is ∙ s.is) in
    let a = about g.0 es g.1 in
    let parts : done ++ e ∷ es ≡ ((done ++ e ∷ a.front) ++ g.0 ∷ []) ++ a.back =
    ap (λ (r : List Entry). done ++ e ∷ r) a.parts ∙ (sym (append_assoc done (e ∷ a.front) (g.0 ∷ a.back)) ∙ sym (append_assoc (done ++ e ∷ a.front) (g.0 ∷ []) a.back)) in
    let front : IsLegal set ((done ++ e ∷ a.front) ++ g.0 ∷ []) = legal_front set (opening set) ((done ++ e ∷ a.front) ++ g.0 ∷ []) a.back (subst (IsLegal set) parts legal) in
    let first = refused_once set (done ++ e ∷ a.front) l.job l.by l.op l.ceiling l.from ok (subst (λ (q : Entry). IsLegal set ((done ++ e ∷ a.front) ++ q ∷ [])) l.entry_is front) in
    let yes : is_refusal_of l.job e ≡ true = ap (is_refusal_of l.job) k.entry_is ∙ same_as_self l.job k.job same in
    clash _ (in_any (is_refusal_of l.job) e (done ++ e ∷ a.front) (in_right e done (e ∷ a.front) (inl refl)) yes) first.first

wait_apart : (set : Set) (part : Part) (stop : ℕ) (shown : List JobRow) (tick : ℕ) (done : List Entry) (e : Entry) (es : List Entry) → IsCompiled set → IsLegal set (done ++ e ∷ es)
    → AreApart (filter_map (wait_shown tick) (filter_map (wait_in part stop shown) es)) → (o : Option Mark) → wait_in part stop shown e ≡ o
    → AreApart (filter_map (wait_shown tick) (cons_option o (filter_map (wait_in part stop shown) es)))
wait_apart set part stop shown tick done e es ok legal a None is = a
wait_apart set part stop shown tick done e es ok legal a (Some m) is = at (wait_shown tick m) refl where
  at : (o : Option Waiting) → wait_shown tick m ≡ o → AreApart (cons_option o (filter_map (wait_shown tick) (filter_map (wait_in part stop shown) es)))
  at None shows = a
  at (Some w) shows = (again_not set part stop shown tick done e es m w ok legal is shows, a)

waits_apart : (set : Set) (part : Part) (stop : ℕ) (shown : List JobRow) (tick : ℕ) (done es : List Entry) → IsCompiled set → IsLegal set (done ++ es) → AreApart (filter_map (wait_shown tick) (filter_map (wait_in part stop shown) es))
waits_apart set part stop shown tick done [] ok legal = tt
waits_apart set part stop shown tick done (e ∷ es) ok legal =
    let rest = waits_apart set part stop shown tick (done ++ e ∷ []) es ok (subst (IsLegal set) (sym (append_assoc done (e ∷ []) es)) legal) in
    wait_apart set part stop shown tick done e es ok legal rest (wait_in part stop shown e) refl

-- ---- the laws

pub drawn_locks_are_held : DrawnLocksAreHeld
drawn_locks_are_held set part before after entry tick ok legal within =
    subst (λ (l : List HeldLock). ShowsExactly l (held_locks (rows_in (state_of set before) entry))) (sym (locks_are set part (job_rows set (before ++ entry ∷ after)) (before ++ entry ∷ after) tick))
    (locks_shown set part before after entry tick ok legal within)

pub drawn_waits_go_on : DrawnWaitsGoOn
drawn_waits_go_on set part before after entry tick ok legal within =
    let entries = before ++ entry ∷ after in
    let ends = ends_by set part before entry tick within in
    let stop = last_instant part.to entries in
    let there = waits_of (state_of set before).rows in
    subst (λ (l : List Waiting). ShowsExactly l there) (sym (waits_are set part (job_rows set entries) entries tick))
    (shows_exactly (filter_map (wait_shown tick) (filter_map (wait_in part stop (present part stop (job_rows set entries))) entries)) there (drawn_wait_goes_on set ok part before after entry legal tick within.from within.to within.since ends)
    (wait_is_drawn set ok part before after entry legal tick within.from within.to within.since ends)
    (waits_apart set part stop (present part stop (job_rows set entries)) tick [] entries ok legal))

pub drawn_jobs_are_pending : DrawnJobsArePending
drawn_jobs_are_pending set part before after entry tick ok legal within =
    let entries = before ++ entry ∷ after in
    let ends = ends_by set part before entry tick within in
    let there = jobs_of (state_of set before).rows in
    subst (λ (l : List JobId). ShowsExactly l there) (sym (jobs_are set part (job_rows set entries) entries tick))
    (shows_exactly (filter_map (job_shown tick) (filter_map (pending_in part (last_instant part.to entries)) (job_rows set entries))) there (drawn_job_pends set ok part before after entry legal tick within.from within.to within.since ends)
    (pending_job_is_drawn set ok part before after entry legal tick within.from within.to within.since ends)
    (jobs_apart set part before after entry tick ok legal within))

pub no_lock_later : NoLockIsDrawnLater
no_lock_later set part entries tick ok legal late =
    let last = last_instant part.to entries in
    let rows = present part last (job_rows set entries) in
    let marks = locks_of set part last (job_rows set entries) entries in
    locks_are set part (job_rows set entries) entries tick
    ∙ empty_of (filter_map (lock_shown tick) marks) (λ held i.
    let f = filter_map_in (lock_shown tick) held marks i in
    let k = lock_is set part last rows [] entries f.0 f.1 in
    let t = k.taken in
    let s = shown_then tick t.tick (lock_until t.job t.lock.0 t.lock.1 (until_of last rows t.job) k.back) held (held_as t.job t.lock) (ap (lock_shown tick) (sym t.mark_is) ∙ f.2) in
    omega (arith, s.lasts, lock_most t.job t.lock.0 t.lock.1 (until_of last rows t.job) k.back, over_later set part entries tick ok legal late t.job))

pub no_wait_later : NoWaitIsDrawnLater
no_wait_later set part entries tick ok legal late =
    let last = last_instant part.to entries in
    let rows = present part last (job_rows set entries) in
    let marks = filter_map (wait_in part last rows) entries in
    waits_are set part (job_rows set entries) entries tick
    ∙ empty_of (filter_map (wait_shown tick) marks) (λ w i.
    let f = filter_map_in (wait_shown tick) w marks i in
    let g = filter_map_in (wait_in part last rows) f.0 entries f.1 in
    let k = wait_is part last rows g.0 f.0 g.2 in
    let s = shown_then tick k.from _ w (waiting_on k.job k.by) (ap (wait_shown tick) (sym k.mark_is) ∙ f.2) in
    omega (arith, s.lasts, over_later set part entries tick ok legal late k.job))

pub no_job_later : NoJobIsDrawnLater
no_job_later set part entries tick ok legal late =
    let last = last_instant part.to entries in
    let marks = filter_map (pending_in part last) (job_rows set entries) in
    jobs_are set part (job_rows set entries) entries tick
    ∙ empty_of (filter_map (job_shown tick) marks) (λ job i.
    let f = filter_map_in (job_shown tick) job marks i in
    let r = filter_map_in (pending_in part last) f.0 (job_rows set entries) f.1 in
    let is : f.0 ≡ mark.Pending r.0.job r.0.release (until last r.0) = mark_at _ _ f.0 r.2 in
    let s = shown_then tick r.0.release (until last r.0) job r.0.job (ap (job_shown tick) (sym is) ∙ f.2) in
    omega (arith, s.lasts, row_over_later set part entries tick ok legal late r.0 r.1))
