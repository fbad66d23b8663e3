-- The numbers of states are those of their types.
use Rattle.std.proofs.Common.{◌≡◌, ℕ, ℤ, suc, ◌<◌, ◌^◌, ◌==◌, Bool, true, false, not, List, [], ◌∷◌, map, length, Option, Some, None, set as with_item, refl, ap, subst, inl, inr, arith, pos}
use Rattle.std.specs.List.{find, filter, fold}
use Rattle.std.specs.Option.{option_map, option_map_or}
use Rattle.std.proofs.lemmas.Bool.{or_right, ne_eqb}
use Rattle.rt_base.specs.declared.ids.ItemId.{ItemId}
use Rattle.rt_base.specs.declared.ids.JobId.{JobId}
use Rattle.rt_base.specs.declared.ids.TogetherDecl.{TogetherDecl}
use Rattle.rt_base.specs.declared.operation.Op.{Op}
use Rattle.rt_base.specs.declared.operation.Op.TheVariants.{Read, Write, Commit, Quit}
use Rattle.rt_base.specs.declared.operation.End.{End}
use Rattle.rt_base.specs.declared.operation.End.TheVariants as end
use Rattle.item_model.specs.Kinds.{is_derived, is_dated}
use Rattle.item_model.specs.declared.decl.ItemDecl.{ItemDecl}
use Rattle.item_model.specs.declared.stored.Stored.{Stored}
use Rattle.item_model.specs.declared.stored.OutsideRead.{OutsideRead}
use Rattle.item_model.specs.declared.stored.OwnWrite.{OwnWrite}
use Rattle.item_model.specs.Work.{Work, stored_of, read_of, write_of, has_written, with_read, with_write, got, outcome_of, work_after, reads_of, is_expired, is_older, older, oldest, first_apart, judged, verdict, stamp_for, write_installed, items_after}
use Rattle.txn_set.specs.Set.{Set, txn_of}
use Rattle.step_journal.specs.declared.entry.EndedJob.{EndedJob}
use Rattle.step_journal.specs.State.{State, Row, pending, new_row, opening}
use Rattle.step_journal.specs.LockRule.{in_falling_priority}
use Rattle.step_journal.specs.Instant.{freed, with_end, with_late, is_due, with_cancellations, with_row, with_releases, arrived}
use Rattle.step_journal.specs.Step.{given, row_after, end_by, settled, with_plan, next_job, with_wait}
use Rattle.line_fields.specs.Numbers.{IsI64}
use Rattle.journal_text.specs.Lines.{IsOutcome}
use Rattle.law_histories.proofs.Members.{In, pending_in, filter_in}
use Rattle.law_histories.proofs.Lists.{find_some, filter_map_in}
use Rattle.law_histories.proofs.Calendar.{sorted_in}
use Rattle.report_text.specs.Texts.{is_second}
use Rattle.run_report.specs.Types.{HasValue}
use Rattle.run_report.proofs.Forms.{FitsStored}
use Rattle.run_report.proofs.Every.{Every, chosen, every_in, every_or, every_set, every_map, every_append, every_filter}

-- ---- what fits

abbrev pub ReadFits : OutsideRead → Type 0
ReadFits r = r.stamp < 2 ^ 64

abbrev pub WriteFits : OwnWrite → Type 0
WriteFits w = IsI64 w.value

pub record WorkFits (work : Work) : Type 0 where
  pub reads : Every ReadFits work.reads
  pub writes : Every WriteFits work.writes

abbrev pub RowFits : Option Row → Type 0
RowFits None = Unit {0}
RowFits (Some x) = (x.release < 2 ^ 64) × WorkFits x.work

-- in the first version no job ends by two items apart
abbrev pub EndFits : Bool → End → Type 0
EndFits second end.Committed = Unit {0}
EndFits second end.Overrun = Unit {0}
EndFits second end.Late = Unit {0}
EndFits second (end.Stale item stamp) = stamp < 2 ^ 64
EndFits second (end.Apart a b) = second ≡ true
EndFits second end.Quit = Unit {0}

pub record EndedFits (second : Bool) (e : EndedJob) : Type 0 where
  pub release : e.release < 2 ^ 64
  pub tick : e.tick < 2 ^ 64
  pub end : EndFits second e.end

pub record Fits (second : Bool) (s : State) : Type 0 where
  pub items : Every FitsStored s.items
  pub rows : Every RowFits s.rows
  pub ended : Every (EndedFits second) s.ended

-- ---- what a job reads and writes

stored_fits : (items : List Stored) (i : ℕ) → Every FitsStored items → FitsStored (stored_of items i)
stored_fits items i h =
    every_or FitsStored items i (record { value = pos 0; stamp = 0 }) h (record { value = omega arith; stamp = omega arith })

with_read_fits : (rs : List OutsideRead) (item : ItemId) (stamp : ℕ) → Every ReadFits rs → stamp < 2 ^ 64
    → Every ReadFits (with_read rs item stamp)
with_read_fits [] item stamp h lt = (lt, tt)
with_read_fits (r ∷ rs) item stamp h lt =
    chosen (Every ReadFits) (r.item.0 == item.0) (r ∷ rs) (r ∷ with_read rs item stamp) h
    (h.0, with_read_fits rs item stamp h.1 lt)

with_write_fits : (ws : List OwnWrite) (item : ItemId) (value : ℤ) → Every WriteFits ws → IsI64 value
    → Every WriteFits (with_write ws item value)
with_write_fits [] item value h is = (is, tt)
with_write_fits (w ∷ ws) item value h is =
    chosen (Every WriteFits) (w.item.0 == item.0) (record { item = item; value = value } ∷ ws) (w ∷ with_write ws item value)
    (is, h.1) (h.0, with_write_fits ws item value h.1 is)

work_fits : (items : List Stored) (work : Work) (op : Op) → Every FitsStored items → WorkFits work → HasValue op
    → WorkFits (work_after items work op)
work_fits items work (Read item) h k v =
    let stamp : ℕ = (stored_of items item.0).stamp in
    chosen WorkFits (has_written work item.0) work (record work { reads = with_read work.reads item stamp }) k
    (record { reads = with_read_fits work.reads item stamp k.reads (stored_fits items item.0 h).stamp; writes = k.writes })
work_fits items work (Write item value) h k v =
    record { reads = k.reads; writes = with_write_fits work.writes item value k.writes v }
work_fits items work other h k v = k

got_fits : (work : Work) (item : ℕ) (stored : Stored) (o : Option OwnWrite) → write_of work item ≡ o → FitsStored stored
    → WorkFits work → IsOutcome (got o stored)
got_fits work item stored None e h k = (h.value, h.stamp)
got_fits work item stored (Some w) e h k =
    (every_in WriteFits work.writes w k.writes (find_some (λ q. q.item.0 == item) work.writes w e).here, tt)

pub outcome_fits : (items : List Stored) (work : Work) (op : Op) → Every FitsStored items → WorkFits work
    → IsOutcome (outcome_of items work op)
outcome_fits items work (Read item) h k =
    got_fits work item.0 (stored_of items item.0) (write_of work item.0) refl (stored_fits items item.0 h) k
outcome_fits items work other h k = tt

-- ---- how a job ends

some_together : (work : Work) (groups : List TogetherDecl) (p : OutsideRead × OutsideRead)
    → first_apart work groups ≡ Some p → not (length groups == 0) ≡ true
some_together work [] p e = absurd cc
some_together work (g ∷ gs) p e = ap not (ne_eqb (suc (length gs)) 0 (λ same. absurd (omega (arith, same))))

judged_fits : (second : Bool) (stale : Option OutsideRead) (apart : Option (OutsideRead × OutsideRead))
    → ((r : OutsideRead) → stale ≡ Some r → ReadFits r)
    → ((p : OutsideRead × OutsideRead) → apart ≡ Some p → second ≡ true)
    → EndFits second (judged stale apart)
judged_fits second (Some r) apart a b = a r refl
judged_fits second None (Some p) a b = b p refl
judged_fits second None None a b = tt

verdict_fits : (set : Set) (ids : List ItemId) (work : Work) (tick : ℕ) → WorkFits work
    → EndFits (is_second set) (verdict set.items set.together ids work tick)
unfolding verdict
verdict_fits set ids work tick k =
    judged_fits (is_second set) (find (is_expired set.items tick) (reads_of work ids)) (first_apart work set.together)
    (λ r e.
    let found = find_some (is_expired set.items tick) (reads_of work ids) r e in
    let from = filter_map_in (λ i. read_of work i.0) r ids found.here in
    every_in ReadFits work.reads r k.reads (find_some (λ q. q.item.0 == from.0.0) work.reads r from.2).here)
    (λ p e. or_right _ _ (some_together work set.together p e))

steps_fit : (second b : Bool) (e : End) → given b end.Overrun ≡ Some e → EndFits second e
steps_fit second true e is = let same : end.Overrun ≡ e = cc in subst (EndFits second) same tt
steps_fit second false e is = absurd cc

end_fits : (set : Set) (x : Row) (tick : ℕ) (op : Op) (e : End) → WorkFits x.work → end_by set x tick op ≡ Some e
    → EndFits (is_second set) e
end_fits set x tick Commit e k is =
    let same : verdict set.items set.together (txn_of set x.job.tx.0).reads x.work tick ≡ e = cc in
    subst (EndFits (is_second set)) same (verdict_fits set (txn_of set x.job.tx.0).reads x.work tick k)
end_fits set x tick Quit e k is = let same : end.Quit ≡ e = cc in subst (EndFits (is_second set)) same tt
end_fits set x tick other e k is = steps_fit (is_second set) (x.used == (txn_of set x.job.tx.0).steps) e is

-- ---- the items after an end

abbrev FirstFits : Option OutsideRead → Type 0
FirstFits None = Unit {0}
FirstFits (Some r) = ReadFits r

older_fits : (r : OutsideRead) (o : Option OutsideRead) → ReadFits r → FirstFits o → ReadFits (older r o)
older_fits r None h k = h
older_fits r (Some s) h k = chosen ReadFits (is_older s r) s r k h

oldest_fits : (rs : List OutsideRead) → Every ReadFits rs → FirstFits (oldest rs)
oldest_fits [] h = tt
oldest_fits (r ∷ rs) h = older_fits r (oldest rs) h.0 (oldest_fits rs h.1)

stamp_or : (o : Option OutsideRead) (release : ℕ) → FirstFits o → release < 2 ^ 64
    → option_map_or (λ r. r.stamp) o release < 2 ^ 64
stamp_or None release h lt = lt
stamp_or (Some r) release h lt = h

stamp_fits : (decls : List ItemDecl) (work : Work) (release item : ℕ) → WorkFits work → release < 2 ^ 64
    → stamp_for decls work release item < 2 ^ 64
unfolding stamp_for
stamp_fits decls work release item k lt =
    let dated : List OutsideRead = filter (λ r. is_dated decls r.item.0) work.reads in
    chosen (λ (n : ℕ). n < 2 ^ 64) (is_derived decls item) (option_map_or (λ r. r.stamp) (oldest dated) release) release
    (stamp_or (oldest dated) release (oldest_fits dated (every_filter ReadFits (λ r. is_dated decls r.item.0) work.reads k.reads)) lt)
    lt

installed_fit : (decls : List ItemDecl) (work : Work) (release : ℕ) (ws : List OwnWrite) (items : List Stored)
    → WorkFits work → release < 2 ^ 64 → Every WriteFits ws → Every FitsStored items
    → Every FitsStored (fold (write_installed decls work release) items ws)
installed_fit decls work release [] items k lt w h = h
installed_fit decls work release (x ∷ ws) items k lt w h =
    installed_fit decls work release ws (write_installed decls work release items x) k lt w.1
    (every_set FitsStored items x.item.0 (record { value = x.value; stamp = stamp_for decls work release x.item.0 }) h
    (record { value = w.0; stamp = stamp_fits decls work release x.item.0 k lt }))

items_fit : (decls : List ItemDecl) (work : Work) (release : ℕ) (e : End) (items : List Stored) → WorkFits work
    → release < 2 ^ 64 → Every FitsStored items → Every FitsStored (items_after decls work release e items)
items_fit decls work release end.Committed items k lt h = installed_fit decls work release work.writes items k lt k.writes h
items_fit decls work release other items k lt h = h

-- ---- states

freed_fits : (job : JobId) (o : Option Row) → RowFits o → RowFits (option_map (freed job) o)
freed_fits job None h = h
freed_fits job (Some x) h = h

ended_fit : (second : Bool) (x : Row) (e : End) (tick : ℕ) (s : State) → x.release < 2 ^ 64 → tick < 2 ^ 64
    → EndFits second e → Fits second s → Fits second (with_end x e tick s)
unfolding with_end
ended_fit second x e tick s release lt good h = record {
  items = h.items;
  rows = every_map RowFits RowFits (option_map (freed x.job)) (with_item s.rows x.job.tx.0 None) (freed_fits x.job)
      (every_set RowFits s.rows x.job.tx.0 None h.rows tt);
  ended = every_append (EndedFits second) s.ended (record { job = x.job; release = x.release; end = e; tick = tick } ∷ []) h.ended
      (record { release = release; tick = lt; end = good }, tt);
}

pub settled_fits : (set : Set) (x : Row) (tick : ℕ) (op : Op) (s : State) → RowFits (Some x) → tick < 2 ^ 64
    → Fits (is_second set) s → (o : Option End) → end_by set x tick op ≡ o → Fits (is_second set) (settled set x tick o s)
settled_fits set x tick op s fits lt h None e =
    record { items = h.items; rows = every_set RowFits s.rows x.job.tx.0 (Some x) h.rows fits; ended = h.ended }
settled_fits set x tick op s fits lt h (Some e) is =
    ended_fit (is_second set) x e tick (record s { items = items_after set.items x.work x.release e s.items }) fits.0 lt
    (end_fits set x tick op e fits.1 is)
    (record { items = items_fit set.items x.work x.release e s.items fits.1 fits.0 h.items; rows = h.rows; ended = h.ended })

lates_fit : (second : Bool) (tick : ℕ) (gone : List Row) (s : State) → tick < 2 ^ 64
    → ((x : Row) → In x gone → x.release < 2 ^ 64) → Fits second s → Fits second (fold (with_late tick) s gone)
lates_fit second tick [] s lt from h = h
lates_fit second tick (x ∷ gone) s lt from h =
    lates_fit second tick gone (with_late tick s x) lt (λ y i. from y (inr i))
    (ended_fit second x end.Late tick s (from x (inl refl)) lt tt h)

new_rows_fit : (tick : ℕ) (jobs : List JobId) (rows : List (Option Row)) → tick < 2 ^ 64 → Every RowFits rows
    → Every RowFits (fold (with_row tick) rows jobs)
new_rows_fit tick [] rows lt h = h
new_rows_fit tick (job ∷ jobs) rows lt h =
    new_rows_fit tick jobs (with_row tick rows job) lt
    (every_set RowFits rows job.tx.0 (Some (new_row job tick)) h (lt, record { reads = tt; writes = tt }))

pub row_fits : (rows : List (Option Row)) (x : Row) → Every RowFits rows → In x (pending rows) → RowFits (Some x)
row_fits rows x h i =
    let at = pending_in rows x i in subst RowFits at.1 (every_or RowFits rows at.0 None h tt)

pub arrived_fits : (set : Set) (second : Bool) (tick : ℕ) (s : State) → tick < 2 ^ 64 → Fits second s
    → Fits second (arrived set tick s)
unfolding arrived with_releases with_cancellations
arrived_fits set second tick s lt h =
    let gone : List Row = in_falling_priority set (filter (is_due set tick) (pending s.rows)) in
    let over : Fits second (fold (with_late tick) (record s { now = tick }) gone) =
    lates_fit second tick gone (record s { now = tick }) lt
    (λ x i. (row_fits s.rows x h.rows (filter_in (is_due set tick) x (pending s.rows) (sorted_in set x (filter (is_due set tick) (pending s.rows)) i)).0).0)
    (record { items = h.items; rows = h.rows; ended = h.ended }) in
    let next : State = fold (with_late tick) (record s { now = tick }) gone in
    record {
      items = over.items;
      rows = new_rows_fit tick (map (λ r. r.job) (filter (λ r. r.tick == tick) next.planned)) next.rows lt over.rows;
      ended = over.ended;
    }

pub plan_fits : (second : Bool) (s : State) (tx tick : ℕ) → tick < 2 ^ 64 → Fits second s → Fits second (with_plan s tx tick)
unfolding with_plan
plan_fits second s tx tick lt h =
    record { items = h.items; rows = chosen (Every RowFits) (tick == s.now) (with_row tick s.rows (next_job s tx)) s.rows (new_rows_fit tick (next_job s tx ∷ []) s.rows lt h.rows) h.rows; ended = h.ended }

pub wait_fits : (second : Bool) (s : State) (x : Row) (on : JobId) → RowFits (Some x) → Fits second s
    → Fits second (with_wait s x on)
unfolding with_wait
wait_fits second s x on fits h = record {
  items = h.items;
  rows = every_set RowFits s.rows x.job.tx.0 (Some (record x { waits_on = Some on })) h.rows fits;
  ended = h.ended;
}

-- a job's row after its step
pub after_fits : (s : State) (x : Row) (op : Op) → Every FitsStored s.items → RowFits (Some x) → HasValue op
    → RowFits (Some (row_after s x op))
after_fits s x op h fits v = (fits.0, work_fits s.items x.work op h fits.1 v)

-- ---- the opening state

pub opening_fits : (second : Bool) (set : Set) → Every (λ (d : ItemDecl). IsI64 d.initial) set.items
    → Fits second (opening set)
unfolding opening
opening_fits second set values = record {
  items = every_map (λ (d : ItemDecl). IsI64 d.initial) FitsStored (λ d. record { value = d.initial; stamp = 0 }) set.items
      (λ d is. record { value = is; stamp = omega arith }) values;
  rows = none set.txns;
  ended = tt;
} where
  none : {A : Type 0} (xs : List A) → Every RowFits (map (λ t. None) xs)
  none [] = tt
  none (x ∷ xs) = (tt, none xs)
