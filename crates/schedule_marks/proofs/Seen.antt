-- The locks of a part are those of the steps of the jobs that end after it begins.
use Rattle.std.proofs.Common.{◌≡◌, ℕ, Bool, true, false, cond, ◌&&◌, ◌||◌, nat_lt, List, [], ◌∷◌, ◌++◌, Option, None, Some, min, refl, ap, sym, ◌∙◌, inl, append-nil}
use Rattle.std.proofs.lemmas.List.Elements.{filter_map-append}
use Rattle.std.specs.List.{filter_map, cons_option, list_any}
use Rattle.rt_base.specs.declared.ids.ItemId.{ItemId}
use Rattle.rt_base.specs.declared.ids.JobId.{JobId}
use Rattle.rt_base.specs.declared.operation.Op.{Op}
use Rattle.rt_base.specs.declared.operation.Outcome.{Outcome}
use Rattle.rt_base.specs.declared.operation.End.{End}
use Rattle.txn_set.specs.Set.{Set}
use Rattle.step_journal.specs.State.{same_job}
use Rattle.step_journal.specs.declared.entry.Entry.{Entry}
use Rattle.step_journal.specs.declared.entry.Entry.TheVariants.{Step}
use Rattle.law_histories.proofs.Invariant.{same_job_is}
use Rattle.job_rows.specs.declared.row.JobRow.{JobRow}
use Rattle.schedule_marks.specs.declared.part.Part.{Part}
use Rattle.schedule_marks.specs.declared.mark.Mark.{Mark}
use Rattle.schedule_marks.specs.Marks.{until_of, lock_by, is_lock_on, shows_lock, earlier_write, until_write, lock_until, lock_mark, lock_from, lock_in, locks_along}
use Rattle.schedule_marks.specs.Seen.{seen_in}
use Rattle.schedule_marks.proofs.Along.{not_drawn}

and_false : (a b : Bool) → b ≡ false → (a && b) ≡ false
and_false true b e = e
and_false false b e = refl

module _ (set : Set) (part : Part) (stop : ℕ) (rows : List JobRow) where
  abbrev seen : List Entry → List Entry
  seen es = filter_map (seen_in part stop rows) es

  -- the job ends after the part begins
  abbrev Lasts : JobId → Type 0
  Lasts job = nat_lt part.from (until_of stop rows job) ≡ true

  other_job_at : (job by : JobId) (b c : Bool) → Lasts job → nat_lt part.from (until_of stop rows by) ≡ false → same_job by job ≡ b → (b && c) ≡ false
  other_job_at job by true c lasts gone e =
      absurd (let same : nat_lt part.from (until_of stop rows by) ≡ true = ap (λ (j : JobId). nat_lt part.from (until_of stop rows j)) (same_job_is by job e) ∙ lasts in cc (same, gone))
  other_job_at job by false c lasts gone e = refl

  -- a step of a job that does not shows no lock of one that does
  shows_none : (job : JobId) (item : ItemId) (w : Bool) (by : JobId) (op : Op) (outcome : Outcome) (over : Option End) (t : ℕ) → Lasts job → nat_lt part.from (until_of stop rows by) ≡ false
      → shows_lock job item w (Step by op outcome over t) ≡ false
  shows_none job item w by op outcome over t lasts gone = other_job_at job by (same_job by job) (is_lock_on item w (lock_by op outcome)) lasts gone refl

  any_seen : (job : JobId) (item : ItemId) (w : Bool) (es : List Entry) → Lasts job → list_any (shows_lock job item w) (seen es) ≡ list_any (shows_lock job item w) es
  any_seen job item w [] lasts = refl
  any_seen job item w (Step by op outcome over t ∷ es) lasts = at (any_seen job item w es lasts) (nat_lt part.from (until_of stop rows by)) refl where
    at : list_any (shows_lock job item w) (seen es) ≡ list_any (shows_lock job item w) es → (b : Bool) → nat_lt part.from (until_of stop rows by) ≡ b
        → list_any (shows_lock job item w) (cons_option (cond b (Some (Step by op outcome over t)) None) (seen es)) ≡ (shows_lock job item w (Step by op outcome over t) || list_any (shows_lock job item w) es)
    at rec true e = ap (λ (c : Bool). shows_lock job item w (Step by op outcome over t) || c) rec
    at rec false e = rec ∙ ap (λ (c : Bool). c || list_any (shows_lock job item w) es) (sym (shows_none job item w by op outcome over t lasts e))
  any_seen job item w (e ∷ es) lasts = any_seen job item w es lasts

  write_seen : (job : JobId) (item : ItemId) (to : ℕ) (es : List Entry) → Lasts job → until_write job item to (seen es) ≡ until_write job item to es
  write_seen job item to [] lasts = refl
  write_seen job item to (Step by op outcome over t ∷ es) lasts = at (λ n. write_seen job item n es lasts) (nat_lt part.from (until_of stop rows by)) refl where
    at : ((n : ℕ) → until_write job item n (seen es) ≡ until_write job item n es) → (b : Bool) → nat_lt part.from (until_of stop rows by) ≡ b
        → until_write job item to (cons_option (cond b (Some (Step by op outcome over t)) None) (seen es)) ≡ until_write job item (earlier_write job item to (Step by op outcome over t)) es
    at rec true e = rec (earlier_write job item to (Step by op outcome over t))
    at rec false e = rec to ∙ ap (λ (c : Bool). until_write job item (cond c (min t to) to) es) (sym (shows_none job item true by op outcome over t lasts e))
  write_seen job item to (e ∷ es) lasts = write_seen job item to es lasts

  until_seen : (job : JobId) (item : ItemId) (w : Bool) (end : ℕ) (es : List Entry) → Lasts job → lock_until job item w end (seen es) ≡ lock_until job item w end es
  until_seen job item true end es lasts = refl
  until_seen job item false end es lasts = write_seen job item end es lasts

  -- a step of a job that lasts takes the same lock, and one of another none

  lock_same : (before es : List Entry) (job : JobId) (tick : ℕ) (o : Option (ItemId × Bool)) → Lasts job
      → lock_from set part (until_of stop rows job) (seen before) (seen es) job tick o ≡ lock_from set part (until_of stop rows job) before es job tick o
  lock_same before es job tick None lasts = refl
  lock_same before es job tick (Some l) lasts =
      ap (λ (b : Bool). cond b None (lock_mark set part job l.0 l.1 tick (lock_until job l.0 l.1 (until_of stop rows job) (seen es)))) (any_seen job l.0 l.1 before lasts)
      ∙ ap (λ (n : ℕ). cond (list_any (shows_lock job l.0 l.1) before) None (lock_mark set part job l.0 l.1 tick n)) (until_seen job l.0 l.1 (until_of stop rows job) es lasts)

  lock_gone : (before es : List Entry) (job : JobId) (tick : ℕ) (o : Option (ItemId × Bool)) → nat_lt part.from (until_of stop rows job) ≡ false → lock_from set part (until_of stop rows job) before es job tick o ≡ None
  lock_gone before es job tick None gone = refl
  lock_gone before es job tick (Some l) gone = sym (not_drawn set part before es job tick (until_of stop rows job) l (inl (and_false (nat_lt tick part.to) (nat_lt part.from (until_of stop rows job)) gone)))

  -- one entry more

  skipped : (before es : List Entry) (e : Entry) → seen_in part stop rows e ≡ None → lock_in set part stop rows before es e ≡ None
      → locks_along set part stop rows (seen (before ++ e ∷ [])) (seen es) ≡ locks_along set part stop rows (before ++ e ∷ []) es
      → locks_along set part stop rows (seen before) (seen (e ∷ es)) ≡ locks_along set part stop rows before (e ∷ es)
  skipped before es e out none rec =
      let same : seen (before ++ e ∷ []) ≡ seen before =
      filter_map-append (seen_in part stop rows) before (e ∷ []) ∙ (ap (λ (o : Option Entry). seen before ++ cons_option o []) out ∙ append-nil (seen before)) in
      ap (λ (o : Option Entry). locks_along set part stop rows (seen before) (cons_option o (seen es))) out
      ∙ (ap (λ (l : List Entry). locks_along set part stop rows l (seen es)) (sym same)
      ∙ (rec ∙ ap (λ (o : Option Mark). cons_option o (locks_along set part stop rows (before ++ e ∷ []) es)) (sym none)))

  kept : (before es : List Entry) (e : Entry) → seen_in part stop rows e ≡ Some e → lock_in set part stop rows (seen before) (seen es) e ≡ lock_in set part stop rows before es e
      → locks_along set part stop rows (seen (before ++ e ∷ [])) (seen es) ≡ locks_along set part stop rows (before ++ e ∷ []) es
      → locks_along set part stop rows (seen before) (seen (e ∷ es)) ≡ locks_along set part stop rows before (e ∷ es)
  kept before es e here one rec =
      let same : seen (before ++ e ∷ []) ≡ seen before ++ e ∷ [] =
      filter_map-append (seen_in part stop rows) before (e ∷ []) ∙ ap (λ (o : Option Entry). seen before ++ cons_option o []) here in
      ap (λ (o : Option Entry). locks_along set part stop rows (seen before) (cons_option o (seen es))) here
      ∙ (ap (λ (o : Option Mark). cons_option o (locks_along set part stop rows (seen before ++ e ∷ []) (seen es))) one
      ∙ (ap (λ (l : List Entry). cons_option (lock_in set part stop rows before es e) (locks_along set part stop rows l (seen es))) (sym same)
      ∙ ap (cons_option (lock_in set part stop rows before es e)) rec))

  pub seen_locks : (before es : List Entry) → locks_along set part stop rows (seen before) (seen es) ≡ locks_along set part stop rows before es
  seen_locks before [] = refl
  seen_locks before (Step job op outcome over t ∷ es) = at (seen_locks (before ++ Step job op outcome over t ∷ []) es) (nat_lt part.from (until_of stop rows job)) refl where
    at : locks_along set part stop rows (seen (before ++ Step job op outcome over t ∷ [])) (seen es) ≡ locks_along set part stop rows (before ++ Step job op outcome over t ∷ []) es
        → (b : Bool) → nat_lt part.from (until_of stop rows job) ≡ b
        → locks_along set part stop rows (seen before) (seen (Step job op outcome over t ∷ es)) ≡ locks_along set part stop rows before (Step job op outcome over t ∷ es)
    at rec true e = kept before es (Step job op outcome over t) (ap (λ (c : Bool). cond c (Some (Step job op outcome over t)) None) e) (lock_same before es job t (lock_by op outcome) e) rec
    at rec false e = skipped before es (Step job op outcome over t) (ap (λ (c : Bool). cond c (Some (Step job op outcome over t)) None) e) (lock_gone before es job t (lock_by op outcome) e) rec
  seen_locks before (e ∷ es) = skipped before es e refl refl (seen_locks (before ++ e ∷ []) es)
