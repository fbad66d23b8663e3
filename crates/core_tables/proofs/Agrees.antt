-- The tables agree still after a release, a step, a wait and an end.
use Rattle.std.proofs.Common.{◌≡◌, ◌≢◌, ◌⊎◌, ℕ, ◌+◌, ◌^◌, ◌<◌, ◌≤◌, true, false, ◌||◌, List, length, Option, None, Some, get_or, set, refl, ap, sym, ◌∙◌, subst, inl, inr, arith}
use Rattle.std.proofs.lemmas.Bool.{cases_eq, cases_lt}
use Rattle.std.proofs.lemmas.List.{length-set, get_or-set_same, get_or-set_other}
use Rattle.std.specs.Prelude.{is_some}
use Rattle.rt_base.specs.declared.ids.JobId.{JobId}
use Rattle.rt_base.specs.declared.ids.TxId.{TxId}
use Rattle.rt_base.specs.declared.rank_set.RankSet.{RankSet}
use Rattle.rt_base.specs.Ranks.{has_rank}
use Rattle.ceiling_table.specs.declared.LockKind.TheVariants as kind
use Rattle.ceiling_table.specs.Held.{Locks, lock_at}
use Rattle.inherit_prio.specs.Waits.{Waiting, IsOrder, on_of, tx_of}
use Rattle.item_model.specs.Work.{has_read, has_written}
use Rattle.step_journal.specs.State.{Row, row_of, new_row}
use Rattle.step_journal.specs.Instant.{with_row}
use Rattle.law_histories.proofs.Invariant.{in_range}
use Rattle.law_histories.proofs.Once.{some_same as some_is}
use Rattle.core_tables.specs.Deadlines.{deadline_of, IsLeastDeadline}
use Rattle.core_tables.specs.PendingTables.{row_lock, IsWait, AreRanks, IsLeast, Agree, earlier_of}
use Rattle.rt_base.proofs.Ranks.{With, with_this, with_other}
use Rattle.inherit_prio.proofs.Orders.{same_rank}

-- a row after a write at n
pub set_at : (rows : List (Option Row)) (n k : ℕ) (x y : Option Row) → n < length rows → row_of (set rows n x) k ≡ y → ((k ≡ n) × (x ≡ y)) ⊎ ((k ≢ n) × (row_of rows k ≡ y))
set_at rows n k x y lt h =
    elim (cases_eq k n) [
      | inl e ↦ inl (e, sym (get_or-set_same rows n x None lt) ∙ (ap (row_of (set rows n x)) (sym e) ∙ h))
      | inr ne ↦ inr (ne, sym (get_or-set_other rows n k x None ne) ∙ h)
    ]

still_some : (rows : List (Option Row)) (n k : ℕ) (r : Row) → n < length rows → is_some (row_of rows k) ≡ true → is_some (row_of (set rows n (Some r)) k) ≡ true
still_some rows n k r lt h =
    elim (cases_eq k n) [
      | inl e ↦ ap is_some (ap (row_of (set rows n (Some r))) e ∙ get_or-set_same rows n (Some r) None lt)
      | inr ne ↦ ap is_some (get_or-set_other rows n k (Some r) None ne) ∙ h
    ]

-- a release

-- the deadline of a row after a release: of the new row, or of an old one
deadline_after : (deadlines : List ℕ) (rows : List (Option Row)) (job : JobId) (tick n : ℕ) (other : Row) → job.tx.0 < length rows → row_of (with_row tick rows job) n ≡ Some other
    → (deadline_of deadlines other ≡ tick + get_or deadlines job.tx.0 0) ⊎ (row_of rows n ≡ Some other)
deadline_after deadlines rows job tick n other lt h =
    elim (set_at rows job.tx.0 n (Some (new_row job tick)) (Some other) lt h) [
      | inl e ↦ inl (ap (deadline_of deadlines) (sym (some_is (new_row job tick) other e.1)))
      | inr o ↦ inr o.1
    ]

least_released : (deadlines : List ℕ) (rows : List (Option Row)) (job : JobId) (tick : ℕ) (least : Option ℕ) → job.tx.0 < length rows → row_of rows job.tx.0 ≡ None → IsLeast deadlines rows least
    → IsLeastDeadline deadlines (with_row tick rows job) (earlier_of (tick + get_or deadlines job.tx.0 0) least)
least_released deadlines rows job tick None lt free none = record {
  tx = job.tx.0;
  row = new_row job tick;
  here = get_or-set_same rows job.tx.0 (Some (new_row job tick)) None lt;
  is = refl;
  least = λ n other h.
      elim (deadline_after deadlines rows job tick n other lt h) [
        | inl e ↦ omega (arith, e)
        | inr o ↦ absurd (let gone : Some other ≡ None = sym o ∙ none n in cc)
      ];
}
least_released deadlines rows job tick (Some m) lt free least =
    let ne : least.tx ≢ job.tx.0 = (λ e. let gone : Some least.row ≡ None = sym least.here ∙ (ap (row_of rows) e ∙ free) in cc (gone)) in
    elim (cases_lt m (tick + get_or deadlines job.tx.0 0)) [
      | inl before ↦ record {
        tx = least.tx;
        row = least.row;
        here = get_or-set_other rows job.tx.0 least.tx (Some (new_row job tick)) None ne ∙ least.here;
        is = omega (arith, least.is);
        least = λ n other h.
            elim (deadline_after deadlines rows job tick n other lt h) [ inl e ↦ omega (arith, e) | inr o ↦ (let le : m ≤ deadline_of deadlines other = least.least n other o in omega (arith, le)) ];
      }
      | inr after ↦ record {
        tx = job.tx.0;
        row = new_row job tick;
        here = get_or-set_same rows job.tx.0 (Some (new_row job tick)) None lt;
        is = omega arith;
        least = λ n other h.
            elim (deadline_after deadlines rows job tick n other lt h) [ inl e ↦ omega (arith, e) | inr o ↦ (let le : m ≤ deadline_of deadlines other = least.least n other o in omega (arith, le)) ];
      }
    ]

module _ (rows : List (Option Row)) (held : Locks) (waiting : Waiting) (deadlines : List ℕ) (ranks : RankSet) (least : Option ℕ) (a : Agree rows held waiting deadlines ranks least) where
  -- nobody waits on a transaction with no row, and it waits on nobody
  pub not_waiting : (tx : ℕ) → row_of rows tx ≡ None → on_of waiting.on tx ≡ None
  not_waiting tx none = none_of (on_of waiting.on tx) refl where
    none_of : (o : Option TxId) → on_of waiting.on tx ≡ o → o ≡ None
    none_of None e = refl
    none_of (Some u) e = absurd (let w = a.waits tx u e in let gone : is_some (row_of rows tx) ≡ false = ap is_some none in cc (gone, w.waiter))

  pub not_waited : (tx : ℕ) → row_of rows tx ≡ None → (t : ℕ) (u : TxId) → on_of waiting.on t ≡ Some u → u.0 ≢ tx
  not_waited tx none t u h e = let w = a.waits t u h in let gone : is_some (row_of rows u.0) ≡ false = ap is_some (ap (row_of rows) e ∙ none) in cc (gone, w.blocker)

  module _ (job : JobId) (tick rank : ℕ) (ranks' : RankSet) (lt : job.tx.0 < length rows) (free : row_of rows job.tx.0 ≡ None) (small : tick < 2 ^ 63)
      (low : rank < length held.prios) (is : tx_of waiting.order rank ≡ job.tx.0) (more : With ranks ranks' rank) where
    abbrev rows_new : List (Option Row)
    rows_new = with_row tick rows job

    abbrev new : Option Row
    new = Some (new_row job tick)

    released_locks : (tx item : ℕ) → tx < length rows_new → item < length held.ceilings → lock_at held tx item ≡ row_lock (row_of rows_new tx) item
    released_locks tx item within low_item =
        let size : length rows_new ≡ length rows = length-set rows job.tx.0 new in
        elim (cases_eq tx job.tx.0) [
          | inl e ↦ (
              let was : lock_at held tx item ≡ kind.Free = a.locks tx item (omega (arith, size)) low_item ∙ ap (λ (o : Option Row). row_lock o item) (ap (row_of rows) e ∙ free) in
              was ∙ sym (ap (λ (o : Option Row). row_lock o item) (ap (row_of rows_new) e ∙ get_or-set_same rows job.tx.0 new None lt)))
          | inr ne ↦ a.locks tx item (omega (arith, size)) low_item ∙ sym (ap (λ (o : Option Row). row_lock o item) (get_or-set_other rows job.tx.0 tx new None ne))
        ]

    released_touched : (tx item : ℕ) (row : Row) → row_of rows_new tx ≡ Some row → (has_read row.work item || has_written row.work item) ≡ true → item < length held.ceilings
    released_touched tx item row h t =
        elim (set_at rows job.tx.0 tx new (Some row) lt h) [
          | inl e ↦ absurd (let nothing : (has_read row.work item || has_written row.work item) ≡ false = ap (λ (r : Row). has_read r.work item || has_written r.work item) (sym (some_is (new_row job tick) row e.1)) in cc (nothing, t))
          | inr o ↦ a.touched tx item row o.1 t
        ]

    released_ranks : AreRanks rows_new waiting.order ranks'
    released_ranks =
        let size : length rows_new ≡ length rows = length-set rows job.tx.0 new in
        record {
          within = λ r within.
              elim (cases_eq r rank) [
                | inl e ↦ ap (has_rank ranks') e ∙ with_this ranks ranks' rank more
                    ∙ sym (ap is_some (ap (row_of rows_new) (ap (tx_of waiting.order) e ∙ is) ∙ get_or-set_same rows job.tx.0 new None lt))
                | inr ne ↦ (
                    let away : tx_of waiting.order r ≢ job.tx.0 = (λ q. ne (same_rank held.prios waiting.order r rank a.order (omega (arith, size, a.size)) low (q ∙ sym is))) in
                    with_other ranks ranks' rank r more ne ∙ a.ranks.within r (omega (arith, size)) ∙ sym (ap is_some (get_or-set_other rows job.tx.0 (tx_of waiting.order r) new None away)))
              ];
          beyond = λ r ge. with_other ranks ranks' rank r more (λ (q : r ≡ rank). omega (arith, size, a.size)) ∙ a.ranks.beyond r (omega (arith, size));
        }

    pub agree_released : Agree rows_new held waiting deadlines ranks' (Some (earlier_of (tick + get_or deadlines job.tx.0 0) least))
    agree_released = record {
      few = a.few;
      size = length-set rows job.tx.0 new ∙ a.size;
      deadlines_size = a.deadlines_size;
      prios = a.prios;
      order = a.order;
      soon = a.soon;
      early = λ tx row h. elim (set_at rows job.tx.0 tx new (Some row) lt h) [ inl e ↦ (let same : tick ≡ row.release = ap (λ (r : Row). r.release) (some_is (new_row job tick) row e.1) in omega (arith, same, small)) | inr o ↦ a.early tx row o.1 ];
      named = λ tx row h. elim (set_at rows job.tx.0 tx new (Some row) lt h) [ inl e ↦ (ap (λ (r : Row). r.job.tx.0) (sym (some_is (new_row job tick) row e.1)) ∙ sym e.0) | inr o ↦ a.named tx row o.1 ];
      locks = released_locks;
      touched = released_touched;
      waits = λ tx u h. let w = a.waits tx u h in record { waiter = still_some rows job.tx.0 tx (new_row job tick) lt w.waiter; blocker = still_some rows job.tx.0 u.0 (new_row job tick) lt w.blocker; ends = w.ends };
      ranks = released_ranks;
      least = least_released deadlines rows job tick least lt free a.least;
    }

-- One row changes, but for its job and release.

module _ (rows : List (Option Row)) (held : Locks) (waiting : Waiting) (deadlines : List ℕ) (ranks : RankSet) (least : Option ℕ) (a : Agree rows held waiting deadlines ranks least)
    (tx : ℕ) (row row' : Row) (here : row_of rows tx ≡ Some row) (job : row'.job ≡ row.job) (release : row'.release ≡ row.release) where
  abbrev rows_now : List (Option Row)
  rows_now = set rows tx (Some row')

  within : tx < length rows
  within = in_range rows tx row here

  -- a row after the change, and the one before
  pub was_row : (k : ℕ) (x : Row) → row_of rows_now k ≡ Some x → (y : Row) × (row_of rows k ≡ Some y) × (x.job ≡ y.job) × (x.release ≡ y.release)
  was_row k x h =
      elim (set_at rows tx k (Some row') (Some x) within h) [
        | inl e ↦ (
            let same : row' ≡ x = some_is row' x e.1 in
            (row, ap (row_of rows) e.0 ∙ here, ap (λ (r : Row). r.job) (sym same) ∙ job, ap (λ (r : Row). r.release) (sym same) ∙ release))
        | inr o ↦ (x, o.1, refl, refl)
      ]

  -- a row before the change, and the one after
  now_row : (k : ℕ) (y : Row) → row_of rows k ≡ Some y → (x : Row) × (row_of rows_now k ≡ Some x) × (x.job ≡ y.job) × (x.release ≡ y.release)
  now_row k y h =
      elim (cases_eq k tx) [
        | inl e ↦ (
            let same : row ≡ y = some_is row y (sym here ∙ (ap (row_of rows) (sym e) ∙ h)) in
            (row', ap (row_of rows_now) e ∙ get_or-set_same rows tx (Some row') None within, job ∙ ap (λ (r : Row). r.job) same, release ∙ ap (λ (r : Row). r.release) same))
        | inr ne ↦ (y, get_or-set_other rows tx k (Some row') None ne ∙ h, refl, refl)
      ]

  same_deadline : (x y : Row) → x.job ≡ y.job → x.release ≡ y.release → deadline_of deadlines x ≡ deadline_of deadlines y
  same_deadline x y j r = ap (λ (n : ℕ). n + get_or deadlines x.job.tx.0 0) r ∙ ap (λ (q : JobId). y.release + get_or deadlines q.tx.0 0) j

  pub some_same : (k : ℕ) → is_some (row_of rows_now k) ≡ is_some (row_of rows k)
  some_same k =
      elim (cases_eq k tx) [
        | inl e ↦ ap is_some (ap (row_of rows_now) e ∙ get_or-set_same rows tx (Some row') None within) ∙ sym (ap is_some (ap (row_of rows) e ∙ here))
        | inr ne ↦ ap is_some (get_or-set_other rows tx k (Some row') None ne)
      ]

  least_kept : (o : Option ℕ) → IsLeast deadlines rows o → IsLeast deadlines rows_now o
  least_kept None none = absurd (let gone : Some row ≡ None = sym here ∙ none tx in cc (gone))
  least_kept (Some m) l =
      let n = now_row l.tx l.row l.here in
      record {
        tx = l.tx;
        row = n.0;
        here = n.1;
        is = same_deadline n.0 l.row n.2 n.3 ∙ l.is;
        least = λ k other h. let w = was_row k other h in let le : m ≤ deadline_of deadlines w.0 = l.least k w.0 w.1 in omega (arith, le, same_deadline other w.0 w.2 w.3);
      }

  -- with these locks and waits
  pub agree_changed : (held' : Locks) (waiting' : Waiting) → held'.ceilings ≡ held.ceilings → held'.prios ≡ held.prios → waiting'.prios ≡ waiting.prios → waiting'.order ≡ waiting.order
      → ((k item : ℕ) → k < length rows → item < length held.ceilings → lock_at held' k item ≡ row_lock (row_of rows_now k) item)
      → ((item : ℕ) → (has_read row'.work item || has_written row'.work item) ≡ true → item < length held.ceilings)
      → ((k : ℕ) (u : TxId) → on_of waiting'.on k ≡ Some u → IsWait rows_now waiting'.on k u)
      → Agree rows_now held' waiting' deadlines ranks least
  agree_changed held' waiting' ec ep ew eo locks touched waits =
      let size : length held'.prios ≡ length held.prios = ap length ep in
      let items : length held'.ceilings ≡ length held.ceilings = ap length ec in
      let rows_size : length rows_now ≡ length rows = length-set rows tx (Some row') in
      record {
        few = omega (arith, size, a.few);
        size = omega (arith, size, rows_size, a.size);
        deadlines_size = omega (arith, size, a.deadlines_size);
        prios = ew ∙ a.prios ∙ sym ep;
        order = subst (λ (p : List ℕ). IsOrder p waiting'.order) (sym ep) (subst (IsOrder held.prios) (sym eo) a.order);
        soon = a.soon;
        early = λ k x h. let w = was_row k x h in let e : w.0.release < 2 ^ 63 = a.early k w.0 w.1 in omega (arith, w.3, e);
        named = λ k x h. let w = was_row k x h in ap (λ (j : JobId). j.tx.0) w.2 ∙ a.named k w.0 w.1;
        locks = λ k item lt low. locks k item (omega (arith, rows_size)) (omega (arith, items));
        touched = λ k item x h t.
            elim (set_at rows tx k (Some row') (Some x) within h) [
              | inl e ↦ (let low : item < length held.ceilings = touched item (ap (λ (r : Row). has_read r.work item || has_written r.work item) (some_is row' x e.1) ∙ t) in omega (arith, items, low))
              | inr o ↦ (let low : item < length held.ceilings = a.touched k item x o.1 t in omega (arith, items, low))
            ];
        waits = waits;
        ranks = record {
          within = λ r lt. a.ranks.within r (omega (arith, rows_size)) ∙ (ap (λ (order : List TxId). is_some (row_of rows (tx_of order r))) (sym eo) ∙ sym (some_same (tx_of waiting'.order r)));
          beyond = λ r ge. a.ranks.beyond r (omega (arith, rows_size));
        };
        least = least_kept least a.least;
      }
