-- The tables agree still after a step, a wait and an end.
use Rattle.std.proofs.Common.{◌≡◌, ◌≢◌, ℕ, ◌^◌, ◌<◌, ◌≤◌, ◌==◌, Bool, true, false, cond, ◌||◌, List, length, map, Option, None, Some, set, refl, ap, sym, ◌∙◌, subst, inl, inr, arith}
use Rattle.std.proofs.lemmas.Bool.{cases_eq, eq-eqb, ne_eqb}
use Rattle.std.proofs.lemmas.List.{length-set, length-map, get_or-set_same, get_or-set_other}
use Rattle.std.proofs.Math.ListN.{get_or-map}
use Rattle.std.specs.Prelude.{is_some}
use Rattle.std.specs.Option.{option_map}
use Rattle.rt_base.specs.declared.ids.JobId.{JobId}
use Rattle.rt_base.specs.declared.ids.TxId.{TxId}
use Rattle.rt_base.specs.declared.operation.Op.{Op}
use Rattle.rt_base.specs.declared.rank_set.RankSet.{RankSet}
use Rattle.rt_base.specs.Ranks.{has_rank}
use Rattle.ceiling_table.specs.declared.LockKind.TheVariants as kind
use Rattle.ceiling_table.specs.Held.{Locks, lock_at, released_at, HasItem}
use Rattle.ceiling_table.specs.Seated.{Changes}
use Rattle.inherit_prio.specs.Waits.{Waiting, IsOrder, Changes as WaitChanges, on_of, tx_of, unless_on, freed_at}
use Rattle.item_model.specs.declared.stored.Stored.{Stored}
use Rattle.item_model.specs.Work.{has_read, has_written}
use Rattle.step_journal.specs.State.{Row, row_of}
use Rattle.step_journal.specs.Instant.{freed}
use Rattle.law_histories.proofs.Invariant.{in_range}
use Rattle.law_histories.proofs.Once.{some_same as some_is}
use Rattle.core_tables.specs.Rows.{row_stepped, rows_stepped, rows_waiting}
use Rattle.core_tables.specs.Deadlines.{deadline_of}
use Rattle.core_tables.specs.PendingTables.{row_lock, op_locked_at, IsWait, AreRanks, IsLeast, Agree}
use Rattle.rt_base.proofs.Ranks.{Without, without_this, without_other}
use Rattle.inherit_prio.proofs.Orders.{same_rank}
use Rattle.core_tables.proofs.WorkLocks.{op_lock, lock_after, locked_here, locked_there, touched_after, item_low}
use Rattle.core_tables.proofs.Agrees.{agree_changed, some_same}

module _ (rows : List (Option Row)) (held : Locks) (waiting : Waiting) (deadlines : List ℕ) (ranks : RankSet) (least : Option ℕ) (a : Agree rows held waiting deadlines ranks least)
    (tx : ℕ) (row : Row) (here : row_of rows tx ≡ Some row) where
  within : tx < length rows
  within = in_range rows tx row here

  -- a step

  module _ (held' : Locks) (items : List Stored) (op : Op) (low : HasItem (length held.ceilings) op) (changes : Changes held held' (op_locked_at held tx op)) where
    abbrev stepped : List (Option Row)
    stepped = set rows tx (Some (row_stepped items op row))

    step_locks : (k item : ℕ) → k < length rows → item < length held.ceilings → lock_at held' k item ≡ row_lock (row_of stepped k) item
    step_locks k item lt in_items =
        elim (cases_eq k tx) [
          | inl e ↦ subst (λ (n : ℕ). lock_at held' n item ≡ row_lock (row_of stepped n) item) (sym e) (
              changes.locks tx item in_items ∙ (locked_here held tx op item ∙ (ap (op_lock op item) (a.locks tx item within in_items ∙ ap (λ (o : Option Row). row_lock o item) here)
              ∙ (sym (lock_after items row.work op item) ∙ sym (ap (λ (o : Option Row). row_lock o item) (get_or-set_same rows tx (Some (row_stepped items op row)) None within))))))
          | inr ne ↦ changes.locks k item in_items ∙ (locked_there held tx op k item (ne_eqb k tx ne) ∙ (a.locks k item lt in_items ∙ sym (ap (λ (o : Option Row). row_lock o item) (get_or-set_other rows tx k (Some (row_stepped items op row)) None ne))))
        ]

    step_touched : (item : ℕ) → (has_read (row_stepped items op row).work item || has_written (row_stepped items op row).work item) ≡ true → item < length held.ceilings
    step_touched item t = elim (touched_after items row.work op item t) [ inl old ↦ a.touched tx item row here old | inr new ↦ item_low (length held.ceilings) op item low new ]

    -- each wait stays
    stays : (k : ℕ) (u : TxId) → on_of waiting.on k ≡ Some u → IsWait stepped waiting.on k u
    stays k u h =
        let w = a.waits k u h in
        let same : (n : ℕ) → is_some (row_of stepped n) ≡ is_some (row_of rows n) = some_same rows held waiting deadlines ranks least a tx row (row_stepped items op row) here refl refl in
        record { waiter = same k ∙ w.waiter; blocker = same u.0 ∙ w.blocker; ends = w.ends }

    pub agree_stepped : row.job.tx.0 ≡ tx → Agree (rows_stepped rows items op row) held' waiting deadlines ranks least
    agree_stepped named =
        subst (λ (n : ℕ). Agree (set rows n (Some (row_stepped items op row))) held' waiting deadlines ranks least) (sym named)
        (agree_changed rows held waiting deadlines ranks least a tx row (row_stepped items op row) here refl refl held' waiting changes.ceilings changes.prios refl refl step_locks step_touched stays)

  -- a wait

  module _ (waiting' : Waiting) (on : JobId) (changes : WaitChanges waiting waiting' (λ t. cond (t == tx) (Some on.tx) (on_of waiting.on t)))
      (free : on_of waiting.on tx ≡ None) (on_free : on_of waiting.on on.tx.0 ≡ None) (nobody : (t : ℕ) (u : TxId) → on_of waiting.on t ≡ Some u → u.0 ≢ tx) (differ : tx ≢ on.tx.0) (blocker : is_some (row_of rows on.tx.0) ≡ true) where
    abbrev waits_row : Row
    waits_row = record row { waits_on = Some on }

    abbrev waited : List (Option Row)
    waited = set rows tx (Some waits_row)

    wait_locks : (k item : ℕ) → k < length rows → item < length held.ceilings → lock_at held k item ≡ row_lock (row_of waited k) item
    wait_locks k item lt in_items =
        elim (cases_eq k tx) [
          | inl e ↦ subst (λ (n : ℕ). lock_at held n item ≡ row_lock (row_of waited n) item) (sym e)
              (a.locks tx item within in_items ∙ (ap (λ (o : Option Row). row_lock o item) here ∙ sym (ap (λ (o : Option Row). row_lock o item) (get_or-set_same rows tx (Some waits_row) None within))))
          | inr ne ↦ a.locks k item lt in_items ∙ sym (ap (λ (o : Option Row). row_lock o item) (get_or-set_other rows tx k (Some waits_row) None ne))
        ]

    on_other : (k : ℕ) → k ≢ tx → on_of waiting'.on k ≡ on_of waiting.on k
    on_other k ne = changes.on k ∙ ap (λ (b : Bool). cond b (Some on.tx) (on_of waiting.on k)) (ne_eqb k tx ne)

    on_this : on_of waiting'.on tx ≡ Some on.tx
    on_this = changes.on tx ∙ ap (λ (b : Bool). cond b (Some on.tx) (on_of waiting.on tx)) (eq-eqb tx tx refl)

    wait_waits : (k : ℕ) (u : TxId) → on_of waiting'.on k ≡ Some u → IsWait waited waiting'.on k u
    wait_waits k u h =
        let same : (n : ℕ) → is_some (row_of waited n) ≡ is_some (row_of rows n) = some_same rows held waiting deadlines ranks least a tx row waits_row here refl refl in
        elim (cases_eq k tx) [
          | inl e ↦ (
              let is : on.tx ≡ u = some_is on.tx u (sym on_this ∙ (ap (on_of waiting'.on) (sym e) ∙ h)) in
              let at : on.tx.0 ≡ u.0 = ap (λ (t : TxId). t.0) is in
              record {
                waiter = same k ∙ ap is_some (ap (row_of rows) e ∙ here);
                blocker = same u.0 ∙ (ap (λ (n : ℕ). is_some (row_of rows n)) (sym at) ∙ blocker);
                ends = on_other u.0 (λ q. differ (sym (at ∙ q))) ∙ (ap (on_of waiting.on) (sym at) ∙ on_free);
              })
          | inr ne ↦ (
              let old : on_of waiting.on k ≡ Some u = sym (on_other k ne) ∙ h in
              let w = a.waits k u old in
              record { waiter = same k ∙ w.waiter; blocker = same u.0 ∙ w.blocker; ends = on_other u.0 (nobody k u old) ∙ w.ends })
        ]

    pub agree_waiting : row.job.tx.0 ≡ tx → Agree (rows_waiting rows row on) held waiting' deadlines ranks least
    agree_waiting named =
        subst (λ (n : ℕ). Agree (set rows n (Some waits_row)) held waiting' deadlines ranks least) (sym named)
        (agree_changed rows held waiting deadlines ranks least a tx row waits_row here refl refl held waiting' refl refl changes.prios changes.order wait_locks (λ item t. a.touched tx item row here t) wait_waits)

  -- an end

  module _ (held' : Locks) (waiting' : Waiting) (ranks' : RankSet) (rank : ℕ) (locks : Changes held held' (released_at held tx)) (changes : WaitChanges waiting waiting' (freed_at waiting tx))
      (low : rank < length held.prios) (is : tx_of waiting.order rank ≡ tx) (without : Without ranks ranks' rank) where
    abbrev ended : List (Option Row)
    ended = map (option_map (freed row.job)) (set rows tx None)

    gone : row_of ended tx ≡ None
    gone = get_or-map (option_map (freed row.job)) (set rows tx None) tx None ∙ ap (option_map (freed row.job)) (get_or-set_same rows tx None None within)

    left : (k : ℕ) → k ≢ tx → row_of ended k ≡ option_map (freed row.job) (row_of rows k)
    left k ne = get_or-map (option_map (freed row.job)) (set rows tx None) k None ∙ ap (option_map (freed row.job)) (get_or-set_other rows tx k None None ne)

    some_freed : (o : Option Row) → is_some (option_map (freed row.job) o) ≡ is_some o
    some_freed None = refl
    some_freed (Some r) = refl

    lock_freed : (o : Option Row) (item : ℕ) → row_lock (option_map (freed row.job) o) item ≡ row_lock o item
    lock_freed None item = refl
    lock_freed (Some r) item = refl

    -- a row that is left, and the one before
    was_at : (o : Option Row) (x : Row) → option_map (freed row.job) o ≡ Some x → (y : Row) × (o ≡ Some y) × (x ≡ freed row.job y)
    was_at None x h = absurd cc
    was_at (Some y) x h = (y, refl, sym (some_is (freed row.job y) x h))

    was : (k : ℕ) (x : Row) → row_of ended k ≡ Some x → (y : Row) × (row_of rows k ≡ Some y) × (x ≡ freed row.job y) × (k ≢ tx)
    was k x h =
        elim (cases_eq k tx) [
          | inl e ↦ absurd (let none : Some x ≡ None = sym h ∙ (ap (row_of ended) e ∙ gone) in cc (none))
          | inr ne ↦ (let w = was_at (row_of rows k) x (sym (left k ne) ∙ h) in (w.0, w.1, w.2, ne))
        ]

    freed_other : (k : ℕ) → k ≢ tx → on_of waiting'.on k ≡ unless_on tx (on_of waiting.on k)
    freed_other k ne = changes.on k ∙ ap (λ (b : Bool). cond b None (unless_on tx (on_of waiting.on k))) (ne_eqb k tx ne)

    freed_this : on_of waiting'.on tx ≡ None
    freed_this = changes.on tx ∙ ap (λ (b : Bool). cond b None (unless_on tx (on_of waiting.on tx))) (eq-eqb tx tx refl)

    unless_at : (v u : TxId) (b : Bool) → (v.0 == tx) ≡ b → cond b None (Some v) ≡ Some u → (v ≡ u) × (v.0 ≢ tx)
    unless_at v u true e h = absurd cc
    unless_at v u false e h = (some_is v u h, λ q. absurd (let t : (v.0 == tx) ≡ true = eq-eqb v.0 tx q in cc (t, e)))

    unless_some : (o : Option TxId) (u : TxId) → unless_on tx o ≡ Some u → (o ≡ Some u) × (u.0 ≢ tx)
    unless_some None u h = absurd cc
    unless_some (Some v) u h = let r = unless_at v u (v.0 == tx) refl h in (ap Some r.0, λ q. r.1 (ap (λ (t : TxId). t.0) r.0 ∙ q))

    end_waits : (k : ℕ) (u : TxId) → on_of waiting'.on k ≡ Some u → IsWait ended waiting'.on k u
    end_waits k u h =
        elim (cases_eq k tx) [
          | inl e ↦ absurd (let none : Some u ≡ None = sym h ∙ (ap (on_of waiting'.on) e ∙ freed_this) in cc (none))
          | inr ne ↦ (
              let r = unless_some (on_of waiting.on k) u (sym (freed_other k ne) ∙ h) in
              let w = a.waits k u r.0 in
              record {
                waiter = ap is_some (left k ne) ∙ (some_freed (row_of rows k) ∙ w.waiter);
                blocker = ap is_some (left u.0 r.1) ∙ (some_freed (row_of rows u.0) ∙ w.blocker);
                ends = freed_other u.0 r.1 ∙ ap (unless_on tx) w.ends;
              })
        ]

    end_locks : (k item : ℕ) → k < length rows → item < length held.ceilings → lock_at held' k item ≡ row_lock (row_of ended k) item
    end_locks k item lt in_items =
        elim (cases_eq k tx) [
          | inl e ↦ subst (λ (n : ℕ). lock_at held' n item ≡ row_lock (row_of ended n) item) (sym e)
              (locks.locks tx item in_items ∙ (ap (λ (b : Bool). cond b kind.Free (lock_at held tx item)) (eq-eqb tx tx refl) ∙ sym (ap (λ (o : Option Row). row_lock o item) gone)))
          | inr ne ↦ locks.locks k item in_items ∙ (ap (λ (b : Bool). cond b kind.Free (lock_at held k item)) (ne_eqb k tx ne) ∙ (a.locks k item lt in_items ∙ (sym (lock_freed (row_of rows k) item) ∙ sym (ap (λ (o : Option Row). row_lock o item) (left k ne)))))
        ]

    end_size : length ended ≡ length rows
    end_size = length-map (set rows tx None) (option_map (freed row.job)) ∙ length-set rows tx None

    pub end_ranks : AreRanks ended waiting'.order ranks'
    end_ranks = record {
      within = λ r lt.
          subst (λ (order : List TxId). has_rank ranks' r ≡ is_some (row_of ended (tx_of order r))) (sym changes.order)
          (elim (cases_eq r rank) [
            | inl e ↦ ap (has_rank ranks') e ∙ (without_this ranks ranks' rank without ∙ sym (ap is_some (ap (row_of ended) (ap (tx_of waiting.order) e ∙ is) ∙ gone)))
            | inr ne ↦ (
                let away : tx_of waiting.order r ≢ tx = (λ q. ne (same_rank held.prios waiting.order r rank a.order (omega (arith, end_size, a.size)) low (q ∙ sym is))) in
                without_other ranks ranks' rank r without ne ∙ (a.ranks.within r (omega (arith, end_size)) ∙ (sym (some_freed (row_of rows (tx_of waiting.order r))) ∙ sym (ap is_some (left (tx_of waiting.order r) away)))))
          ]);
      beyond = λ r ge. without_other ranks ranks' rank r without (λ (q : r ≡ rank). omega (arith, end_size, a.size)) ∙ a.ranks.beyond r (omega (arith, end_size));
    }

    pub end_early : (k : ℕ) (x : Row) → row_of ended k ≡ Some x → x.release < 2 ^ 63
    end_early k x h = let w = was k x h in let e : w.0.release < 2 ^ 63 = a.early k w.0 w.1 in omega (arith, e, ap (λ (r : Row). r.release) w.2)

    pub end_named : (k : ℕ) (x : Row) → row_of ended k ≡ Some x → x.job.tx.0 ≡ k
    end_named k x h = let w = was k x h in ap (λ (r : Row). r.job.tx.0) w.2 ∙ a.named k w.0 w.1

    -- the least deadline stays, where it is not that of the row that ended
    pub least_stays : (o : Option ℕ) → IsLeast deadlines rows o → o ≢ Some (deadline_of deadlines row) → IsLeast deadlines ended o
    least_stays None none ne = absurd (let no : Some row ≡ None = sym here ∙ none tx in cc (no))
    least_stays (Some m) l ne =
        let away : l.tx ≢ tx = (λ e. ne (ap Some (sym l.is ∙ ap (deadline_of deadlines) (some_is l.row row (sym l.here ∙ (ap (row_of rows) e ∙ here)))))) in
        record {
          tx = l.tx;
          row = freed row.job l.row;
          here = left l.tx away ∙ ap (option_map (freed row.job)) l.here;
          is = l.is;
          least = λ k other h. let w = was k other h in let le : m ≤ deadline_of deadlines w.0 = l.least k w.0 w.1 in omega (arith, le, ap (deadline_of deadlines) w.2);
        }

    pub agree_ended : (o : Option ℕ) → IsLeast deadlines ended o → Agree ended held' waiting' deadlines ranks' o
    agree_ended o l =
        let size : length held'.prios ≡ length held.prios = ap length locks.prios in
        let in_items : length held'.ceilings ≡ length held.ceilings = ap length locks.ceilings in
        record {
          few = omega (arith, size, a.few);
          size = omega (arith, size, end_size, a.size);
          deadlines_size = omega (arith, size, a.deadlines_size);
          prios = changes.prios ∙ a.prios ∙ sym locks.prios;
          order = subst (λ (p : List ℕ). IsOrder p waiting'.order) (sym locks.prios) (subst (IsOrder held.prios) (sym changes.order) a.order);
          soon = a.soon;
          early = end_early;
          named = end_named;
          locks = λ k item lt low_item. end_locks k item (omega (arith, end_size)) (omega (arith, in_items));
          touched = λ k item x h t.
              (let w = was k x h in
              let before : (has_read w.0.work item || has_written w.0.work item) ≡ true = ap (λ (r : Row). has_read r.work item || has_written r.work item) (sym w.2) ∙ t in
              let lt : item < length held.ceilings = a.touched k item w.0 w.1 before in omega (arith, in_items, lt));
          waits = end_waits;
          ranks = end_ranks;
          least = l;
        }
