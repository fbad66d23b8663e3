-- What each call makes of the tables, over plain variables.
use Rattle.std.proofs.Common.{◌≡◌, ◌≢◌, ℕ, zero, suc, ◌+◌, ◌^◌, ◌<◌, ◌==◌, true, false, cond, List, [], ◌∷◌, length, map, Option, None, Some, get_or, set, refl, ap, sym, ◌∙◌, subst, inl, inr, arith}
use Rattle.std.proofs.lemmas.Bool.{cases_eq, eq-eqb}
use Rattle.std.proofs.lemmas.List.{get_or_read, length-set, get_or-set_same, get_or-set_other}
use Rattle.std.specs.Prelude.{is_some, MatchOption, eqb}
use Rattle.std.specs.Option.{option_map, option_eq}
use Rattle.rt_base.specs.declared.ids.JobId.{JobId}
use Rattle.rt_base.specs.declared.ids.TxId.{TxId}
use Rattle.rt_base.specs.declared.operation.Op.{Op}
use Rattle.rt_base.specs.declared.rank_set.RankSet.{RankSet}
use Rattle.ceiling_table.specs.declared.CeilRow.{CeilRow}
use Rattle.ceiling_table.specs.Held.{Locks, released_at, HasItem}
use Rattle.ceiling_table.specs.Seated.{Changes}
use Rattle.inherit_prio.specs.Waits.{Waiting, IsOrder, Changes as WaitChanges, on_of, tx_of, freed_at}
use Rattle.item_model.specs.declared.stored.Stored.{Stored}
use Rattle.item_model.specs.Work.{no_work, work_after}
use Rattle.strict_commit.specs.Jobs.{Job}
use Rattle.step_journal.specs.State.{Row, row_of, pending}
use Rattle.step_journal.specs.Instant.{freed, with_row}
use Rattle.law_histories.proofs.Members.{In, pending_in}
use Rattle.law_histories.proofs.Invariant.{in_range}
use Rattle.law_histories.proofs.Once.{some_same as some_is}
use Rattle.core_tables.specs.declared.head.Head.{Head}
use Rattle.core_tables.specs.Rows.{Facts, Accesses, PendingSeen, head_of, rows_stepped, rows_waiting, rows_ended}
use Rattle.core_tables.specs.Waiting.{MayWait}
use Rattle.core_tables.specs.Deadlines.{deadline_of, IsLeastDeadline}
use Rattle.core_tables.specs.PendingTables.{no_job, head_at, waited_job, row_by, rows_by, access_of, job_after, op_locked_at, head_with, AreHeadRanks, IsLeast, AreRanks, IsLeastOfHeads, Agree, IsRunningJob, IsTable, earlier_of}
use Rattle.rt_base.proofs.Ranks.{With, Without}
use Rattle.core_tables.proofs.RowsBy.{rows_length, rows_at, head_here, Fits, fits, rows_released, rows_after_step, rows_after_wait, rows_after_end}
use Rattle.core_tables.proofs.Agrees.{not_waiting, not_waited, agree_released}
use Rattle.core_tables.proofs.Changed.{agree_stepped, agree_waiting, agree_ended, least_stays, end_ranks, end_early, end_named}
use Rattle.core_tables.proofs.Highs.{row_here, head_ranks, early_heads, least_of_rows}

abbrev pub seen : List (Option Head) → List Job → Locks → Waiting → List ℕ → PendingSeen
seen heads works held waiting deadlines =
    record { facts = record { ceilings = held.ceilings; prios = held.prios; deadlines = deadlines; accesses = map access_of works }; rows = rows_by heads works waiting.on }

accesses_kept : (works : List Job) (n : ℕ) (w : Job) → access_of w ≡ access_of (get_or works n no_job) → map access_of (set works n w) ≡ map access_of works
accesses_kept [] n w e = refl
accesses_kept (x ∷ xs) zero w e = ap (λ (a : Accesses). a ∷ map access_of xs) e
accesses_kept (x ∷ xs) (suc n) w e = ap (λ (l : List Accesses). access_of x ∷ l) (accesses_kept xs n w e)

abbrev seen_of : Facts → List (Option Row) → PendingSeen
seen_of f r = record { facts = f; rows = r }

-- the same facts, with other rows
seen_as : (f g : Facts) (r q : List (Option Row)) → f ≡ g → r ≡ q → seen_of f r ≡ seen_of g q
seen_as f g r q a b = ap (λ (x : Facts). seen_of x r) a ∙ ap (seen_of g) b

facts_by : (f : Facts) (a b : List Accesses) → a ≡ b → record f { accesses = a } ≡ record f { accesses = b }
facts_by f a b e = ap (λ (x : List Accesses). record f { accesses = x }) e

-- the head, work and accesses of a transaction

pub head_is : (heads : List (Option Head)) (works : List Job) (on : List (Option TxId)) (tx : ℕ) → head_at heads tx ≡ option_map head_of (row_of (rows_by heads works on) tx)
head_is heads works on tx = sym (ap (option_map head_of) (rows_at heads works on tx) ∙ at (head_at heads tx)) where
  at : (h : Option Head) → option_map head_of (row_by h (get_or works tx no_job).work (waited_job heads (on_of on tx))) ≡ h
  at None = refl
  at (Some h) = refl

pub work_is : (heads : List (Option Head)) (works : List Job) (on : List (Option TxId)) (tx : ℕ) (job : Job) (row : Row) → tx < length works → job ≡ get_or works tx job → row_of (rows_by heads works on) tx ≡ Some row → job.work ≡ row.work
work_is heads works on tx job row lt e h =
    let f = fits heads works on tx row h in
    ap (λ (j : Job). j.work) (get_or_read works tx job lt e no_job) ∙ sym (ap (λ (r : Row). r.work) f.1.is)

-- two ticks that the test tells apart
pub not_same : (o : Option ℕ) (tick : ℕ) → false ≡ option_eq eqb o (Some tick) → o ≢ Some tick
not_same o tick h e = let t : option_eq eqb o (Some tick) ≡ true = ap (λ (q : Option ℕ). option_eq eqb q (Some tick)) e ∙ eq-eqb tick tick refl in cc (h, t)

-- the head that was read

pub head_read : (heads : List (Option Head)) (tx : ℕ) (read o : Option Head) → tx < length heads → read ≡ get_or heads tx read → read ≡ o → head_at heads tx ≡ o
head_read heads tx read o lt e is = sym (get_or_read heads tx read lt e None) ∙ is

pub head_now : (heads : List (Option Head)) (works : List Job) (on : List (Option TxId)) (tx : ℕ) (head : Head) (read : Option Head) → tx < length (rows_by heads works on) → read ≡ get_or heads tx read → read ≡ Some head → head_at heads tx ≡ Some head
head_now heads works on tx head read lt e is = sym (get_or_read heads tx read (omega (arith, lt, rows_length heads works on)) e None) ∙ is

pub no_head_no_row : (heads : List (Option Head)) (works : List Job) (on : List (Option TxId)) (tx : ℕ) (row : Row) (read : Option Head) → tx < length (rows_by heads works on) → read ≡ get_or heads tx read → read ≡ None → row_of (rows_by heads works on) tx ≡ Some row → ⊥
no_head_no_row heads works on tx row read lt e is h =
    let none : head_at heads tx ≡ None = sym (get_or_read heads tx read (omega (arith, lt, rows_length heads works on)) e None) ∙ is in
    let f = fits heads works on tx row h in
    let some = f.1.here in
    cc (none, some)

pub used_now : (heads : List (Option Head)) (works : List Job) (on : List (Option TxId)) (tx : ℕ) (head : Head) → head_at heads tx ≡ Some head → ((row : Row) → row_of (rows_by heads works on) tx ≡ Some row → row.used < 2 ^ 63) → head.used < 2 ^ 63
used_now heads works on tx head here small =
    small (record { job = head.job; release = head.release; used = head.used; work = (get_or works tx no_job).work; waits_on = waited_job heads (on_of on tx) })
    (rows_at heads works on tx ∙ ap (λ (o : Option Head). row_by o (get_or works tx no_job).work (waited_job heads (on_of on tx))) here)

pub head_seen : (heads : List (Option Head)) (works : List Job) (on : List (Option TxId)) (tx : ℕ) (head : Head) (row : Row) → head_at heads tx ≡ Some head → row_of (rows_by heads works on) tx ≡ Some row → head ≡ head_of row
head_seen heads works on tx head row here h =
    let f = fits heads works on tx row h in
    let same : Some head ≡ Some f.0 = sym here ∙ f.1.here in
    let one : head ≡ f.0 = cc in
    one ∙ sym (ap head_of f.1.is)

-- the least deadline

pub next_is : (deadlines : List ℕ) (rows : List (Option Row)) (o : Option ℕ) → IsLeast deadlines rows o → MatchOption o (pending rows ≡ []) (IsLeastDeadline deadlines rows)
next_is deadlines rows None none = at (pending rows) refl where
  at : (l : List Row) → pending rows ≡ l → l ≡ []
  at [] e = refl
  at (x ∷ xs) e = absurd (let p = pending_in rows x (subst (In x) (sym e) (inl refl)) in let no : row_of rows p.0 ≡ None = none p.0 in let yes = p.1 in cc (no, yes))
next_is deadlines rows (Some m) l = l

module _ (heads : List (Option Head)) (works : List Job) (held : Locks) (waiting : Waiting) (deadlines : List ℕ) (ranks : RankSet) (least : Option ℕ) (runs : Option JobId) (t : IsTable heads works held waiting deadlines ranks least runs) where
  abbrev rows : List (Option Row)
  rows = rows_by heads works waiting.on

  count : length rows ≡ length heads
  count = rows_length heads works waiting.on

  pub table_ranks : AreHeadRanks heads waiting.order ranks
  table_ranks = head_ranks heads works waiting.on waiting.order ranks t.agree.ranks

  pub table_early : (tx : ℕ) (head : Head) → head_at heads tx ≡ Some head → head.release < 2 ^ 63
  table_early = early_heads heads works waiting.on t.agree.early

  -- a release

  module _ (job : JobId) (tick rank d next : ℕ) (old w : Job) (ranks' : RankSet) (lt : job.tx.0 < length rows) (free : row_of rows job.tx.0 ≡ None) (small : tick < 2 ^ 63)
      (read : old ≡ get_or works job.tx.0 old) (clear : w ≡ record old { work = no_work }) (low : rank < length waiting.prios) (is : tx_of waiting.order rank ≡ job.tx.0) (more : With ranks ranks' rank)
      (read_d : d ≡ get_or deadlines job.tx.0 d) (earlier : next ≡ earlier_of (tick + d) least) where
    abbrev new_head : Option Head
    new_head = Some (record { job = job; release = tick; used = 0 })

    in_works : job.tx.0 < length works
    in_works = omega (arith, count, lt, t.heads_size, t.works_size)

    released_is : rows_by (set heads job.tx.0 new_head) (set works job.tx.0 w) waiting.on ≡ with_row tick rows job
    released_is =
        rows_released heads works waiting.on job tick w (omega (arith, count, lt)) in_works (not_waiting rows held waiting deadlines ranks least t.agree job.tx.0 free)
        (not_waited rows held waiting deadlines ranks least t.agree job.tx.0 free) (ap (λ (j : Job). j.work) clear)

    pub release_seen : seen (set heads job.tx.0 new_head) (set works job.tx.0 w) held waiting deadlines ≡ record (seen heads works held waiting deadlines) { rows = with_row tick rows job }
    release_seen =
        let same : access_of w ≡ access_of (get_or works job.tx.0 no_job) = ap access_of clear ∙ ap access_of (get_or_read works job.tx.0 old in_works read no_job) in
        seen_as _ _ _ _ (facts_by (seen heads works held waiting deadlines).facts _ _ (accesses_kept works job.tx.0 w same)) released_is

    release_agree : Agree (rows_by (set heads job.tx.0 new_head) (set works job.tx.0 w) waiting.on) held waiting deadlines ranks' (Some next)
    release_agree =
        let size : length deadlines ≡ length heads = omega (arith, t.agree.deadlines_size, t.heads_size) in
        let is_d : d ≡ get_or deadlines job.tx.0 0 = get_or_read deadlines job.tx.0 d (omega (arith, count, lt, size)) read_d 0 in
        let is_next : next ≡ earlier_of (tick + get_or deadlines job.tx.0 0) least = earlier ∙ ap (λ (m : ℕ). earlier_of (tick + m) least) is_d in
        let a = agree_released rows held waiting deadlines ranks least t.agree job tick rank ranks' lt free small (omega (arith, low, ap length t.agree.prios)) is more in
        subst (λ (n : ℕ). Agree (rows_by (set heads job.tx.0 new_head) (set works job.tx.0 w) waiting.on) held waiting deadlines ranks' (Some n)) (sym is_next)
        (subst (λ (r : List (Option Row)). Agree r held waiting deadlines ranks' (Some (earlier_of (tick + get_or deadlines job.tx.0 0) least))) (sym released_is) a)

    pub release_ranks : AreHeadRanks (set heads job.tx.0 new_head) waiting.order ranks'
    release_ranks = head_ranks (set heads job.tx.0 new_head) (set works job.tx.0 w) waiting.on waiting.order ranks' release_agree.ranks

    pub release_table : (runs' : Option JobId) → IsRunningJob (set heads job.tx.0 new_head) waiting ranks' runs' → IsTable (set heads job.tx.0 new_head) (set works job.tx.0 w) held waiting deadlines ranks' (Some next) runs'
    release_table runs' is_run = record {
      heads_size = length-set heads job.tx.0 new_head ∙ t.heads_size;
      works_size = length-set works job.tx.0 w ∙ t.works_size;
      agree = release_agree;
      running = is_run;
    }

  -- of a pending job

  module _ (tx : ℕ) (head : Head) (here : head_at heads tx ≡ Some head) where
    abbrev row : Row
    row = record { job = head.job; release = head.release; used = head.used; work = (get_or works tx no_job).work; waits_on = waited_job heads (on_of waiting.on tx) }

    row_is : row_of rows tx ≡ Some row
    row_is = rows_at heads works waiting.on tx ∙ ap (λ (o : Option Head). row_by o (get_or works tx no_job).work (waited_job heads (on_of waiting.on tx))) here

    pub named : row.job.tx.0 ≡ tx
    named = t.agree.named tx row row_is

    fit : Fits heads works waiting.on tx head row
    fit = record { here = here; is = refl }

    within : tx < length rows
    within = in_range rows tx row row_is

    pub in_heads : tx < length heads
    in_heads = omega (arith, count, within)

    in_works_too : tx < length works
    in_works_too = omega (arith, in_heads, t.heads_size, t.works_size)

    the_row : (r : Row) → row_of rows tx ≡ Some r → row ≡ r
    the_row r h = some_is row r (sym row_is ∙ h)

    -- its deadline is a tick
    pub due_fits : (d : ℕ) → d ≡ get_or deadlines tx d → head.release + d < 2 ^ 64
    due_fits d read =
        let is_d : d ≡ get_or deadlines tx 0 = get_or_read deadlines tx d (omega (arith, in_heads, t.heads_size, t.agree.deadlines_size)) read 0 in
        omega (arith, is_d, t.agree.soon tx, table_early tx head here)

    -- a step

    module _ (held' : Locks) (items : List Stored) (op : Op) (old w : Job) (low : HasItem (length held.ceilings) op) (changes : Changes held held' (op_locked_at held tx op))
        (read : old ≡ get_or works tx old) (noted : w ≡ job_after items op old) where
      abbrev stepped_head : Option Head
      stepped_head = Some (record { job = head.job; release = head.release; used = head.used + 1 })

      old_is : old ≡ get_or works tx no_job
      old_is = get_or_read works tx old in_works_too read no_job

      stepped_is : rows_by (set heads tx stepped_head) (set works tx w) waiting.on ≡ rows_stepped rows items op row
      stepped_is =
          rows_after_step heads works waiting.on tx head row items op w in_heads in_works_too fit named
          (ap (λ (j : Job). j.work) noted ∙ ap (λ (j : Job). work_after items j.work op) old_is)

      pub step_seen : (r : Row) → row_of rows tx ≡ Some r → seen (set heads tx stepped_head) (set works tx w) held' waiting deadlines ≡ record (seen heads works held waiting deadlines) { rows = rows_stepped rows items op r }
      step_seen r h =
          let same : access_of w ≡ access_of (get_or works tx no_job) = ap access_of noted ∙ ap access_of old_is in
          seen_as _ _ _ _
          (ap (λ (c : List CeilRow). record { ceilings = c; prios = held'.prios; deadlines = deadlines; accesses = map access_of (set works tx w) }) changes.ceilings
          ∙ (ap (λ (p : List ℕ). record { ceilings = held.ceilings; prios = p; deadlines = deadlines; accesses = map access_of (set works tx w) }) changes.prios
          ∙ facts_by (seen heads works held waiting deadlines).facts _ _ (accesses_kept works tx w same)))
          (stepped_is ∙ ap (rows_stepped rows items op) (the_row r h))

      same_job_at : (n : ℕ) → option_map (λ h. h.job) (head_at (set heads tx stepped_head) n) ≡ option_map (λ h. h.job) (head_at heads n)
      same_job_at n =
          elim (cases_eq n tx) [
            | inl e ↦ ap (λ (k : ℕ). option_map (λ (h : Head). h.job) (head_at (set heads tx stepped_head) k)) e
                ∙ (ap (option_map (λ (h : Head). h.job)) (get_or-set_same heads tx stepped_head None in_heads)
                ∙ (ap (option_map (λ (h : Head). h.job)) (sym here) ∙ ap (λ (k : ℕ). option_map (λ (h : Head). h.job) (head_at heads k)) (sym e)))
            | inr ne ↦ ap (option_map (λ (h : Head). h.job)) (get_or-set_other heads tx n stepped_head None ne)
          ]

      still_runs : IsRunningJob heads waiting ranks runs → IsRunningJob (set heads tx stepped_head) waiting ranks runs
      still_runs (inl none) = inl none
      still_runs (inr one) = inr (record { tx = one.tx; dispatched = one.dispatched; is = one.is ∙ sym (same_job_at one.tx.0) })

      pub step_table : IsTable (set heads tx stepped_head) (set works tx w) held' waiting deadlines ranks least runs
      step_table =
          let prios : length held'.prios ≡ length held.prios = ap length changes.prios in
          record {
            heads_size = omega (arith, prios, length-set heads tx stepped_head, t.heads_size);
            works_size = omega (arith, prios, length-set works tx w, t.works_size);
            agree = subst (λ (q : List (Option Row)). Agree q held' waiting deadlines ranks least) (sym stepped_is)
                (agree_stepped rows held waiting deadlines ranks least t.agree tx row row_is held' items op low changes named);
            running = still_runs t.running;
          }

    -- an end

    module _ (held' : Locks) (waiting' : Waiting) (ranks' : RankSet) (rank : ℕ) (locks : Changes held held' (released_at held tx)) (changes : WaitChanges waiting waiting' (freed_at waiting tx))
        (low : rank < length waiting'.prios) (is : tx_of waiting'.order rank ≡ tx) (without : Without ranks ranks' rank) where
      abbrev rows_left : List (Option Row)
      rows_left = rows_by (set heads tx None) works waiting'.on

      ended_is : rows_left ≡ rows_ended rows row
      ended_is = rows_after_end heads works waiting.on waiting'.on tx head row in_heads fit named (λ n h e. (let r = row_here heads works waiting.on n h e in ap (λ (j : JobId). j.tx.0) (sym r.2) ∙ t.agree.named n r.0 r.1)) changes.on

      -- the rows that are left, as the map of those before
      left_is : map (option_map (freed row.job)) (set rows tx None) ≡ rows_left
      left_is = ap (λ (n : ℕ). map (option_map (freed row.job)) (set rows n None)) (sym named) ∙ sym ended_is

      low_was : rank < length held.prios
      low_was = omega (arith, low, ap length changes.prios, ap length t.agree.prios)

      is_was : tx_of waiting.order rank ≡ tx
      is_was = ap (λ (o : List TxId). tx_of o rank) (sym changes.order) ∙ is

      pub end_seen : (r : Row) → row_of rows tx ≡ Some r → seen (set heads tx None) works held' waiting' deadlines ≡ record (seen heads works held waiting deadlines) { rows = rows_ended rows r }
      end_seen r h =
          seen_as _ _ _ _
          (ap (λ (c : List CeilRow). record { ceilings = c; prios = held'.prios; deadlines = deadlines; accesses = map access_of works }) locks.ceilings
          ∙ ap (λ (p : List ℕ). record { ceilings = held.ceilings; prios = p; deadlines = deadlines; accesses = map access_of works }) locks.prios)
          (ended_is ∙ ap (rows_ended rows) (the_row r h))

      end_with : (o : Option ℕ) (runs' : Option JobId) → IsLeast deadlines rows_left o → IsRunningJob (set heads tx None) waiting' ranks' runs' → IsTable (set heads tx None) works held' waiting' deadlines ranks' o runs'
      end_with o runs' l is_run =
          let prios : length held'.prios ≡ length held.prios = ap length locks.prios in
          record {
            heads_size = omega (arith, prios, length-set heads tx None, t.heads_size);
            works_size = omega (arith, prios, t.works_size);
            agree = subst (λ (q : List (Option Row)). Agree q held' waiting' deadlines ranks' o) left_is
                (agree_ended rows held waiting deadlines ranks least t.agree tx row row_is held' waiting' ranks' rank locks changes low_was is_was without o (subst (λ (q : List (Option Row)). IsLeast deadlines q o) (sym left_is) l));
            running = is_run;
          }

      -- where the least deadline is another's
      pub end_table_kept : (d : ℕ) (runs' : Option JobId) → d ≡ get_or deadlines tx d → least ≢ Some (head.release + d) → IsRunningJob (set heads tx None) waiting' ranks' runs' → IsTable (set heads tx None) works held' waiting' deadlines ranks' least runs'
      end_table_kept d runs' read ne is_run =
          let is_d : d ≡ get_or deadlines tx 0 = get_or_read deadlines tx d (omega (arith, in_heads, t.heads_size, t.agree.deadlines_size)) read 0 in
          let due : head.release + d ≡ deadline_of deadlines row = ap (λ (m : ℕ). head.release + m) is_d ∙ ap (λ (m : ℕ). head.release + get_or deadlines m 0) (sym named) in
          end_with least runs' (subst (λ (q : List (Option Row)). IsLeast deadlines q least) left_is
          (least_stays rows held waiting deadlines ranks least t.agree tx row row_is held' waiting' ranks' rank locks changes low_was is_was without least t.agree.least (λ e. ne (e ∙ ap Some (sym due))))) is_run

      -- what the loop over the ranks wants, and what it gives

      pub left_ranks : AreHeadRanks (set heads tx None) waiting'.order ranks'
      left_ranks =
          head_ranks (set heads tx None) works waiting'.on waiting'.order ranks'
          (subst (λ (q : List (Option Row)). AreRanks q waiting'.order ranks') left_is
          (end_ranks rows held waiting deadlines ranks least t.agree tx row row_is held' waiting' ranks' rank locks changes low_was is_was without))

      pub left_early : (n : ℕ) (h : Head) → head_at (set heads tx None) n ≡ Some h → h.release < 2 ^ 63
      left_early =
          early_heads (set heads tx None) works waiting'.on
          (subst (λ (q : List (Option Row)). (n : ℕ) (r : Row) → row_of q n ≡ Some r → r.release < 2 ^ 63) left_is
          (end_early rows held waiting deadlines ranks least t.agree tx row row_is held' waiting' ranks' rank locks changes low_was is_was without))

      left_named : (n : ℕ) (r : Row) → row_of rows_left n ≡ Some r → r.job.tx.0 ≡ n
      left_named =
          subst (λ (q : List (Option Row)). (n : ℕ) (r : Row) → row_of q n ≡ Some r → r.job.tx.0 ≡ n) left_is
          (end_named rows held waiting deadlines ranks least t.agree tx row row_is held' waiting' ranks' rank locks changes low_was is_was without)

      pub end_table_new : (o : Option ℕ) (runs' : Option JobId) → MatchOption o ((r : ℕ) → r < length (set heads tx None) → head_with (set heads tx None) waiting'.order r ≡ None) (IsLeastOfHeads (set heads tx None) deadlines waiting'.order)
          → IsRunningJob (set heads tx None) waiting' ranks' runs' → IsTable (set heads tx None) works held' waiting' deadlines ranks' o runs'
      end_table_new o runs' l is_run =
          end_with o runs' (least_of_rows (set heads tx None) works waiting'.on deadlines held.prios waiting'.order (length-set heads tx None ∙ t.heads_size)
          (subst (IsOrder held.prios) (sym changes.order) t.agree.order) left_named o l) is_run

  -- a wait

  waits_none_at : (o : Option TxId) (n : ℕ) → on_of waiting.on n ≡ o → waited_job heads o ≡ None → o ≡ None
  waits_none_at None n e h = refl
  waits_none_at (Some u) n e h =
      let w = t.agree.waits n u e in
      let some : is_some (head_at heads u.0) ≡ true = sym (head_here heads works waiting.on u.0) ∙ w.blocker in
      absurd (at (head_at heads u.0) some h) where
        at : (p : Option Head) → is_some p ≡ true → option_map (λ (x : Head). x.job) p ≡ None → ⊥
        at None a b = cc
        at (Some x) a b = cc

  -- a row that waits on nobody, in the table of waits
  waits_none : (n : ℕ) (r : Row) → row_of rows n ≡ Some r → r.waits_on ≡ None → on_of waiting.on n ≡ None
  waits_none n r h e =
      let f = fits heads works waiting.on n r h in
      waits_none_at (on_of waiting.on n) n refl (sym (ap (λ (q : Row). q.waits_on) f.1.is) ∙ e)

  module _ (tx : ℕ) (on : JobId) (lt : tx < length rows) (may : MayWait rows tx on) where
    pub wait_free : on_of waiting.on tx ≡ None
    wait_free = waits_none tx may.waiter may.pending may.free

    pub wait_on_free : on_of waiting.on on.tx.0 ≡ None
    wait_on_free = waits_none on.tx.0 may.blocker may.here may.runs

    pub wait_nobody : (n : ℕ) (u : TxId) → on_of waiting.on n ≡ Some u → u.0 ≢ tx
    wait_nobody n u e q = at (row_of rows n) refl where
      at : (o : Option Row) → row_of rows n ≡ o → ⊥
      at None h = (let no : is_some (row_of rows n) ≡ false = ap is_some h in let yes = (t.agree.waits n u e).waiter in cc (no, yes))
      at (Some r) h =
          let f = fits heads works waiting.on n r h in
          let some : is_some (head_at heads u.0) ≡ true = sym (head_here heads works waiting.on u.0) ∙ (t.agree.waits n u e).blocker in
          head_or (head_at heads u.0) refl some where
            head_or : (p : Option Head) → head_at heads u.0 ≡ p → is_some p ≡ true → ⊥
            head_or None a b = cc
            head_or (Some x) a b =
                let f = fits heads works waiting.on n r h in
                let on_is : r.waits_on ≡ Some x.job = ap (λ (y : Row). y.waits_on) f.1.is ∙ (ap (waited_job heads) e ∙ ap (option_map (λ (y : Head). y.job)) a) in
                let own : x.job.tx.0 ≡ u.0 = (let k = row_here heads works waiting.on u.0 x a in ap (λ (j : JobId). j.tx.0) (sym k.2) ∙ t.agree.named u.0 k.0 k.1) in
                may.no_waiters n r x.job h on_is (own ∙ q)

    module _ (waiting' : Waiting) (changes : WaitChanges waiting waiting' (λ n. cond (n == tx) (Some on.tx) (on_of waiting.on n))) where
      waited_is : (r : Row) → row_of rows tx ≡ Some r → rows_by heads works waiting'.on ≡ rows_waiting rows r on
      waited_is r h =
          let f = fits heads works waiting.on tx r h in
          let b = fits heads works waiting.on on.tx.0 may.blocker may.here in
          rows_after_wait heads works waiting.on waiting'.on tx f.0 b.0 r on (omega (arith, count, lt)) f.1 (t.agree.named tx r h) b.1.here (sym (ap (λ (q : Row). q.job) b.1.is) ∙ may.is) changes.on

      pub wait_seen : (r : Row) → row_of rows tx ≡ Some r → seen heads works held waiting' deadlines ≡ record (seen heads works held waiting deadlines) { rows = rows_waiting rows r on }
      wait_seen r h = seen_as _ _ _ _ refl (waited_is r h)

      pub wait_ranks : AreHeadRanks heads waiting'.order ranks
      wait_ranks = subst (λ (o : List TxId). AreHeadRanks heads o ranks) (sym changes.order) table_ranks

      pub wait_table : (runs' : Option JobId) → IsRunningJob heads waiting' ranks runs' → IsTable heads works held waiting' deadlines ranks least runs'
      wait_table runs' is_run = record {
        heads_size = t.heads_size;
        works_size = t.works_size;
        agree = subst (λ (q : List (Option Row)). Agree q held waiting' deadlines ranks least) (sym (waited_is may.waiter may.pending))
            (agree_waiting rows held waiting deadlines ranks least t.agree tx may.waiter may.pending waiting' on changes wait_free wait_on_free wait_nobody may.differ (ap is_some may.here) (t.agree.named tx may.waiter may.pending));
        running = is_run;
      }
