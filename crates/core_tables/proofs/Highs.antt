-- The highest of the pending rows by the ranks, the due one, and the running one.
use Rattle.std.proofs.Common.{◌≡◌, ◌⊎◌, ℕ, zero, suc, ◌+◌, ◌^◌, ◌<◌, ◌≤◌, ◌==◌, Bool, true, false, cond, List, length, Option, None, Some, get_or, refl, ap, sym, ◌∙◌, subst, inl, inr, arith}
use Rattle.std.proofs.lemmas.Bool.{cases_lt, cases_order, eq-eqb, eqb-true}
use Rattle.std.proofs.Math.ListN.{get_or-map}
use Rattle.std.specs.Prelude.{is_some, MatchOption}
use Rattle.std.specs.List.{filter}
use Rattle.std.specs.Option.{option_map, option_and_then}
use Rattle.rt_base.specs.declared.ids.JobId.{JobId}
use Rattle.rt_base.specs.declared.ids.TxId.{TxId}
use Rattle.rt_base.specs.declared.rank_set.RankSet.{RankSet}
use Rattle.rt_base.specs.Ranks.{has_rank, IsLeastRank}
use Rattle.rt_base.specs.Running.{followed as following}
use Rattle.inherit_prio.specs.Waits.{IsOrder, prio_of, on_of, tx_of}
use Rattle.dispatch_core.specs.Dispatch.{IsRunning}
use Rattle.strict_commit.specs.Jobs.{Job}
use Rattle.txn_set.specs.declared.decl.TxnDecl.{TxnDecl}
use Rattle.txn_set.specs.Set.{Set, no_txn, txn_of}
use Rattle.step_journal.specs.State.{Row, row_of, pending, prio, same_job}
use Rattle.step_journal.specs.LockRule.{highest}
use Rattle.step_journal.specs.Running.{running, followed, job_row, of_job}
use Rattle.step_journal.specs.Instant.{is_due}
use Rattle.law_histories.proofs.Members.{In, in_filter, filter_in, in_pending, pending_in, highest_is, highest_none}
use Rattle.law_histories.proofs.Invariant.{in_range}
use Rattle.core_tables.specs.declared.head.Head.{Head}
use Rattle.core_tables.specs.Rows.{Facts, Accesses, AreFactsOf}
use Rattle.ceiling_table.specs.declared.CeilRow.{CeilRow}
use Rattle.core_tables.specs.Deadlines.{deadline_of}
use Rattle.core_tables.specs.PendingTables.{head_at, head_with, no_job, waited_job, row_by, rows_by, IsWait, AreRanks, IsLeast, AreHeadRanks, HasDeadline, NotDue, IsFirstDue, IsLeastOfHeads}
use Rattle.core_tables.proofs.RowsBy.{rows_length, rows_at, head_here, fits}

-- what a set says of a transaction, by the lists of its priorities and deadlines

pub deadline_is : (set : Set) (facts : Facts) (n : ℕ) → AreFactsOf set facts → get_or facts.deadlines n 0 ≡ (txn_of set n).deadline
deadline_is set facts n f = ap (λ (l : List ℕ). get_or l n 0) f.deadlines ∙ get_or-map (λ (t : TxnDecl). t.deadline) set.txns n no_txn

pub prio_is : (set : Set) (facts : Facts) (n : ℕ) → AreFactsOf set facts → prio_of facts.prios n ≡ (txn_of set n).prio
prio_is set facts n f = ap (λ (l : List ℕ). get_or l n 0) f.prios ∙ get_or-map (λ (t : TxnDecl). t.prio) set.txns n no_txn

-- the one row of a list that is higher than each other is the highest
pub highest_by : (set : Set) (rs : List Row) (top : Row) → In top rs → ((y : Row) → In y rs → (y ≡ top) ⊎ (prio set y < prio set top)) → highest set rs ≡ Some top
highest_by set rs top here above = at (highest set rs) refl where
  at : (o : Option Row) → highest set rs ≡ o → o ≡ Some top
  at None e = absurd (subst (In top) (highest_none set rs e) here)
  at (Some h) e =
      let is = highest_is set rs h e in
      elim (above h is.here) [ inl same ↦ ap Some same | inr lower ↦ absurd (let le : prio set top ≤ prio set h = is.above top here in omega (arith, lower)) ]

-- the ranks of the rows are those of the heads
pub head_ranks : (heads : List (Option Head)) (works : List Job) (on : List (Option TxId)) (order : List TxId) (ranks : RankSet) → AreRanks (rows_by heads works on) order ranks → AreHeadRanks heads order ranks
head_ranks heads works on order ranks a = record {
  within = λ r lt. a.within r (omega (arith, rows_length heads works on)) ∙ head_here heads works on (tx_of order r);
  beyond = λ r ge. a.beyond r (omega (arith, rows_length heads works on));
}

-- the row of a head
pub row_here : (heads : List (Option Head)) (works : List Job) (on : List (Option TxId)) (tx : ℕ) (head : Head) → head_at heads tx ≡ Some head
    → (row : Row) × (row_of (rows_by heads works on) tx ≡ Some row) × (row.job ≡ head.job) × (row.release ≡ head.release) × (row.waits_on ≡ waited_job heads (on_of on tx))
row_here heads works on tx head h = (
  record { job = head.job; release = head.release; used = head.used; work = (get_or works tx no_job).work; waits_on = waited_job heads (on_of on tx) },
  rows_at heads works on tx ∙ ap (λ (o : Option Head). row_by o (get_or works tx no_job).work (waited_job heads (on_of on tx))) h,
  refl,
  refl,
  refl,
)

pub early_heads : (heads : List (Option Head)) (works : List Job) (on : List (Option TxId)) → ((tx : ℕ) (row : Row) → row_of (rows_by heads works on) tx ≡ Some row → row.release < 2 ^ 63) → (tx : ℕ) (head : Head) → head_at heads tx ≡ Some head → head.release < 2 ^ 63
early_heads heads works on early tx head h = let r = row_here heads works on tx head h in let e : r.0.release < 2 ^ 63 = early tx r.0 r.1 in omega (arith, e, r.3)

-- heads and rows by an order
module _ (heads : List (Option Head)) (works : List Job) (on : List (Option TxId)) (deadlines prios : List ℕ) (order : List TxId) (size : length heads ≡ length prios) (ordered : IsOrder prios order)
    (named : (tx : ℕ) (row : Row) → row_of (rows_by heads works on) tx ≡ Some row → row.job.tx.0 ≡ tx) where
  abbrev rows : List (Option Row)
  rows = rows_by heads works on

  count : length rows ≡ length heads
  count = rows_length heads works on

  pub head_named : (tx : ℕ) (head : Head) → head_at heads tx ≡ Some head → head.job.tx.0 ≡ tx
  head_named tx head h = let r = row_here heads works on tx head h in ap (λ (j : JobId). j.tx.0) (sym r.2) ∙ named tx r.0 r.1

  -- the rank of a row
  pub rank_of : (n : ℕ) (row : Row) → row_of rows n ≡ Some row → (rank : ℕ) × (rank < length heads) × (tx_of order rank ≡ n)
  rank_of n row h = let lt : n < length rows = in_range rows n row h in let r = ordered.all n (omega (arith, count, size)) in (r.0, omega (arith, r.1, size), r.2)

  -- the deadline of a row is that of the head of its rank
  pub deadline_here : (n : ℕ) (row : Row) → row_of rows n ≡ Some row → (rank : ℕ) × (head : Head) × HasDeadline heads deadlines order rank head (deadline_of deadlines row) × (tx_of order rank ≡ n) × (head.job ≡ row.job)
  deadline_here n row h =
      let r = rank_of n row h in
      let f = fits heads works on n row h in
      let job : row.job ≡ f.0.job = ap (λ (q : Row). q.job) f.1.is in
      let release : row.release ≡ f.0.release = ap (λ (q : Row). q.release) f.1.is in
      let own : row.job.tx.0 ≡ n = named n row h in (
        r.0,
        f.0,
        record {
          within = r.1;
          here = ap (head_at heads) r.2 ∙ f.1.here;
          is = ap (λ (m : ℕ). f.0.release + get_or deadlines m 0) (r.2 ∙ sym own) ∙ ap (λ (m : ℕ). m + get_or deadlines row.job.tx.0 0) (sym release);
        },
        r.2,
        sym job,
      )

  -- and the other way round
  pub row_due : (rank tick : ℕ) (head : Head) → HasDeadline heads deadlines order rank head tick → (row : Row) × (row_of rows (tx_of order rank) ≡ Some row) × (deadline_of deadlines row ≡ tick) × (row.job ≡ head.job)
  row_due rank tick head d =
      let r = row_here heads works on (tx_of order rank) head d.here in
      let own : r.0.job.tx.0 ≡ tx_of order rank = named (tx_of order rank) r.0 r.1 in
      (r.0, r.1, ap (λ (m : ℕ). m + get_or deadlines r.0.job.tx.0 0) r.3 ∙ (ap (λ (m : ℕ). head.release + get_or deadlines m 0) own ∙ d.is), r.2)

  -- the least deadline of the heads is that of the rows
  pub least_of_rows : (o : Option ℕ) → MatchOption o ((rank : ℕ) → rank < length heads → head_with heads order rank ≡ None) (IsLeastOfHeads heads deadlines order) → IsLeast deadlines rows o
  least_of_rows None none = λ tx.
      none_at tx (row_of rows tx) refl where
        none_at : (tx : ℕ) (o : Option Row) → row_of rows tx ≡ o → o ≡ None
        none_at tx None e = refl
        none_at tx (Some row) e = let d = deadline_here tx row e in absurd (let no = none d.0 d.2.within in let yes = d.2.here in cc (no, yes))
  least_of_rows (Some m) l =
      let r = row_due l.rank m l.head l.at in
      record {
        tx = tx_of order l.rank;
        row = r.0;
        here = r.1;
        is = r.2;
        least = λ n other h. let d = deadline_here n other h in l.least d.0 d.1 (deadline_of deadlines other) d.2;
      }

  -- the rows of a set

  module _ (set : Set) (ceilings : List CeilRow) (accesses : List Accesses) (f : AreFactsOf set (record { ceilings = ceilings; prios = prios; deadlines = deadlines; accesses = accesses })) where
    abbrev facts : Facts
    facts = record { ceilings = ceilings; prios = prios; deadlines = deadlines; accesses = accesses }

    prio_at : (n : ℕ) (row : Row) → row_of rows n ≡ Some row → prio set row ≡ prio_of prios n
    prio_at n row h = ap (λ (m : ℕ). (txn_of set m).prio) (named n row h) ∙ sym (prio_is set facts n f)

    -- of two rows the one with the lesser rank is higher
    pub higher : (i j n m : ℕ) (x y : Row) → i < j → j < length heads → tx_of order i ≡ n → tx_of order j ≡ m → row_of rows n ≡ Some x → row_of rows m ≡ Some y → prio set y < prio set x
    higher i j n m x y lt low ei ej hx hy =
        let fall : prio_of prios (tx_of order j) < prio_of prios (tx_of order i) = ordered.falling i j lt (omega (arith, size)) in
        omega (arith, fall, prio_at n x hx, prio_at m y hy, ap (prio_of prios) ei, ap (prio_of prios) ej)

    is_due_at : (tick n : ℕ) (row : Row) → row_of rows n ≡ Some row → is_due set tick row ≡ (deadline_of deadlines row == tick)
    is_due_at tick n row h = ap (λ (m : ℕ). row.release + m == tick) (sym (deadline_is set facts row.job.tx.0 f))

    -- the first due job by the ranks is the highest due one
    pub due_is : (tick : ℕ) (o : Option JobId) → MatchOption o ((rank : ℕ) → NotDue heads deadlines order tick rank) (IsFirstDue heads deadlines order tick) → o ≡ option_map (λ r. r.job) (highest set (filter (is_due set tick) (pending rows)))
    due_is tick None none = at (highest set (filter (is_due set tick) (pending rows))) refl where
      at : (h : Option Row) → highest set (filter (is_due set tick) (pending rows)) ≡ h → None ≡ option_map (λ (r : Row). r.job) h
      at None e = refl
      at (Some h) e =
          let i = filter_in (is_due set tick) h (pending rows) (highest_is set _ h e).here in
          let p = pending_in rows h i.0 in
          let d = deadline_here p.0 h p.1 in
          let due : deadline_of deadlines h ≡ tick = eqb-true _ _ (sym (is_due_at tick p.0 h p.1) ∙ i.1) in
          absurd (none d.0 d.1 (subst (HasDeadline heads deadlines order d.0 d.1) due d.2))
    due_is tick (Some job) first =
        let r = row_due first.rank tick first.head first.at in
        let n : ℕ = tx_of order first.rank in
        let passes : is_due set tick r.0 ≡ true = is_due_at tick n r.0 r.1 ∙ eq-eqb _ _ r.2 in
        let top : highest set (filter (is_due set tick) (pending rows)) ≡ Some r.0 = highest_by set _ r.0 (in_filter (is_due set tick) r.0 (pending rows) (in_pending rows n r.0 r.1) passes) (λ y k. above y k) in
        sym (ap (option_map (λ (r : Row). r.job)) top ∙ ap Some (r.3 ∙ first.is)) where
          above : (y : Row) → In y (filter (is_due set tick) (pending rows)) → (y ≡ (row_due first.rank tick first.head first.at).0) ⊎ (prio set y < prio set (row_due first.rank tick first.head first.at).0)
          above y k =
              let r = row_due first.rank tick first.head first.at in
              let i = filter_in (is_due set tick) y (pending rows) k in
              let p = pending_in rows y i.0 in
              let d = deadline_here p.0 y p.1 in
              let due : deadline_of deadlines y ≡ tick = eqb-true _ _ (sym (is_due_at tick p.0 y p.1) ∙ i.1) in
              elim (cases_order d.0 first.rank) [
                | inl e ↦ (
                    let same : p.0 ≡ tx_of order first.rank = sym d.3 ∙ ap (tx_of order) e in
                    let rows_same : Some y ≡ Some r.0 = sym p.1 ∙ (ap (row_of rows) same ∙ r.1) in
                    inl cc)
                | inr (inl lt) ↦ absurd (first.first d.0 lt d.1 (subst (HasDeadline heads deadlines order d.0 d.1) due d.2))
                | inr (inr gt) ↦ inr (higher first.rank d.0 (tx_of order first.rank) p.0 r.0 y gt d.2.within refl d.3 r.1 p.1)
              ]

    -- the running one

    job_row_at : (n : ℕ) (b : Row) (j : JobId) → row_of rows n ≡ Some b → b.job ≡ j → job_row rows j ≡ Some b
    job_row_at n b j h e =
        let here : row_of rows j.tx.0 ≡ Some b = ap (row_of rows) (ap (λ (q : JobId). q.tx.0) (sym e) ∙ named n b h) ∙ h in
        ap (option_and_then (of_job j)) here ∙ own (same_job b.job j) (subst (λ (q : JobId). same_job b.job q ≡ true) e (grind (arith, eq-eqb b.job.tx.0 b.job.tx.0 refl, eq-eqb b.job.serial b.job.serial refl))) where
          own : (c : Bool) → c ≡ true → cond c (Some b) None ≡ Some b
          own true e = refl
          own false e = absurd cc

    module _ (ends : (tx : ℕ) (u : TxId) → on_of on tx ≡ Some u → IsWait rows on tx u) where
      -- where the row of n waits on the one of u
      link : (n : ℕ) (u : TxId) (x : Row) → row_of rows n ≡ Some x → on_of on n ≡ Some u → (b : Row) × (row_of rows u.0 ≡ Some b) × (x.waits_on ≡ Some b.job) × (b.waits_on ≡ None)
      link n u x hx e = at (row_of rows u.0) refl where
        at : (o : Option Row) → row_of rows u.0 ≡ o → (b : Row) × (row_of rows u.0 ≡ Some b) × (x.waits_on ≡ Some b.job) × (b.waits_on ≡ None)
        at None q = absurd (let w = ends n u e in let gone : is_some (row_of rows u.0) ≡ false = ap is_some q in let yes = w.blocker in cc (gone, yes))
        at (Some b) q =
            let w = ends n u e in
            let fx = fits heads works on n x hx in
            let fb = fits heads works on u.0 b q in
            let job : waited_job heads (Some u) ≡ Some b.job = ap (option_map (λ (h : Head). h.job)) fb.1.here ∙ ap Some (sym (ap (λ (r : Row). r.job) fb.1.is)) in
            (b, q, ap (λ (r : Row). r.waits_on) fx.1.is ∙ (ap (waited_job heads) e ∙ job), ap (λ (r : Row). r.waits_on) fb.1.is ∙ ap (waited_job heads) w.ends)

      follow : (k n : ℕ) (x : Row) (o : Option TxId) (tx : ℕ) → row_of rows n ≡ Some x → on_of on n ≡ o → following {A = ℕ} {B = ℕ} Some (λ m. option_map (λ (t : TxId). t.0) (on_of on m)) (suc k) n (option_map (λ (t : TxId). t.0) o) ≡ Some tx
          → (y : Row) × (row_of rows tx ≡ Some y) × (followed rows (suc k) x x.waits_on ≡ Some y)
      follow k n x None tx hx e h =
          let f = fits heads works on n x hx in
          let free : x.waits_on ≡ None = ap (λ (r : Row). r.waits_on) f.1.is ∙ ap (waited_job heads) e in
          let same : n ≡ tx = cc in
          (x, ap (row_of rows) (sym same) ∙ hx, ap (followed rows (suc k) x) free)
      follow k n x (Some u) tx hx e h =
          let l = link n u x hx e in
          let w = ends n u e in
          let at : following {A = ℕ} {B = ℕ} Some (λ m. option_map (λ (t : TxId). t.0) (on_of on m)) k u.0 (option_map (λ (t : TxId). t.0) (on_of on u.0)) ≡ Some tx = h in
          let last : following {A = ℕ} {B = ℕ} Some (λ m. option_map (λ (t : TxId). t.0) (on_of on m)) k u.0 None ≡ Some tx = subst (λ (o : Option TxId). following {A = ℕ} {B = ℕ} Some (λ m. option_map (λ (t : TxId). t.0) (on_of on m)) k u.0 (option_map (λ (t : TxId). t.0) o) ≡ Some tx) w.ends at in
          let same : u.0 ≡ tx = cc in (
            l.0,
            ap (row_of rows) (sym same) ∙ l.1,
            ap (followed rows (suc k) x) l.2
                ∙ (ap (option_and_then (λ (r : Row). followed rows k r r.waits_on)) (job_row_at u.0 l.0 l.0.job l.1 refl)
                ∙ ap (followed rows k l.0) l.3),
          )

      -- with these ranks

      module _ (ranks : RankSet) (are : AreRanks rows order ranks) where
        top_at : (rank : ℕ) → IsLeastRank ranks rank → (o : Option Row) → row_of rows (tx_of order rank) ≡ o → (top : Row) × (row_of rows (tx_of order rank) ≡ Some top) × (rank < length heads)
        top_at rank is o e = low_or (cases_lt rank (length rows)) where
          low_or : (rank < length rows) ⊎ (length rows ≤ rank) → (top : Row) × (row_of rows (tx_of order rank) ≡ Some top) × (rank < length heads)
          low_or (inl lt) = some_or o e where
            some_or : (o : Option Row) → row_of rows (tx_of order rank) ≡ o → (top : Row) × (row_of rows (tx_of order rank) ≡ Some top) × (rank < length heads)
            some_or None q = absurd (let a : true ≡ false = sym is.has ∙ (are.within rank lt ∙ ap is_some q) in cc (a))
            some_or (Some x) q = (x, q, omega (arith, count))
          low_or (inr ge) = absurd (let a : true ≡ false = sym is.has ∙ are.beyond rank ge in cc (a))

        rank_has : (n : ℕ) (y : Row) → row_of rows n ≡ Some y → (r : ℕ) × (has_rank ranks r ≡ true) × (r < length heads) × (tx_of order r ≡ n)
        rank_has n y h = let r = rank_of n y h in (r.0, are.within r.0 (omega (arith, count, r.1)) ∙ ap is_some (ap (row_of rows) r.2 ∙ h), r.1, r.2)

        highest_at : (rank : ℕ) (top : Row) → IsLeastRank ranks rank → rank < length heads → row_of rows (tx_of order rank) ≡ Some top → highest set (pending rows) ≡ Some top
        highest_at rank top is low here = highest_by set (pending rows) top (in_pending rows (tx_of order rank) top here) (λ y i.
            let p = pending_in rows y i in
            let r = rank_has p.0 y p.1 in
            elim (cases_order r.0 rank) [
              | inl e ↦ (let same : Some y ≡ Some top = sym p.1 ∙ (ap (row_of rows) (sym r.3 ∙ ap (tx_of order) e) ∙ here) in inl cc)
              | inr (inl lt) ↦ absurd (let no : true ≡ false = sym r.1 ∙ is.least r.0 lt in cc (no))
              | inr (inr gt) ↦ inr (higher rank r.0 (tx_of order rank) p.0 top y gt r.2 refl r.3 here p.1)
            ])

        one_more : (n : ℕ) → 0 < n → (k : ℕ) × (n ≡ suc k)
        one_more zero lt = absurd (omega arith)
        one_more (suc k) lt = (k, refl)

        -- the running row is that of the transaction which is dispatched
        pub running_is : (tx : TxId) → IsRunning ranks (record { prios = prios; order = order; on = on }) tx → running set rows ≡ row_of rows tx.0
        unfolding running
        running_is tx r =
            let top = top_at r.rank r.highest (row_of rows (tx_of order r.rank)) refl in
            let k = one_more (length rows) (omega (arith, count, top.2)) in
            let end : following {A = ℕ} {B = ℕ} Some (λ m. option_map (λ (t : TxId). t.0) (on_of on m)) (suc k.0) (tx_of order r.rank) (option_map (λ (t : TxId). t.0) (on_of on (tx_of order r.rank))) ≡ Some tx.0 =
            subst (λ (n : ℕ). following {A = ℕ} {B = ℕ} Some (λ m. option_map (λ (t : TxId). t.0) (on_of on m)) n (tx_of order r.rank) (option_map (λ (t : TxId). t.0) (on_of on (tx_of order r.rank))) ≡ Some tx.0) (sym size ∙ (sym count ∙ k.1)) r.end in
            let f = follow k.0 (tx_of order r.rank) top.0 (on_of on (tx_of order r.rank)) tx.0 top.1 refl end in
            ap (option_and_then (λ (x : Row). followed rows (length rows) x x.waits_on)) (highest_at r.rank top.0 r.highest top.2 top.1)
            ∙ (ap (λ (n : ℕ). followed rows n top.0 top.0.waits_on) k.1 ∙ (f.2 ∙ sym f.1))

        -- and none runs where there is no rank
        pub running_none : ((rank : ℕ) → has_rank ranks rank ≡ false) → running set rows ≡ None
        unfolding running
        running_none none = ap (option_and_then (λ (x : Row). followed rows (length rows) x x.waits_on)) (at (highest set (pending rows)) refl) where
          at : (h : Option Row) → highest set (pending rows) ≡ h → h ≡ None
          at None e = refl
          at (Some h) e =
              let p = pending_in rows h (highest_is set (pending rows) h e).here in
              let r = rank_has p.0 h p.1 in
              absurd (let no : true ≡ false = sym r.1 ∙ none r.0 in cc (no))
