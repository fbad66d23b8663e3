-- What each question answers, over plain variables.
use Rattle.std.proofs.Common.{◌≡◌, ◌≢◌, ℕ, ◌<◌, Bool, true, false, List, length, map, Option, None, Some, refl, ap, sym, ◌∙◌, subst, inl, inr, arith}
use Rattle.std.proofs.lemmas.Bool.{cases_lt}
use Rattle.std.proofs.lemmas.List.{length-map}
use Rattle.std.specs.Prelude.{MatchOption}
use Rattle.std.specs.List.{filter}
use Rattle.std.specs.Option.{option_map, option_and_then}
use Rattle.rt_base.specs.LockRule.{blocker}
use Rattle.rt_base.specs.declared.ids.JobId.{JobId}
use Rattle.rt_base.specs.declared.ids.TxId.{TxId}
use Rattle.rt_base.specs.declared.operation.Op.{Op}
use Rattle.rt_base.specs.declared.rank_set.RankSet.{RankSet}
use Rattle.rt_base.specs.Ranks.{has_rank}
use Rattle.ceiling_table.specs.declared.Above.{Above as AboveRow}
use Rattle.ceiling_table.specs.Held.{Locks, numbers_below, other_holders, HasItem}
use Rattle.ceiling_table.specs.Held.{prio_of as held_prio, ceiling_of as held_ceiling, above_of as held_above, refusal as held_refusal, needs_lock as held_needs}
use Rattle.inherit_prio.specs.Waits.{Waiting}
use Rattle.dispatch_core.specs.Dispatch.{IsRunning}
use Rattle.strict_commit.specs.Jobs.{Job}
use Rattle.txn_set.specs.Set.{Set}
use Rattle.step_journal.specs.State.{State, Row, row_of, pending, prio}
use Rattle.step_journal.specs.LockRule.{Above, needs_lock, refusal, highest}
use Rattle.step_journal.specs.Running.{running}
use Rattle.step_journal.specs.Instant.{is_due}
use Rattle.step_journal.specs.Step.{given, lock_refusal}
use Rattle.law_histories.proofs.Members.{filter_in}
use Rattle.law_histories.proofs.Invariant.{in_range}
use Rattle.law_histories.proofs.Calendar.{times_at}
use Rattle.core_tables.specs.declared.head.Head.{Head}
use Rattle.core_tables.specs.Rows.{AreFactsOf, AreRows}
use Rattle.core_tables.specs.PendingTables.{head_at, rows_by, access_of, IsFirstDue, NotDue, IsRunningJob, IsTable}
use Rattle.core_tables.proofs.RowsBy.{job_at, fits}
use Rattle.core_tables.proofs.Highs.{due_is, running_is, running_none}
use Rattle.core_tables.proofs.Blockers.{blocker_some}
use Rattle.core_tables.proofs.LockRefusals.{Refuses, Grants, Names, refuses, needs_same, numbers_in}
use Rattle.core_tables.proofs.Calls.{seen}

-- whom the table of locks names is a transaction of it

holder_at : (held : Locks) (tx : ℕ) (above : AboveRow) (o : Option ℕ) → blocker (held_prio held) (held_ceiling held) (held_prio held tx) (other_holders held tx) ≡ o → option_map (held_above held) o ≡ Some above → above.holder.0 < length held.prios
holder_at held tx above None e h = absurd cc
holder_at held tx above (Some n) e h =
    let b = blocker_some (held_prio held) (held_ceiling held) (held_prio held tx) (other_holders held tx) n e in
    let p = filter_in _ n (numbers_below (length held.prios)) b.top.here in
    let same : held_above held n ≡ above = cc in
    omega (arith, numbers_in (length held.prios) n p.0, ap (λ (a : AboveRow). a.holder.0) same)

pub holder_low : (held : Locks) (tx : ℕ) (above : AboveRow) → held_refusal held tx ≡ Some above → above.holder.0 < length held.prios
unfolding held_refusal
holder_low held tx above h = holder_at held tx above (blocker (held_prio held) (held_ceiling held) (held_prio held tx) (other_holders held tx)) refl h

module _ (heads : List (Option Head)) (works : List Job) (held : Locks) (waiting : Waiting) (deadlines : List ℕ) (ranks : RankSet) (least : Option ℕ) (runs : Option JobId) (t : IsTable heads works held waiting deadlines ranks least runs) where
  abbrev rows : List (Option Row)
  rows = rows_by heads works waiting.on

  -- the ranks are below the number of transactions
  pub ranks_low : (rank : ℕ) → has_rank ranks rank ≡ true → rank < length waiting.prios
  ranks_low rank h =
      let size : length waiting.prios ≡ length held.prios = ap length t.agree.prios in
      elim (cases_lt rank (length rows)) [
        | inl lt ↦ omega (arith, lt, size, t.agree.size)
        | inr ge ↦ absurd (let no : has_rank ranks rank ≡ false = t.agree.ranks.beyond rank ge in cc (no, h))
      ]

  module _ (set : Set) (f : AreFactsOf set (seen heads works held waiting deadlines).facts) where
    -- the running job

    no_running : ((rank : ℕ) → has_rank ranks rank ≡ false) → None ≡ option_map (λ r. r.job) (running set rows)
    no_running none =
        sym (ap (option_map (λ (r : Row). r.job)) (running_none heads works waiting.on deadlines held.prios waiting.order t.heads_size t.agree.order t.agree.named set held.ceilings (map access_of works) f t.agree.waits ranks t.agree.ranks none))

    the_running : (tx : TxId) → IsRunning ranks waiting tx → option_map (λ h. h.job) (head_at heads tx.0) ≡ option_map (λ r. r.job) (running set rows)
    the_running tx is =
        let own : IsRunning ranks (record { prios = held.prios; order = waiting.order; on = waiting.on }) tx = subst (λ (p : List ℕ). IsRunning ranks (record { prios = p; order = waiting.order; on = waiting.on }) tx) t.agree.prios is in
        sym (job_at heads works waiting.on tx.0)
        ∙ sym (ap (option_map (λ (r : Row). r.job)) (running_is heads works waiting.on deadlines held.prios waiting.order t.heads_size t.agree.order t.agree.named set held.ceilings (map access_of works) f t.agree.waits ranks t.agree.ranks tx own))

    runs_at : IsRunningJob heads waiting ranks runs → runs ≡ option_map (λ r. r.job) (running set rows)
    runs_at (inl none) = none.is ∙ no_running none.nobody
    runs_at (inr one) = one.is ∙ the_running one.tx one.dispatched

    pub runs_is : runs ≡ option_map (λ r. r.job) (running set rows)
    runs_is = runs_at t.running

    -- the due job

    pub the_due : (tick : ℕ) (o : Option JobId) → MatchOption o ((rank : ℕ) → NotDue heads deadlines waiting.order tick rank) (IsFirstDue heads deadlines waiting.order tick) → o ≡ option_map (λ r. r.job) (highest set (filter (is_due set tick) (pending rows)))
    the_due = due_is heads works waiting.on deadlines held.prios waiting.order t.heads_size t.agree.order t.agree.named set held.ceilings (map access_of works) f

    -- the refusal of a lock

    module _ (tx : ℕ) (row : Row) (op : Op) (here : row_of rows tx ≡ Some row) (item : HasItem (length held.ceilings) op) where
      abbrev refusal_by : Option Above
      refusal_by = option_and_then (λ r. refusal set rows r) (given (needs_lock row.work op) row)

      positive : 0 < prio set row
      positive =
          let named : row.job.tx.0 ≡ tx = t.agree.named tx row here in
          let size : length held.prios ≡ length set.txns = ap length f.prios ∙ length-map set.txns (λ t. t.prio) in
          let good = times_at set row.job.tx.0 f.compiled (omega (arith, named, in_range rows tx row here, t.agree.size, size)) in
          omega (arith, good.prio.0)

      refused_so : Refuses rows held waiting deadlines ranks least t.agree set (map access_of works) f tx row here positive (held_refusal held tx)
      refused_so = refuses rows held waiting deadlines ranks least t.agree set (map access_of works) f tx row here positive

      needs_is : held_needs held tx op ≡ needs_lock row.work op
      needs_is = needs_same rows held waiting deadlines ranks least t.agree set (map access_of works) f tx row here positive op item

      pub none_needed : held_needs held tx op ≡ false → refusal_by ≡ None
      none_needed e = ap (λ (b : Bool). option_and_then (λ (r : Row). refusal set rows r) (given b row)) (sym needs_is ∙ e)

      given_none : (b : Bool) → refusal set rows row ≡ None → option_and_then (λ r. refusal set rows r) (given b row) ≡ None
      given_none true e = e
      given_none false e = refl

      grants_at : (o : Option AboveRow) → Refuses rows held waiting deadlines ranks least t.agree set (map access_of works) f tx row here positive o → o ≡ None → refusal_by ≡ None
      grants_at None (Grants e) h = given_none (needs_lock row.work op) e
      grants_at (Some a) (Names above b at e) h = absurd cc

      pub granted : held_refusal held tx ≡ None → refusal_by ≡ None
      granted e = grants_at (held_refusal held tx) refused_so e

      names_at : (o : Option AboveRow) (above : AboveRow) → Refuses rows held waiting deadlines ranks least t.agree set (map access_of works) f tx row here positive o → o ≡ Some above
          → (b : Row) × (row_of rows above.holder.0 ≡ Some b) × (refusal set rows row ≡ Some (record { holder = b.job; ceiling = above.ceiling }))
      names_at None above (Grants e) h = absurd cc
      names_at (Some a) above (Names a2 b at e) h =
          let same : a2 ≡ above = cc in
          (b, ap (λ (x : AboveRow). row_of rows x.holder.0) (sym same) ∙ at, e ∙ ap (λ (x : AboveRow). Some (record { holder = b.job; ceiling = x.ceiling })) same)

      -- the blocker that is named has a head
      pub has_head : (above : AboveRow) → held_refusal held tx ≡ Some above → head_at heads above.holder.0 ≢ None
      has_head above h none =
          let n = names_at (held_refusal held tx) above refused_so h in
          let b = fits heads works waiting.on above.holder.0 n.0 n.1 in
          let some = b.1.here in
          cc (none, some)

      pub named_so : (above : AboveRow) (head : Head) → held_needs held tx op ≡ true → held_refusal held tx ≡ Some above → head_at heads above.holder.0 ≡ Some head → Some (record { holder = head.job; ceiling = above.ceiling }) ≡ refusal_by
      named_so above head needs h at =
          let n = names_at (held_refusal held tx) above refused_so h in
          let b = fits heads works waiting.on above.holder.0 n.0 n.1 in
          let same : b.0 ≡ head = (let one : Some b.0 ≡ Some head = sym b.1.here ∙ at in cc) in
          let job : n.0.job ≡ head.job = ap (λ (r : Row). r.job) b.1.is ∙ ap (λ (x : Head). x.job) same in
          sym (ap (λ (v : Bool). option_and_then (λ (r : Row). refusal set rows r) (given v row)) (sym needs_is ∙ needs) ∙ (n.2 ∙ ap (λ (j : JobId). Some (record { holder = j; ceiling = above.ceiling })) job))

-- the same of a state with these rows
pub of_state : (set : Set) (s : State) (all : List (Option Row)) (row : Row) (op : Op) → all ≡ s.rows → option_and_then (λ r. refusal set all r) (given (needs_lock row.work op) row) ≡ lock_refusal set s row op
of_state set s all row op e = ap (λ (q : List (Option Row)). option_and_then (λ (r : Row). refusal set q r) (given (needs_lock row.work op) row)) e

module _ (heads : List (Option Head)) (works : List Job) (held : Locks) (waiting : Waiting) (deadlines : List ℕ) (ranks : RankSet) (least : Option ℕ) (runs : Option JobId) (t : IsTable heads works held waiting deadlines ranks least runs)
    (set : Set) (s : State) (tx : ℕ) (row : Row) (op : Op) (are : AreRows set (seen heads works held waiting deadlines) s.rows) (here : row_of s.rows tx ≡ Some row) (item : HasItem (length held.ceilings) op) where
  own : row_of (rows_by heads works waiting.on) tx ≡ Some row
  own = ap (λ (q : List (Option Row)). row_of q tx) are.rows ∙ here

  pub answer_granted : held_refusal held tx ≡ None → None ≡ lock_refusal set s row op
  answer_granted e = sym (sym (of_state set s (rows_by heads works waiting.on) row op are.rows) ∙ granted heads works held waiting deadlines ranks least runs t set are.facts tx row op own item e)

  pub answer_has_head : (above : AboveRow) → held_refusal held tx ≡ Some above → head_at heads above.holder.0 ≢ None
  answer_has_head = has_head heads works held waiting deadlines ranks least runs t set are.facts tx row op own item

  pub answer_named : (above : AboveRow) (head : Head) → held_needs held tx op ≡ true → held_refusal held tx ≡ Some above → head_at heads above.holder.0 ≡ Some head → Some (record { holder = head.job; ceiling = above.ceiling }) ≡ lock_refusal set s row op
  answer_named above head needs h at = named_so heads works held waiting deadlines ranks least runs t set are.facts tx row op own item above head needs h at ∙ of_state set s (rows_by heads works waiting.on) row op are.rows
