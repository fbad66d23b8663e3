use Rattle.std.proofs.Common.{◌≡◌, ◌<◌, ◌^◌, ℕ, List, length, Option, None, Some, subst, sym, arith}
use Rattle.std.specs.Prelude.{MatchOption}
use Rattle.step_journal.specs.State.{row_of}
use Rattle.core_tables.specs.declared.head.Head.{Head}
use Rattle.core_tables.specs.Rows.{PendingSeen}
use Rattle.core_tables.specs.PendingTables.{head_at, head_with, AreHeadRanks, IsLeastOfHeads, IsRunningJob}
use Rattle.core_tables.proofs.Calls.{not_same, no_head_no_row, head_now, due_fits, left_ranks, left_early, end_table_kept, end_table_new, end_seen}
use Rattle.core_tables.proofs.pending.Pending.end.Goals as goal

pub returns-in_default : goal.returns-in_default
returns-in_default c row h =
    absurd (no_head_no_row c.self.inside.heads.items c.self.inside.works.items c.self.inside.waits.on c.args.tx.0 row c.index.result.now (subst (λ (p : PendingSeen). c.args.tx.0 < length p.rows) (sym c.self.view_is) c.requires) c.index.ensures c.in_default.is
    (subst (λ (p : PendingSeen). row_of p.rows c.args.tx.0 ≡ Some row) (sym c.self.view_is) h))

pub overflow_add-head : goal.overflow_add-head
overflow_add-head c =
    omega (
      arith,
      due_fits _ _ _ _ _ _ _ _ c.self.invariant c.args.tx.0 c.in-Some.head
          (head_now c.self.inside.heads.items c.self.inside.works.items c.self.inside.waits.on c.args.tx.0 c.in-Some.head c.index.result.now (subst (λ (p : PendingSeen). c.args.tx.0 < length p.rows) (sym c.self.view_is) c.requires) c.index.ensures c.in-Some.is)
          c.index-2.result.now c.index-2.ensures,
    )

pub running_job-self-inside-requires-clause-ranks
    : goal.running_job-self-inside-requires-clause-ranks
running_job-self-inside-requires-clause-ranks c =
    subst (λ (l : List (Option Head)). AreHeadRanks l c.free.new.self.order c.without-self-inside.result) (sym c.as_slice.ensures.value)
    (left_ranks _ _ _ _ _ _ _ _ c.self.invariant c.args.tx.0 c.in-Some.head
    (head_now c.self.inside.heads.items c.self.inside.works.items c.self.inside.waits.on c.args.tx.0 c.in-Some.head c.index.result.now (subst (λ (p : PendingSeen). c.args.tx.0 < length p.rows) (sym c.self.view_is) c.requires) c.index.ensures c.in-Some.is)
    c.release_all.new.self c.free.new.self c.without-self-inside.result c.rank.result c.release_all.ensures c.free.ensures c.rank.ensures.in_range c.rank.ensures.rank c.without-self-inside.ensures)

pub least_deadline-self-inside-requires-clause-ranks
    : goal.least_deadline-self-inside-requires-clause-ranks
least_deadline-self-inside-requires-clause-ranks c =
    subst (λ (l : List (Option Head)). AreHeadRanks l c.free.new.self.order c.without-self-inside.result) (sym c.as_slice-then-eq.ensures.value)
    (left_ranks _ _ _ _ _ _ _ _ c.self.invariant c.args.tx.0 c.in-Some.head
    (head_now c.self.inside.heads.items c.self.inside.works.items c.self.inside.waits.on c.args.tx.0 c.in-Some.head c.index.result.now (subst (λ (p : PendingSeen). c.args.tx.0 < length p.rows) (sym c.self.view_is) c.requires) c.index.ensures c.in-Some.is)
    c.release_all.new.self c.free.new.self c.without-self-inside.result c.rank.result c.release_all.ensures c.free.ensures c.rank.ensures.in_range c.rank.ensures.rank c.without-self-inside.ensures)

pub least_deadline-self-inside-requires-clause-early
    : goal.least_deadline-self-inside-requires-clause-early
least_deadline-self-inside-requires-clause-early c =
    subst (λ (l : List (Option Head)). (tx : ℕ) (head : Head) → head_at l tx ≡ Some head → head.release < 2 ^ 63) (sym c.as_slice-then-eq.ensures.value)
    (left_early _ _ _ _ _ _ _ _ c.self.invariant c.args.tx.0 c.in-Some.head
    (head_now c.self.inside.heads.items c.self.inside.works.items c.self.inside.waits.on c.args.tx.0 c.in-Some.head c.index.result.now (subst (λ (p : PendingSeen). c.args.tx.0 < length p.rows) (sym c.self.view_is) c.requires) c.index.ensures c.in-Some.is)
    c.release_all.new.self c.free.new.self c.without-self-inside.result c.rank.result c.release_all.ensures c.free.ensures c.rank.ensures.in_range c.rank.ensures.rank c.without-self-inside.ensures)

pub invariant_of-self : goal.invariant_of-self
invariant_of-self c =
    end_table_new _ _ _ _ _ _ _ _ c.self.invariant c.args.tx.0 c.in-Some.head
    (head_now c.self.inside.heads.items c.self.inside.works.items c.self.inside.waits.on c.args.tx.0 c.in-Some.head c.index.result.now (subst (λ (p : PendingSeen). c.args.tx.0 < length p.rows) (sym c.self.view_is) c.requires) c.index.ensures c.in-Some.is)
    c.release_all.new.self c.free.new.self c.without-self-inside.result c.rank.result c.release_all.ensures c.free.ensures c.rank.ensures.in_range c.rank.ensures.rank c.without-self-inside.ensures
    c.least_deadline-self-inside.result c.running_job-self-inside.result
    (subst (λ (l : List (Option Head)). MatchOption c.least_deadline-self-inside.result ((r : ℕ) → r < length l → head_with l c.free.new.self.order r ≡ None) (IsLeastOfHeads l c.self.inside.deadlines.items c.free.new.self.order)) c.as_slice-then-eq.ensures.value
    (subst (λ (d : List ℕ). MatchOption c.least_deadline-self-inside.result ((r : ℕ) → r < length c.as_slice-then-eq.result.now → head_with c.as_slice-then-eq.result.now c.free.new.self.order r ≡ None) (IsLeastOfHeads c.as_slice-then-eq.result.now d c.free.new.self.order)) c.as_slice-then-eq-2.ensures.value
    c.least_deadline-self-inside.ensures))
    (subst (λ (l : List (Option Head)). IsRunningJob l c.free.new.self c.without-self-inside.result c.running_job-self-inside.result) c.as_slice.ensures.value c.running_job-self-inside.ensures)

pub invariant_of-self-else-eq : goal.invariant_of-self-else-eq
invariant_of-self-else-eq c =
    end_table_kept _ _ _ _ _ _ _ _ c.self.invariant c.args.tx.0 c.in-Some.head
    (head_now c.self.inside.heads.items c.self.inside.works.items c.self.inside.waits.on c.args.tx.0 c.in-Some.head c.index.result.now (subst (λ (p : PendingSeen). c.args.tx.0 < length p.rows) (sym c.self.view_is) c.requires) c.index.ensures c.in-Some.is)
    c.release_all.new.self c.free.new.self c.without-self-inside.result c.rank.result c.release_all.ensures c.free.ensures c.rank.ensures.in_range c.rank.ensures.rank c.without-self-inside.ensures
    c.index-2.result.now c.running_job-self-inside.result c.index-2.ensures (not_same c.self.inside.least _ c.if-eq.ensures)
    (subst (λ (l : List (Option Head)). IsRunningJob l c.free.new.self c.without-self-inside.result c.running_job-self-inside.result) c.as_slice.ensures.value c.running_job-self-inside.ensures)

pub returns-then-eq : goal.returns-then-eq
returns-then-eq c row h =
    rw (← c.self.view_is)
    (end_seen _ _ _ _ _ _ _ _ c.self.invariant c.args.tx.0 c.in-Some.head
    (head_now c.self.inside.heads.items c.self.inside.works.items c.self.inside.waits.on c.args.tx.0 c.in-Some.head c.index.result.now (subst (λ (p : PendingSeen). c.args.tx.0 < length p.rows) (sym c.self.view_is) c.requires) c.index.ensures c.in-Some.is)
    c.release_all.new.self c.free.new.self c.without-self-inside.result c.rank.result c.release_all.ensures c.free.ensures c.rank.ensures.in_range c.rank.ensures.rank c.without-self-inside.ensures
    row (subst (λ (p : PendingSeen). row_of p.rows c.args.tx.0 ≡ Some row) (sym c.self.view_is) h))

pub returns-else-eq : goal.returns-else-eq
returns-else-eq c row h =
    rw (← c.self.view_is)
    (end_seen _ _ _ _ _ _ _ _ c.self.invariant c.args.tx.0 c.in-Some.head
    (head_now c.self.inside.heads.items c.self.inside.works.items c.self.inside.waits.on c.args.tx.0 c.in-Some.head c.index.result.now (subst (λ (p : PendingSeen). c.args.tx.0 < length p.rows) (sym c.self.view_is) c.requires) c.index.ensures c.in-Some.is)
    c.release_all.new.self c.free.new.self c.without-self-inside.result c.rank.result c.release_all.ensures c.free.ensures c.rank.ensures.in_range c.rank.ensures.rank c.without-self-inside.ensures
    row (subst (λ (p : PendingSeen). row_of p.rows c.args.tx.0 ≡ Some row) (sym c.self.view_is) h))
