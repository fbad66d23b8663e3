use Rattle.std.proofs.Common.{◌≡◌, ◌<◌, List, Option, length, None, subst, sym}
use Rattle.step_journal.specs.State.{row_of}
use Rattle.core_tables.specs.declared.head.Head.{Head}
use Rattle.core_tables.specs.Rows.{PendingSeen}
use Rattle.core_tables.specs.PendingTables.{AreHeadRanks, IsRunningJob}
use Rattle.core_tables.proofs.Calls.{release_ranks, release_table, release_seen}
use Rattle.core_tables.proofs.pending.Pending.release.Goals as goal

pub running_job-self-inside-requires-clause-ranks
    : goal.running_job-self-inside-requires-clause-ranks
running_job-self-inside-requires-clause-ranks c =
    subst (λ (l : List (Option Head)). AreHeadRanks l c.self.inside.waits.order c.with-self-inside.result) (sym c.as_slice.ensures.value)
    (release_ranks _ _ _ _ _ _ _ _ c.self.invariant c.args.job c.args.tick c.rank.result c.index.result.now c.earlier.result c.index_mut.result.now c.clear.new.self c.with-self-inside.result
    (subst (λ (p : PendingSeen). c.args.job.tx.0 < length p.rows) (sym c.self.view_is) c.requires.tx)
    (subst (λ (p : PendingSeen). row_of p.rows c.args.job.tx.0 ≡ None) (sym c.self.view_is) c.requires.free)
    c.requires.tick c.index_mut.ensures.value c.clear.ensures c.rank.ensures.in_range c.rank.ensures.rank c.with-self-inside.ensures c.index.ensures c.earlier.ensures)

pub invariant_of-self : goal.invariant_of-self
invariant_of-self c =
    release_table _ _ _ _ _ _ _ _ c.self.invariant c.args.job c.args.tick c.rank.result c.index.result.now c.earlier.result c.index_mut.result.now c.clear.new.self c.with-self-inside.result
    (subst (λ (p : PendingSeen). c.args.job.tx.0 < length p.rows) (sym c.self.view_is) c.requires.tx)
    (subst (λ (p : PendingSeen). row_of p.rows c.args.job.tx.0 ≡ None) (sym c.self.view_is) c.requires.free)
    c.requires.tick c.index_mut.ensures.value c.clear.ensures c.rank.ensures.in_range c.rank.ensures.rank c.with-self-inside.ensures c.index.ensures c.earlier.ensures
    c.running_job-self-inside.result (subst (λ (l : List (Option Head)). IsRunningJob l c.self.inside.waits c.with-self-inside.result c.running_job-self-inside.result) c.as_slice.ensures.value c.running_job-self-inside.ensures)

pub returns : goal.returns
returns c =
    rw (← c.self.view_is)
    (release_seen _ _ _ _ _ _ _ _ c.self.invariant c.args.job c.args.tick c.rank.result c.index.result.now c.earlier.result c.index_mut.result.now c.clear.new.self c.with-self-inside.result
    (subst (λ (p : PendingSeen). c.args.job.tx.0 < length p.rows) (sym c.self.view_is) c.requires.tx)
    (subst (λ (p : PendingSeen). row_of p.rows c.args.job.tx.0 ≡ None) (sym c.self.view_is) c.requires.free)
    c.requires.tick c.index_mut.ensures.value c.clear.ensures c.rank.ensures.in_range c.rank.ensures.rank c.with-self-inside.ensures c.index.ensures c.earlier.ensures)
