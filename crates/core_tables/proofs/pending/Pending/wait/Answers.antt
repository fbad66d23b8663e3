use Rattle.std.proofs.Common.{◌≡◌, ◌<◌, List, Option, length, Some, subst, sym, refl}
use Rattle.step_journal.specs.State.{row_of}
use Rattle.core_tables.specs.declared.head.Head.{Head}
use Rattle.core_tables.specs.Rows.{PendingSeen}
use Rattle.core_tables.specs.PendingTables.{AreHeadRanks, IsRunningJob}
use Rattle.core_tables.specs.Waiting.{MayWait}
use Rattle.core_tables.proofs.Calls.{wait_free, wait_on_free, wait_nobody, wait_ranks, wait_table, wait_seen}
use Rattle.core_tables.proofs.pending.Pending.wait.Goals as goal

pub block-requires-clause-free : goal.block-requires-clause-free
block-requires-clause-free c =
    wait_free _ _ _ _ _ _ _ _ c.self.invariant c.args.tx.0 c.args.on (subst (λ (p : PendingSeen). c.args.tx.0 < length p.rows) (sym c.self.view_is) c.requires.tx)
    (subst (λ (p : PendingSeen). MayWait p.rows c.args.tx.0 c.args.on) (sym c.self.view_is) c.requires.may)

pub block-requires-clause-on_free : goal.block-requires-clause-on_free
block-requires-clause-on_free c =
    wait_on_free _ _ _ _ _ _ _ _ c.self.invariant c.args.tx.0 c.args.on (subst (λ (p : PendingSeen). c.args.tx.0 < length p.rows) (sym c.self.view_is) c.requires.tx)
    (subst (λ (p : PendingSeen). MayWait p.rows c.args.tx.0 c.args.on) (sym c.self.view_is) c.requires.may)

pub block-requires-clause-no_waiters : goal.block-requires-clause-no_waiters
block-requires-clause-no_waiters c t e =
    wait_nobody _ _ _ _ _ _ _ _ c.self.invariant c.args.tx.0 c.args.on (subst (λ (p : PendingSeen). c.args.tx.0 < length p.rows) (sym c.self.view_is) c.requires.tx)
    (subst (λ (p : PendingSeen). MayWait p.rows c.args.tx.0 c.args.on) (sym c.self.view_is) c.requires.may) t c.args.tx e refl

pub running_job-self-inside-requires-clause-ranks
    : goal.running_job-self-inside-requires-clause-ranks
running_job-self-inside-requires-clause-ranks c =
    subst (λ (l : List (Option Head)). AreHeadRanks l c.block.new.self.order c.self.inside.ranks) (sym c.as_slice.ensures.value)
    (wait_ranks _ _ _ _ _ _ _ _ c.self.invariant c.args.tx.0 c.args.on (subst (λ (p : PendingSeen). c.args.tx.0 < length p.rows) (sym c.self.view_is) c.requires.tx)
    (subst (λ (p : PendingSeen). MayWait p.rows c.args.tx.0 c.args.on) (sym c.self.view_is) c.requires.may) c.block.new.self c.block.ensures)

pub invariant_of-self : goal.invariant_of-self
invariant_of-self c =
    wait_table _ _ _ _ _ _ _ _ c.self.invariant c.args.tx.0 c.args.on (subst (λ (p : PendingSeen). c.args.tx.0 < length p.rows) (sym c.self.view_is) c.requires.tx)
    (subst (λ (p : PendingSeen). MayWait p.rows c.args.tx.0 c.args.on) (sym c.self.view_is) c.requires.may) c.block.new.self c.block.ensures
    c.running_job-self-inside.result (subst (λ (l : List (Option Head)). IsRunningJob l c.block.new.self c.self.inside.ranks c.running_job-self-inside.result) c.as_slice.ensures.value c.running_job-self-inside.ensures)

pub returns : goal.returns
returns c row h =
    rw (← c.self.view_is)
    (wait_seen _ _ _ _ _ _ _ _ c.self.invariant c.args.tx.0 c.args.on (subst (λ (p : PendingSeen). c.args.tx.0 < length p.rows) (sym c.self.view_is) c.requires.tx)
    (subst (λ (p : PendingSeen). MayWait p.rows c.args.tx.0 c.args.on) (sym c.self.view_is) c.requires.may) c.block.new.self c.block.ensures row (subst (λ (p : PendingSeen). row_of p.rows c.args.tx.0 ≡ Some row) (sym c.self.view_is) h))
