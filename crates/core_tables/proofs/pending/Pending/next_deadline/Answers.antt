use Rattle.std.proofs.Common.{◌≡◌, [], subst}
use Rattle.std.specs.Prelude.{MatchOption}
use Rattle.step_journal.specs.State.{pending}
use Rattle.core_tables.specs.Rows.{PendingSeen}
use Rattle.core_tables.specs.Deadlines.{IsLeastDeadline}
use Rattle.core_tables.specs.PendingTables.{rows_by}
use Rattle.core_tables.proofs.Calls.{next_is}
use Rattle.core_tables.proofs.pending.Pending.next_deadline.Goals as goal

pub returns : goal.returns
returns c =
    subst (λ (p : PendingSeen). MatchOption c.self.inside.least (pending p.rows ≡ []) (IsLeastDeadline p.facts.deadlines p.rows)) c.self.view_is
    (next_is c.self.inside.deadlines.items (rows_by c.self.inside.heads.items c.self.inside.works.items c.self.inside.waits.on) c.self.inside.least c.self.invariant.agree.least)
