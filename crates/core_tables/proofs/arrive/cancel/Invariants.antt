use Rattle.std.proofs.Common.{length}
use Rattle.txn_set.specs.Set.{Set}
use Rattle.step_journal.specs.State.{pending}
use Rattle.core_tables.specs.Rows.{AreFactsOf}
use Rattle.core_tables.specs.Arriving.{CanCancel}
use Rattle.core_tables.proofs.Cancels.{Cancelling}
use Rattle.core_tables.proofs.arrive.cancel.Given as goal

abbrev pub invariant-loop-job : goal.invariant-loop-job
invariant-loop-job l =
    (set : Set) → AreFactsOf set l.initial.pending.facts → CanCancel set l.initial.pending.rows l.initial.tallies
    → Cancelling set l.tick l.initial.pending l.pending l.initial.tallies l.tallies

abbrev pub decreases-loop-job : goal.decreases-loop-job
decreases-loop-job l = length (pending l.pending.rows)
