use Rattle.std.proofs.Common.{◌≡◌, take}
use Rattle.law_times.specs.Assigned.{txns_with}
use Rattle.law_times.specs.Pass.{prio_at}
use Rattle.txn_priorities.proofs.declared.txns_with.Given as goal

abbrev pub invariant-loop-tx : goal.invariant-loop-tx
invariant-loop-tx l = l.copies.items ≡ take l.tx (txns_with (prio_at l.prios) l.txns)
