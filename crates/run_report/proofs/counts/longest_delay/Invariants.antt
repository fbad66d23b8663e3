use Rattle.std.proofs.Common.{◌≡◌, max, drop, map}
use Rattle.txn_set.specs.Ceilings.{greatest}
use Rattle.run_report.proofs.counts.longest_delay.Given as goal

abbrev pub invariant-loop-row : goal.invariant-loop-row
invariant-loop-row l = max l.longest (greatest (map (λ row. row.delay) (drop l.row-index l.rows))) ≡ greatest (map (λ row. row.delay) l.rows)
