use Rattle.std.proofs.Common.{◌≡◌, ◌++◌}
use Rattle.step_script.specs.Shown.{shown}
use Rattle.scenario_check.specs.Warnings.{below, of_txn}
use Rattle.scenario_check.proofs.listing.put_txns.Given as goal

abbrev pub invariant-loop-tx : goal.invariant-loop-tx
invariant-loop-tx l = l.out.items ≡ l.initial.out.items ++ below (of_txn (shown l.scenario)) l.tx
