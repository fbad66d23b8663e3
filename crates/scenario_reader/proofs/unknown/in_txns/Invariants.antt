use Rattle.std.proofs.Common.{◌≡◌, drop, map}
use Rattle.scenario_forms.specs.Txns.{txn_view}
use Rattle.scenario_reader.specs.Unknown.{unknown_from}
use Rattle.scenario_reader.proofs.unknown.in_txns.Given as goal

abbrev pub invariant-loop-i : goal.invariant-loop-i
invariant-loop-i l = unknown_from l.i (map txn_view (drop l.i l.txns)) ≡ unknown_from 0 (map txn_view l.txns)
