use Rattle.std.proofs.Common.{◌≡◌, length, map, drop}
use Rattle.step_script.specs.Scripts.{program_of}
use Rattle.step_script.specs.Bodies.{bad_script_from}
use Rattle.scenario_reader.specs.Walks.{IsSized}
use Rattle.scenario_reader.proofs.scripts.first_bad.Given as goal

abbrev pub invariant-loop-tx : goal.invariant-loop-tx
invariant-loop-tx l = record {
  sized : IsSized (length l.items) l.walk;
  same : bad_script_from l.items l.tx (drop l.tx l.txns) (map program_of (drop l.tx l.scripts))
      ≡ bad_script_from l.items 0 l.txns (map program_of l.scripts);
}
