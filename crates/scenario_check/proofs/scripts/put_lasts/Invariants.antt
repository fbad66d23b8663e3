use Rattle.std.proofs.Common.{◌≡◌, ◌++◌, length, map, take}
use Rattle.step_script.specs.Scripts.{operation}
use Rattle.scenario_check.specs.Warnings.{below, of_last}
use Rattle.scenario_check.proofs.Lasts.{Stand}
use Rattle.scenario_check.proofs.scripts.put_lasts.Given as goal

abbrev pub invariant-loop-at : goal.invariant-loop-at
invariant-loop-at l = record {
  sized : length l.marks.items ≡ l.items;
  stand : Stand l.marks.items (take l.at (map operation l.ops));
  told : l.out.items ≡ l.initial.out.items ++ below (of_last l.tx (map operation l.ops)) l.at;
}
