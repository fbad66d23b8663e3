use Rattle.std.proofs.Common.{map, drop, take}
use Rattle.std.specs.List.{All}
use Rattle.step_script.specs.Scripts.{program_of}
use Rattle.scenario_writer.specs.Canonical.{txn_data, written}
use Rattle.scenario_writer.specs.Integers.{ProgramHasIntegers}
use Rattle.scenario_writer.proofs.Loops.{Begun}
use Rattle.scenario_writer.proofs.txns.txn_list.Given as goal

abbrev pub invariant-loop-i : goal.invariant-loop-i
invariant-loop-i l = record {
  begun : Begun (map (txn_data l.second l.names) (written l.txn_names l.decls (map program_of l.scripts) l.releases))
      (map (txn_data l.second l.names)
      (written (drop l.i l.txn_names) (drop l.i l.decls) (map program_of (drop l.i l.scripts)) (drop l.i l.releases)))
      l.fn.out l.out;
  fits : All (λ s. ProgramHasIntegers (program_of s)) (take l.i l.scripts);
}
