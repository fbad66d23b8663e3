use Rattle.std.proofs.Common.{map, drop}
use Rattle.scenario_writer.specs.Canonical.{set_data}
use Rattle.scenario_writer.proofs.Loops.{Begun}
use Rattle.scenario_writer.proofs.items.sets.Given as goal

abbrev pub invariant-loop-one : goal.invariant-loop-one
invariant-loop-one l = Begun (map (set_data l.names) l.sets) (map (set_data l.names) (drop l.one-index l.sets)) l.fn.out
    l.out
