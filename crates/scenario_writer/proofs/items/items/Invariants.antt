use Rattle.std.proofs.Common.{drop, take}
use Rattle.std.specs.List.{All}
use Rattle.scenario_writer.specs.Canonical.{items_data}
use Rattle.scenario_writer.specs.Integers.{IsI64}
use Rattle.scenario_writer.proofs.Loops.{Begun}
use Rattle.scenario_writer.proofs.items.items.Given as goal

abbrev pub invariant-loop-i : goal.invariant-loop-i
invariant-loop-i l = record {
  begun : Begun (items_data l.names l.decls) (items_data (drop l.i l.names) (drop l.i l.decls)) l.fn.out l.out;
  fits : All (λ d. IsI64 d.initial) (take l.i l.decls);
}
