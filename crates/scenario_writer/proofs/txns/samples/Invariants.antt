use Rattle.std.proofs.Common.{map, drop, take}
use Rattle.std.specs.List.{All}
use Rattle.scenario_writer.specs.Canonical.{integer}
use Rattle.scenario_writer.specs.Integers.{IsI64}
use Rattle.scenario_writer.proofs.Loops.{Begun}
use Rattle.scenario_writer.proofs.txns.samples.Given as goal

abbrev pub invariant-loop-sample : goal.invariant-loop-sample
invariant-loop-sample l = record {
  begun : Begun (map integer l.samples) (map integer (drop l.sample-index l.samples)) l.fn.out l.out;
  fits : All IsI64 (take l.sample-index l.samples);
}
