use Rattle.std.proofs.Common.{◌≡◌}
use Rattle.scenario_writer.specs.Generated.{each, releases_each}
use Rattle.scenario_writer.proofs.generate.releases.Given as goal

abbrev pub invariant-loop-i : goal.invariant-loop-i
invariant-loop-i l = l.releases.items ≡ each releases_each l._i
