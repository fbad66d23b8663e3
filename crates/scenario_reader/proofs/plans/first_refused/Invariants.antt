use Rattle.std.proofs.Common.{◌≡◌, drop}
use Rattle.step_script.specs.Releases.{refused_from}
use Rattle.scenario_reader.proofs.plans.first_refused.Given as goal

abbrev pub invariant-loop-tx : goal.invariant-loop-tx
invariant-loop-tx l =
    refused_from l.tx (drop l.tx l.txns) (drop l.tx l.releases) ≡ refused_from 0 l.txns l.releases
