use Rattle.std.proofs.Common.{◌≡◌, drop}
use Rattle.step_script.specs.Releases.{refused_tick, ticks_of}
use Rattle.scenario_reader.proofs.plans.refused_in.Given as goal

abbrev pub invariant-loop-index : goal.invariant-loop-index
invariant-loop-index l =
    refused_tick l.index l.earliest l.txn.period (drop l.index (ticks_of l.txn l.releases))
    ≡ refused_tick 0 0 l.txn.period (ticks_of l.txn l.releases)
