use Rattle.std.proofs.Common.{OnOk, List, map, ap, subst}
use Rattle.std.specs.List.{All}
use Rattle.step_script.specs.declared.script.Script.{Script}
use Rattle.step_script.specs.Scripts.{program_of}
use Rattle.step_script.specs.Shown.{shown}
use Rattle.scenario_writer.specs.Integers.{ProgramHasIntegers}
use Rattle.scenario_writer.proofs.Ranges.{writable_as}
use Rattle.scenario_writer.proofs.txns.txns.Goals as goal

pub txn_list-requires : goal.txn_list-requires
txn_list-requires c = writable_as (shown c.args.scenario.now) c.requires _ _ _ _ _ c.as_slice-names.ensures
    c.as_slice.ensures c.as_slice-2.ensures (ap (map program_of) c.as_slice-3.ensures) c.as_slice-4.ensures

pub returns-clause-fits : goal.returns-clause-fits
returns-clause-fits c = subst (λ (ss : List Script). OnOk c.txn_list.result (All (λ s. ProgramHasIntegers (program_of s)) ss))
    c.as_slice-3.ensures c.txn_list.ensures.fits
