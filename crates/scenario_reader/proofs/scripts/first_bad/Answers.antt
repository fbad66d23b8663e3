use Rattle.std.proofs.Common.{length, map, ap, ◌∙◌, arith}
use Rattle.std.specs.List.{list_all}
use Rattle.step_script.specs.Scripts.{Operation, is_good}
use Rattle.scenario_reader.proofs.Turning.{good_script}
use Rattle.scenario_reader.proofs.scripts.first_bad.Goals as goal

pub bad_op-requires-clause-good : goal.bad_op-requires-clause-good
bad_op-requires-clause-good c =
    ap (list_all (is_good (length c.args.items.now))) c.ops.ensures
    ∙ good_script (length c.args.items.now) c.args.scripts.now c.loop-tx.tx c.index-scripts-tx.result
    (omega (arith, c.requires.each, c.loop-tx-test.true)) c.index-scripts-tx.is c.requires.good
