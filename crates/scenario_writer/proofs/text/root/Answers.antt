use Rattle.std.proofs.lemmas.Result.{on_ok_weaker}
use Rattle.step_script.specs.Shown.{shown}
use Rattle.scenario_writer.specs.Integers.{ProgramHasIntegers}
use Rattle.scenario_writer.proofs.Ranges.{all_programs}
use Rattle.scenario_writer.proofs.Whole.{whole_scenario}
use Rattle.scenario_writer.proofs.text.root.Goals as goal

pub returns-clause-data : goal.returns-clause-data
returns-clause-data c = on_ok_weaker c.end_object.result (whole_scenario (shown c.args.scenario.now)
    c.is_second-second.result c.version.result _ _ _ _ _ _ _ c.is_second-second.ensures c.version.ensures
    c.in_ok-begin_object.ensures c.in_ok-put_items.ensures.data c.in_ok-put_sets.ensures c.in_ok-put_txns.ensures.data
    c.in_ok-put_whole.ensures) c.end_object.ensures

pub returns-clause-fits : goal.returns-clause-fits
returns-clause-fits c = on_ok_weaker c.end_object.result (λ e. record {
  initial = c.in_ok-put_items.ensures.fits;
  programs = all_programs ProgramHasIntegers c.args.scenario.now.scripts c.in_ok-put_txns.ensures.fits;
}) c.end_object.ensures
