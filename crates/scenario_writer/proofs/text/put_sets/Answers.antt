use Rattle.std.proofs.Common.{rules}
use Rattle.step_script.specs.Shown.{shown}
use Rattle.scenario_writer.proofs.Ranges.{sets_below}
use Rattle.scenario_writer.proofs.text.put_sets.Goals as goal

pub sets-requires : goal.sets-requires
sets-requires c = let h = sets_below (shown c.args.scenario.now) c.requires in search (rules, h)
