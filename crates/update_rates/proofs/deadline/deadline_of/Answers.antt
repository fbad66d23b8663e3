use Rattle.std.proofs.Common.{◌∙◌, sym, ap}
use Rattle.response_test.specs.Loads.{window}
use Rattle.update_rates.specs.Updaters.{updater_at}
use Rattle.update_rates.proofs.Windows.{deadline-window}
use Rattle.update_rates.proofs.deadline.deadline_of.Goals as goal

pub returns-in-Some-clause-found : goal.returns-in-Some-clause-found
returns-in-Some-clause-found c =
    deadline-window c.args.updaters.now c.args.tx c.args.loads.now c.requires.tx c.requires.stand
    ∙ sym (c.in-Some.ensures.window ∙ ap (window c.args.loads.now (updater_at c.args.updaters.now c.args.tx).steps) c.min-most.ensures)

pub returns-in-None-clause-none : goal.returns-in-None-clause-none
returns-in-None-clause-none c =
    deadline-window c.args.updaters.now c.args.tx c.args.loads.now c.requires.tx c.requires.stand
    ∙ sym (c.in-None.ensures.window ∙ ap (window c.args.loads.now (updater_at c.args.updaters.now c.args.tx).steps) c.min-most.ensures)
