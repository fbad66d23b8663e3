use Rattle.serde_json.specs.View.{view}
use Rattle.scenario_forms.specs.Root.{forms_view}
use Rattle.scenario_reader.proofs.Counts.{forms_are_counted}
use Rattle.scenario_reader.proofs.Ranges.{forms_are_good}
use Rattle.scenario_reader.proofs.read.of_value.Goals as goal

pub of_forms-requires-clause-good : goal.of_forms-requires-clause-good
of_forms-requires-clause-good c = (forms_are_good (view c.args.value.now)
    (forms_view c.in_ok-forms.forms) c.in_ok-forms.ensures).txns

pub of_forms-requires-clause-counted : goal.of_forms-requires-clause-counted
of_forms-requires-clause-counted c =
    forms_are_counted (view c.args.value.now) (forms_view c.in_ok-forms.forms) c.requires c.in_ok-forms.ensures
