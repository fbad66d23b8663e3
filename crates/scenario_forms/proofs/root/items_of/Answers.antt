use Rattle.scenario_forms.proofs.Elements.{few_values}
use Rattle.scenario_forms.proofs.root.items_of.Goals as goal

pub items-requires : goal.items-requires
items-requires c = few_values _ _ _ c.in_ok-values.values.now c.in_ok-values.ensures c.requires
