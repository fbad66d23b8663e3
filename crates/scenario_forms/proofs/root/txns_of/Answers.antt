use Rattle.scenario_forms.proofs.Elements.{few_values}
use Rattle.scenario_forms.proofs.root.txns_of.Goals as goal

pub txns-requires : goal.txns-requires
txns-requires c = few_values _ _ _ c.in_ok-values.values.now c.in_ok-values.ensures c.requires
