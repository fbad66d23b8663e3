use Rattle.name_table.specs.Places.{place_in}
use Rattle.scenario_forms.proofs.FreshNames.{HasFresh, holds_ok, item_fresh}
use Rattle.scenario_forms.proofs.item.add_item.Goals as goal

pub add-requires-clause-new : goal.add-requires-clause-new
add-requires-clause-new c =
    (holds_ok (HasFresh (place_in c.args.table.now.names)) _ (c.in_ok-name.name, c.in_ok-name.decl)
    (item_fresh _ _ _) c.in_ok-name.ensures).0
