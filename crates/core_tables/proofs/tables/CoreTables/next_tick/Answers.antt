use Rattle.std.proofs.Common.{◌∙◌}
use Rattle.core_tables.proofs.Plans.{least_is}
use Rattle.core_tables.proofs.Planned.{at_view}
use Rattle.core_tables.proofs.tables.CoreTables.next_tick.Goals as goal

pub returns : goal.returns
returns c = λ set s are. c.next_tick.ensures s.planned (at_view set _ _ s c.self.view_is are).planned ∙ least_is s.planned
