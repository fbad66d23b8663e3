use Rattle.report_export.proofs.Bounding.{within_bounds}
use Rattle.report_export.proofs.worst_law.worst_is_within_bounds.Goals as goal

pub returns : goal.returns
returns c =
    within_bounds c.deadlines.ensures.in_time c.one_delay.ensures c.fresh_together.ensures.consistent
    c.admitted_unless_refused.ensures c.admitted_keeps_bounds.ensures
