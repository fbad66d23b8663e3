use Rattle.std.proofs.Common.{IfErr, subst}
use Rattle.c_stations.specs.Device.{Queued}
use Rattle.c_stations.specs.Opening.{WhyUnread}
use Rattle.c_stations.proofs.Transfers.{created_holds}
use Rattle.c_stations.proofs.log_opening.found_in.Goals as goal

pub returns-then-is_empty-clause-holds : goal.returns-then-is_empty-clause-holds
returns-then-is_empty-clause-holds c = created_holds c.args.names.now c.args.set.now c.created.result c.created.ensures.found c.created.ensures.holds

pub returns-else-is_empty-clause-refused : goal.returns-else-is_empty-clause-refused
returns-else-is_empty-clause-refused c =
    subst (λ (q : Queued). IfErr c.opened.result (WhyUnread c.args.names.now c.args.set.now c.args.room q.base)) c.in-Ok.ensures c.opened.ensures.refused
