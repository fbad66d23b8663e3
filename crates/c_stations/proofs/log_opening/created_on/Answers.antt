use Rattle.std.proofs.Common.{◌+◌, []}
use Rattle.c_stations.proofs.Transfers.{stood_goes}
use Rattle.c_stations.proofs.log_opening.created_on.Goals as goal

pub returns-in-Ok-clause-holds : goal.returns-in-Ok-clause-holds
returns-in-Ok-clause-holds g c names set =
    stood_goes names set g.T.Based.base c.in-Ok.log.disk c.into_disk.result c.into_queue.result c.in-Ok.log.count (c.len-count.result + 1) c.in-Ok.log.stopped [] c.into_disk.ensures c.into_queue.ensures c.len-count.ensures c.in-Ok.ensures.goes.0
    (c.in-Ok.ensures.stands names set)

pub returns-in-Err-clause-refused : goal.returns-in-Err-clause-refused
returns-in-Err-clause-refused g c = c.refused_by.ensures.made _ _ c.in-Err.ensures.cause
