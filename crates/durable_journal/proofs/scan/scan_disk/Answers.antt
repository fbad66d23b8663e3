use Rattle.durable_journal.proofs.Scanning.{passes_none, passes_more, passes_then}
use Rattle.durable_journal.proofs.scan.scan_disk.Goals as goal

pub returns-in-Ok-tables_of-clause-passes : goal.returns-in-Ok-tables_of-clause-passes
returns-in-Ok-tables_of-clause-passes g c =
    let d = g.D.Disk in
    let old = c.args.disk.now in
    let synced = c.sync.new.self in
    let read = c.read_head.new.disk in
    passes_then d.seen d.may_leave d.moment d.left_since old read c.read_entries.new.disk
    (passes_more d.seen d.may_leave d.moment d.left_since old synced read
    (passes_more d.seen d.may_leave d.moment d.left_since old old synced
    (passes_none d.seen d.may_leave d.moment d.left_since old (g.met.D.Disk.only_now old))
    c.sync.ensures.seen c.sync.ensures.crash c.sync.ensures.time)
    c.read_head.ensures.seen c.read_head.ensures.crash c.read_head.ensures.time)
    c.read_entries.ensures.passes
