use Rattle.std.proofs.Common.{◌++◌, take}
use Rattle.durable_journal.specs.Log.{StandsFor}
use Rattle.durable_tests.proofs.base.append_each.Given as goal

abbrev pub invariant-loop-entry : goal.invariant-loop-entry
invariant-loop-entry g l =
    let d = g.D.Disk in
    StandsFor d.seen d.may_leave l.names l.set l.log (l.found ++ take l.entry-index l.rest)
