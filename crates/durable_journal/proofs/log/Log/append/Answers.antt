use Rattle.std.proofs.Common.{◌≡◌, false, IsSome, subst}
use Rattle.durable_disk.specs.Device.{LeavesOnly}
use Rattle.durable_disk.specs.Records.{IsBeforeOrAfter as IsEither}
use Rattle.durable_disk.specs.Standing.{RecordsSeen}
use Rattle.durable_journal.specs.Format.{bodies_of}
use Rattle.durable_journal.specs.Log.{IsBeforeOrAfter, Stood}
use Rattle.durable_journal.proofs.Crash.{either_opens, weaken}
use Rattle.durable_journal.proofs.log.Log.append.Goals as goal

pub returns-clause-any_moment : goal.returns-clause-any_moment
returns-clause-any_moment g c entries legal =
    let d = g.D.Disk in
    let names = c.args.names.now in
    let set = c.args.set.now in
    let new = c.append.new.self.disk in
    let body = c.body_in-body.result in
    let either = IsBeforeOrAfter names set entries c.args.entry in
    subst (λ (log : RecordsSeen _). log.stopped ≡ false → Stood names set (d.seen log.disk) (d.may_leave log.disk) log.count log.stopped entries → IsSome (d.seen log.disk) → LeavesOnly d.moment d.left_since log.disk new either) c.self.view_is
    (λ goes s told. weaken d.moment d.left_since c.self.inside.records.disk new (IsEither (bodies_of names entries) body) either
    (c.append.ensures.any_moment (bodies_of names entries) goes s.records told)
    (λ image. either_opens c.lines_both_ways.ensures c.found_as_read.ensures.found names c.requires.names.0 c.requires.names.1 set image entries c.args.entry body c.body_in-body.ensures.body s.fit c.body_in-body.ensures.fits legal))
