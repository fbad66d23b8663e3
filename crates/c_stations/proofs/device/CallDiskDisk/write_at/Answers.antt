use Rattle.std.proofs.Common.{reverse, length, subst}
use Rattle.durable_disk.specs.Images.{Torn}
use Rattle.durable_disk.specs.Device.{Follows}
use Rattle.c_stations.specs.Calls.{MayLeave}
use Rattle.c_stations.specs.Device.{Device}
use Rattle.c_stations.proofs.Moments.{write_follows, refused_follows}
use Rattle.c_stations.proofs.device.CallDiskDisk.write_at.Goals as goal

pub returns-in-Ok-clause-crash : goal.returns-in-Ok-clause-crash
returns-in-Ok-clause-crash g c =
    let base = g.T.Based.base in
    let at = c.args.at in
    let bytes = c.args.bytes.now in
    let new = c.write.new.self.calls in
    subst (λ (s : Device). Follows (Torn at (length bytes)) (MayLeave base (reverse s.calls)) (MayLeave base (reverse new))) c.self.view_is
    (write_follows base at bytes c.self.inside.queue.calls new c.in-Ok.ensures.noted)

pub returns-in-Err-clause-crash : goal.returns-in-Err-clause-crash
returns-in-Err-clause-crash g c =
    let base = g.T.Based.base in
    let at = c.args.at in
    let bytes = c.args.bytes.now in
    let new = c.write.new.self.calls in
    subst (λ (s : Device). Follows (Torn at (length bytes)) (MayLeave base (reverse s.calls)) (MayLeave base (reverse new))) c.self.view_is
    (refused_follows base at (length bytes) c.self.inside.queue.calls new c.in-Err.ensures.refused)
