use Rattle.std.proofs.Common.{ℕ, ◌+◌, ◌*◌, List, arith}
use Rattle.durable_disk.specs.Records.{Reads}
use Rattle.durable_disk.proofs.RecordMoments.{started, goes_on}
use Rattle.durable_disk.proofs.Calls.{each_told, told_after}
use Rattle.durable_disk.proofs.Torn.{torn_past}
use Rattle.durable_disk.proofs.Pieces.{kept_left}
use Rattle.durable_disk.proofs.records.put_body.Goals as goal

pub returns-clause-any_moment : goal.returns-clause-any_moment
returns-clause-any_moment g c bodies behind each told =
    let d = g.D.Disk in
    let old = c.args.disk.now in
    let new = c.write_at.new.self in
    let at : ℕ = 256 * c.args.k + 1 in
    let P : List ℕ → Type 0 = λ f. Reads f bodies in
    let later = kept_left P _ at _ (d.seen old) (d.seen new) (d.may_leave old) (d.may_leave new) (λ b f. torn_past at _ b f bodies (omega (arith, behind))) c.write_at.ensures.seen c.write_at.ensures.crash each in
    goes_on d.moment d.left_since old old new P (d.may_leave new)
    (started d.moment d.left_since old P (d.may_leave old) (g.met.D.Disk.only_now old) (each_told (d.seen old) (d.may_leave old) P told each))
    c.write_at.ensures.time
    (each_told (d.seen new) (d.may_leave new) P (told_after _ (d.seen old) (d.seen new) c.write_at.ensures.seen told) later)
