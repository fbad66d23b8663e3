use Rattle.std.proofs.Common.{rules, arith, refl}
use Rattle.durable_disk.proofs.Found.{found_short_told}
use Rattle.durable_disk.proofs.records.read_slot.Goals as goal

pub returns-then-count-lt-WIDTH-clause-found : goal.returns-then-count-lt-WIDTH-clause-found
returns-then-count-lt-WIDTH-clause-found g c =
    found_short_told c.found_in.result c.args.k _ c.in_ok-count.count (g.D.Disk.seen c.args.disk.now) c.read_at.new.into _ (omega arith) c.in_ok-count.ensures.bytes c.if-count-lt-WIDTH.true (search rules) refl
    c.found_in.ensures.found c.found_in.ensures.short
