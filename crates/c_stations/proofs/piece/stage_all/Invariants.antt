use Rattle.std.proofs.Common.{◌≡◌, ℕ, ◌↔◌, List, [], length, take, IsSome}
use Rattle.std.specs.List.{AllByRecursion}
use Rattle.durable_disk.specs.Device.{LeavesOnly}
use Rattle.durable_disk.specs.Records.{Reads}
use Rattle.durable_disk.specs.Standing.{IsStaging}
use Rattle.durable_journal.specs.Format.{entry_bodies}
use Rattle.durable_journal.specs.Log.{Fits}
use Rattle.c_stations.proofs.piece.stage_all.Given as goal

abbrev pub invariant-loop-i : goal.invariant-loop-i
invariant-loop-i g l =
    let d = g.D.Disk in
    let old = l.fn.records in
    let now = l.records in
    record {
      count : now.count ≡ old.count;
      told : IsSome (d.seen old.disk) ↔ IsSome (d.seen now.disk);
      fit : AllByRecursion (Fits l.names) (take l.i l.entries);
      staged : (bodies : List (List ℕ)) → old.count ≡ length bodies → IsStaging (d.seen old.disk) (d.may_leave old.disk) bodies []
          → IsStaging (d.seen now.disk) (d.may_leave now.disk) bodies (entry_bodies l.names (take l.i l.entries));
      moments : (bodies : List (List ℕ)) → old.count ≡ length bodies → IsStaging (d.seen old.disk) (d.may_leave old.disk) bodies [] → IsSome (d.seen old.disk)
          → LeavesOnly d.moment d.left_since old.disk now.disk (λ c. Reads c bodies);
    }
