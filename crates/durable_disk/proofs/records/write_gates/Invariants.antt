use Rattle.std.proofs.Common.{◌≡◌, ℕ, ◌+◌, ◌≤◌, ◌↔◌, List, length, IfSome, IsSome}
use Rattle.durable_disk.specs.Device.{LeavesOnly}
use Rattle.durable_disk.specs.Records.{HasBodies}
use Rattle.durable_disk.specs.Standing.{EachLeft}
use Rattle.durable_disk.proofs.records.write_gates.Given as goal

abbrev pub invariant-loop-i : goal.invariant-loop-i
invariant-loop-i g l =
    let d = g.D.Disk in
    let old = l.fn.disk in
    let now = l.disk in
    record {
      later : d.faults old ≤ d.faults now;
      told : IsSome (d.seen old) ↔ IsSome (d.seen now);
      opened : (all : List (List ℕ)) → l.k + l.n ≡ length all → IfSome (d.seen old) (λ file. HasBodies file all l.k) → IfSome (d.seen now) (λ file. HasBodies file all (l.k + l.i));
      each : (all : List (List ℕ)) → l.k + l.n ≡ length all → EachLeft (d.seen old) (d.may_leave old) (λ c. HasBodies c all l.k) → EachLeft (d.seen now) (d.may_leave now) (λ c. HasBodies c all l.k);
      moments : (all : List (List ℕ)) → l.k + l.n ≡ length all → EachLeft (d.seen old) (d.may_leave old) (λ c. HasBodies c all l.k) → IsSome (d.seen old)
          → LeavesOnly d.moment d.left_since old now (λ c. HasBodies c all l.k);
    }
