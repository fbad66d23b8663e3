use Rattle.std.proofs.Common.{◌≡◌, ◌≤◌, drop, vec_len, vec_capacity}
use Rattle.c_stations.specs.Calls.{held_all}
use Rattle.c_stations.proofs.queue.make_all.Given as goal

abbrev pub invariant-loop-call : goal.invariant-loop-call
invariant-loop-call l = record {
  bytes : held_all l.file.items (drop l.call-index l.calls) ≡ held_all l.fn.file.items l.calls;
  len : vec_len l.file ≤ l.room;
  capacity : l.room ≤ vec_capacity l.file;
}
