use Rattle.std.proofs.Common.{length, ◌+◌, ◌-◌, ◌≤◌}
use Rattle.std.specs.Io.KnownBytes.{Consumes}
use Rattle.io_edge.proofs.source.read_all.Given as goal

abbrev pub invariant-loop-count : goal.invariant-loop-count
invariant-loop-count g l =
    let left = g.S.Source.left in
    let faults = g.S.Source.faults in
    record {
      so_far : Consumes (left l.fn.source) (left l.source) l.bytes.items;
      within : length l.bytes.items ≤ l.limit;
      later : faults l.fn.source ≤ faults l.source;
    }

abbrev pub decreases-loop-count : goal.decreases-loop-count
decreases-loop-count g l = l.limit + 1 - length l.bytes.items
