use Rattle.std.proofs.Common.{◌≡◌, ◌+◌, ◌≤◌, ◌++◌, map, reverse, vec_len, vec_capacity}
use Rattle.plant_run.proofs.Deals.{Row}
use Rattle.plant_run.proofs.Crews.{teams}
use Rattle.plant_run.proofs.deal.staff.Given as goal

abbrev pub invariant-loop : goal.invariant-loop
invariant-loop g l = record {
  staffed : teams l.workers.items ++ reverse (map (λ (v : Row g.row.B.Denot g.row.Y.Denot). reverse v.items) l.lists.items) ≡ reverse (map (λ (v : Row g.row.B.Denot g.row.Y.Denot). reverse v.items) l.fn.lists.items);
  room : vec_len l.workers + vec_len l.lists ≤ vec_capacity l.workers;
  left : vec_len l.lists + l.counter ≡ vec_len l.fn.lists;
}
