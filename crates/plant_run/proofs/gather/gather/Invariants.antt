use Rattle.std.proofs.Common.{◌≡◌, ◌+◌, ◌++◌, length, vec_len, vec_capacity}
use Rattle.turn_cell.specs.Turn.{total}
use Rattle.txn_threads.specs.declared.member.Worker.{Worker}
use Rattle.plant_run.specs.Deals.{team_of, seats_in}
use Rattle.plant_run.proofs.gather.gather.Given as goal

abbrev pub invariant-loop : goal.invariant-loop
invariant-loop g l = record {
  seats : l.fn.seats.items ++ seats_in l.fn.workers.items ≡ l.seats.items ++ seats_in l.workers.items;
  len : vec_len l.seats + total (λ (w : Worker g.row.B.Denot g.row.Y.Denot). length (team_of w)) l.workers.items ≡ vec_len l.fn.seats + total (λ (w : Worker g.row.B.Denot g.row.Y.Denot). length (team_of w)) l.fn.workers.items;
  left : vec_len l.workers + l.counter ≡ vec_len l.fn.workers;
  places : vec_capacity l.seats ≡ vec_capacity l.fn.seats;
}
