use Rattle.std.proofs.Common.{◌≡◌, ◌+◌, ◌++◌, vec_len, vec_capacity}
use Rattle.plant_run.specs.Deals.{seats_of}
use Rattle.plant_run.proofs.gather.leave.Given as goal

abbrev pub invariant-loop : goal.invariant-loop
invariant-loop g l = record {
  seats : l.fn.seats.items ++ seats_of l.fn.members.items ≡ l.seats.items ++ seats_of l.members.items;
  len : vec_len l.seats + vec_len l.members ≡ vec_len l.fn.seats + vec_len l.fn.members;
  left : vec_len l.members + l.counter ≡ vec_len l.fn.members;
  places : vec_capacity l.seats ≡ vec_capacity l.fn.seats;
}
