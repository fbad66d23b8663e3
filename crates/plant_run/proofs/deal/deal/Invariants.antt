use Rattle.std.proofs.Common.{◌≡◌, ◌+◌, ◌-◌, ℕ, List, take, length, map, vec_len, vec_capacity, Vec, Global}
use Rattle.step_journal.specs.declared.entry.Entry.{Entry}
use Rattle.shared_plant.specs.Seats.{TableId, newcomers}
use Rattle.txn_threads.specs.declared.member.Member.{Member}
use Rattle.plant_run.specs.Deals.{AreDealt, HavePlaces}
use Rattle.plant_run.specs.Runs.{eager_jobs_at}
use Rattle.plant_run.proofs.deal.deal.Given as goal

abbrev pub invariant-loop-dealt : goal.invariant-loop-dealt
invariant-loop-dealt g l = let left = length l.releases - l.dealt in record {
  bodies : l.bodies.items ≡ take left l.fn.bodies.items;
  bodies_left : vec_len l.bodies + l.dealt ≡ length l.releases;
  seats_left : vec_len l.seats + l.dealt ≡ length l.releases;
  capacity : vec_capacity l.seats ≡ vec_capacity l.fn.seats;
  number : length l.lists ≡ length l.fn.lists;
  places : HavePlaces left l.lists;
  dealt : (id : TableId) (past : List Entry) (first : ℕ) → l.fn.seats.items ≡ newcomers id past first (length l.releases)
      → (l.seats.items ≡ newcomers id past first left)
      × AreDealt g.Y.Body.gives (map g.Y.Body.gives l.fn.bodies.items) l.releases (eager_jobs_at l.eager_jobs) id past first left (map (λ (v : Vec (Member g.row.B.Denot g.row.Y.Denot) Global). v.items) l.lists);
}
