use Rattle.std.proofs.Common.{◌≡◌, ◌≤◌, [], map, replicate}
use Rattle.std.specs.List.{All}
use Rattle.std.specs.VecDeque.{deque_items, deque_capacity}
use Rattle.release_calendar.proofs.queues.Queues.new.Given as goal

abbrev pub invariant-loop : goal.invariant-loop
invariant-loop l = (map deque_items l.queues.items ≡ replicate l.counter []) × All (λ q. l.room ≤ deque_capacity q) l.queues.items
