use Rattle.std.proofs.Common.{map, subst}
use Rattle.std.specs.VecDeque.{deque_items}
use Rattle.release_calendar.specs.Queues.{QueueFacts, IsPlace}
use Rattle.release_calendar.proofs.Firsts.{place_first}
use Rattle.release_calendar.proofs.queues.Queues.first_at.Goals as goal

pub returns : goal.returns
returns c =
    subst (λ (l : QueueFacts). IsPlace c.args.tick l.queues c.in_ok-tx.tx 0) c.self.view_is
    (place_first (map deque_items c.self.inside.queues.items) c.self.inside.heads c.self.inside.waiting c.args.tick c.in_ok-tx.tx c.self.invariant.0 c.in_ok-tx.ensures.0 c.in_ok-tx.ensures.1 c.in_ok-tx.ensures.2)
