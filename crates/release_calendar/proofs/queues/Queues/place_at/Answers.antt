use Rattle.std.proofs.Common.{map, subst}
use Rattle.std.specs.VecDeque.{deque_items}
use Rattle.release_calendar.specs.Queues.{QueueFacts, NoneAt, queued}
use Rattle.release_calendar.proofs.Firsts.{none_before}
use Rattle.release_calendar.proofs.queues.Queues.place_at.Goals as goal

pub returns-then-tick-least : goal.returns-then-tick-least
returns-then-tick-least c =
    subst (λ (l : QueueFacts). NoneAt c.args.tick (queued l.queues)) c.self.view_is
    (none_before (map deque_items c.self.inside.queues.items) c.self.inside.heads c.self.inside.waiting c.least.result c.args.tick c.self.invariant.0 c.least.ensures c.if-tick-least.true)
