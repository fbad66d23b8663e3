use Rattle.std.proofs.Common.{◌≡◌, [], map, subst, arith}
use Rattle.std.specs.VecDeque.{deque_items}
use Rattle.release_calendar.specs.Queues.{QueueFacts, IsFirstTick, queued}
use Rattle.release_calendar.proofs.Firsts.{first_tick, none_waits}
use Rattle.release_calendar.proofs.queues.Queues.first.Goals as goal

pub returns-then-self-eq0 : goal.returns-then-self-eq0
returns-then-self-eq0 c = subst (λ (l : QueueFacts). queued l.queues ≡ []) c.self.view_is (none_waits (map deque_items c.self.inside.queues.items) c.self.inside.heads c.self.inside.waiting c.self.invariant.0 c.if-self-eq0.true)

pub returns-else-self-eq0 : goal.returns-else-self-eq0
returns-else-self-eq0 c =
    subst (λ (l : QueueFacts). IsFirstTick c.least.result l.queues) c.self.view_is
    (first_tick (map deque_items c.self.inside.queues.items) c.self.inside.heads c.self.inside.waiting c.least.result c.self.invariant.0 c.least.ensures (omega (arith, c.if-self-eq0.false)))
