use Rattle.std.proofs.Common.{map, subst}
use Rattle.std.proofs.lemmas.Bool.{leb-false}
use Rattle.std.specs.VecDeque.{deque_items}
use Rattle.release_calendar.specs.Queues.{QueueFacts, NoneAt, queued}
use Rattle.release_calendar.proofs.Firsts.{none_before}
use Rattle.release_calendar.proofs.queues.Queues.may_have.Goals as goal

pub returns : goal.returns
returns c out =
    subst (λ (l : QueueFacts). NoneAt c.args.tick (queued l.queues)) c.self.view_is
    (none_before (map deque_items c.self.inside.queues.items) c.self.inside.heads c.self.inside.waiting c.least.result c.args.tick c.self.invariant.0 c.least.ensures (leb-false c.least.result c.args.tick out))
