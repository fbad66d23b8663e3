use Rattle.std.proofs.Common.{◌+◌, ◌≡◌, ◌<◌, ◌≤◌, ℕ, [], ◌∷◌, ◌++◌, List, length, set, ap, sym, ◌∙◌, subst, arith}
use Rattle.std.proofs.lemmas.List.{length-map}
use Rattle.std.proofs.lemmas.List.Elements.{All-set}
use Rattle.std.specs.List.{All}
use Rattle.std.specs.VecDeque.{deque_items, deque_capacity}
use Rattle.release_calendar.specs.declared.planned.Planned.{Planned}
use Rattle.release_calendar.specs.Queues.{QueueFacts, AreQueues, head_tick, queue_of, queued}
use Rattle.release_calendar.proofs.Keeps.{contents, contents_set, put_keeps, queue_at}
use Rattle.release_calendar.proofs.Splits.{in_all}
use Rattle.release_calendar.proofs.queues.Queues.put.Goals as goal

pub come-requires-clause-tx : goal.come-requires-clause-tx
come-requires-clause-tx c =
    let known : c.args.next.tx < length (contents c.self.inside.queues.items) = subst (λ (l : QueueFacts). c.args.next.tx < length l.queues) (sym c.self.view_is) c.requires.tx in
    omega (arith, known, c.self.invariant.0.places)

pub come-requires-clause-begins : goal.come-requires-clause-begins
come-requires-clause-begins c =
    let long = length-map c.self.inside.queues.items deque_items in
    let known : c.args.next.tx < length (contents c.self.inside.queues.items) = subst (λ (l : QueueFacts). c.args.next.tx < length l.queues) (sym c.self.view_is) c.requires.tx in
    let here : queue_of (contents c.self.inside.queues.items) c.args.next.tx ≡ c.index_mut-queue.result.now.items = queue_at c.self.inside.queues.items c.args.next.tx c.index_mut-queue.result.now c.index_mut-queue.result.now (omega (arith, known, long)) c.index_mut-queue.ensures.value in
    c.self.invariant.0.begins c.args.next.tx ∙ ap head_tick here

pub push_back_reserved-requires : goal.push_back_reserved-requires
push_back_reserved-requires c =
    let long = length-map c.self.inside.queues.items deque_items in
    let known : c.args.next.tx < length (contents c.self.inside.queues.items) = subst (λ (l : QueueFacts). c.args.next.tx < length l.queues) (sym c.self.view_is) c.requires.tx in
    let here : queue_of (contents c.self.inside.queues.items) c.args.next.tx ≡ c.index_mut-queue.result.now.items = queue_at c.self.inside.queues.items c.args.next.tx c.index_mut-queue.result.now c.index_mut-queue.result.now (omega (arith, known, long)) c.index_mut-queue.ensures.value in
    let fits : length (queued (contents c.self.inside.queues.items)) < c.self.inside.room = subst (λ (l : QueueFacts). length (queued l.queues) < l.room) (sym c.self.view_is) c.requires.room in
    let room : c.self.inside.room ≤ deque_capacity c.index_mut-queue.result.now = subst (λ q. c.self.inside.room ≤ deque_capacity q) (sym c.index_mut-queue.ensures.value) (c.self.invariant.1 c.args.next.tx c.index_mut-queue.result.now (omega (arith, known, long))) in
    omega (arith, in_all (contents c.self.inside.queues.items) c.args.next.tx known, ap length here, fits, room, c.index_mut-queue.result.now.ok)

pub invariant_of-self : goal.invariant_of-self
invariant_of-self c =
    let long = length-map c.self.inside.queues.items deque_items in
    let known : c.args.next.tx < length (contents c.self.inside.queues.items) = subst (λ (l : QueueFacts). c.args.next.tx < length l.queues) (sym c.self.view_is) c.requires.tx in
    let here : queue_of (contents c.self.inside.queues.items) c.args.next.tx ≡ c.index_mut-queue.result.now.items = queue_at c.self.inside.queues.items c.args.next.tx c.index_mut-queue.result.now c.index_mut-queue.result.now (omega (arith, known, long)) c.index_mut-queue.ensures.value in
    let now : contents (set c.self.inside.queues.items c.args.next.tx c.push_back_reserved.new.self) ≡ set (contents c.self.inside.queues.items) c.args.next.tx (queue_of (contents c.self.inside.queues.items) c.args.next.tx ++ c.args.next ∷ []) = contents_set c.self.inside.queues.items c.args.next.tx c.index_mut-queue.result.now c.push_back_reserved.new.self (λ q. q ++ c.args.next ∷ []) (omega (arith, known, long)) c.index_mut-queue.ensures.value c.push_back_reserved.ensures.items in
    let room : c.self.inside.room ≤ deque_capacity c.index_mut-queue.result.now = subst (λ q. c.self.inside.room ≤ deque_capacity q) (sym c.index_mut-queue.ensures.value) (c.self.invariant.1 c.args.next.tx c.index_mut-queue.result.now (omega (arith, known, long))) in (
      subst (λ (qs : List (List Planned)). AreQueues qs c.come.new.heads (c.self.inside.waiting + 1)) (sym now)
          (subst (λ (hs : List ℕ). AreQueues (set (contents c.self.inside.queues.items) c.args.next.tx (queue_of (contents c.self.inside.queues.items) c.args.next.tx ++ c.args.next ∷ [])) hs (c.self.inside.waiting + 1)) (sym (c.come.ensures ∙ ap (λ (q : List Planned). set c.self.inside.heads c.args.next.tx (head_tick (q ++ c.args.next ∷ []))) (sym here)))
          (put_keeps (contents c.self.inside.queues.items) c.self.inside.heads c.self.inside.waiting c.args.next c.self.invariant.0 known c.requires.tick
          (subst (λ (l : QueueFacts). All (λ p. p.tick ≤ c.args.next.tick) (queue_of l.queues c.args.next.tx)) (sym c.self.view_is) c.requires.rising))),
      All-set (λ q. c.self.inside.room ≤ deque_capacity q) c.self.inside.queues.items c.args.next.tx c.push_back_reserved.new.self (omega (arith, room, c.push_back_reserved.ensures.capacity)) c.self.invariant.1,
    )

pub returns-clause-queues : goal.returns-clause-queues
returns-clause-queues c =
    let known : c.args.next.tx < length (contents c.self.inside.queues.items) = subst (λ (l : QueueFacts). c.args.next.tx < length l.queues) (sym c.self.view_is) c.requires.tx in
    subst (λ (l : QueueFacts). contents (set c.self.inside.queues.items c.args.next.tx c.push_back_reserved.new.self) ≡ set l.queues c.args.next.tx (queue_of l.queues c.args.next.tx ++ c.args.next ∷ [])) c.self.view_is
    (contents_set c.self.inside.queues.items c.args.next.tx c.index_mut-queue.result.now c.push_back_reserved.new.self (λ q. q ++ c.args.next ∷ []) (omega (arith, known, length-map c.self.inside.queues.items deque_items)) c.index_mut-queue.ensures.value c.push_back_reserved.ensures.items)
