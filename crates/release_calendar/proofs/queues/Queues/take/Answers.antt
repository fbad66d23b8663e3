use Rattle.std.proofs.Common.{◌≡◌, ℕ, ◌<◌, ◌-◌, List, length, set, ap, sym, ◌∙◌, subst, arith}
use Rattle.std.specs.List.{remove}
use Rattle.release_calendar.specs.declared.planned.Planned.{Planned}
use Rattle.release_calendar.specs.Queues.{QueueFacts, AreQueues, queue_of, head_tick}
use Rattle.release_calendar.proofs.Keeps.{Took, took, contents, left_low, take_keeps}
use Rattle.release_calendar.proofs.Splits.{in_all}
use Rattle.release_calendar.proofs.queues.Queues.take.Goals as goal

pub set-requires-clause-tx : goal.set-requires-clause-tx
set-requires-clause-tx c =
    let known : c.args.place.tx < length (contents c.self.inside.queues.items) = subst (λ (l : QueueFacts). c.args.place.tx < length l.queues) (sym c.self.view_is) c.requires.tx in
    omega (arith, known, c.self.invariant.0.places)

pub set-requires-clause-tick : goal.set-requires-clause-tick
set-requires-clause-tick c =
    let t : Took c.self.inside.queues.items c.args.place.tx c.args.place.index c.out_of-taken.new.queue c.out_of-taken.result c.self.inside.room =
    took c.self.inside.queues.items c.args.place.tx c.args.place.index c.index_mut-queue.result.now c.out_of-taken.new.queue c.out_of-taken.result c.self.inside.room (subst (λ (l : QueueFacts). c.args.place.tx < length l.queues) (sym c.self.view_is) c.requires.tx) (subst (λ (l : QueueFacts). c.args.place.index < length (queue_of l.queues c.args.place.tx)) (sym c.self.view_is) c.requires.index)
    c.index_mut-queue.ensures.value c.out_of-taken.ensures.value c.out_of-taken.ensures.items c.out_of-taken.ensures.capacity c.self.invariant.1 in
    omega (arith, c.begins.ensures, ap head_tick t.left, left_low c.args.place.tx (queue_of (contents c.self.inside.queues.items) c.args.place.tx) c.args.place.index t.within (c.self.invariant.0.each c.args.place.tx))

pub overflow_sub-self : goal.overflow_sub-self
overflow_sub-self c =
    let t : Took c.self.inside.queues.items c.args.place.tx c.args.place.index c.out_of-taken.new.queue c.out_of-taken.result c.self.inside.room =
    took c.self.inside.queues.items c.args.place.tx c.args.place.index c.index_mut-queue.result.now c.out_of-taken.new.queue c.out_of-taken.result c.self.inside.room (subst (λ (l : QueueFacts). c.args.place.tx < length l.queues) (sym c.self.view_is) c.requires.tx) (subst (λ (l : QueueFacts). c.args.place.index < length (queue_of l.queues c.args.place.tx)) (sym c.self.view_is) c.requires.index)
    c.index_mut-queue.ensures.value c.out_of-taken.ensures.value c.out_of-taken.ensures.items c.out_of-taken.ensures.capacity c.self.invariant.1 in
    omega (arith, in_all (contents c.self.inside.queues.items) c.args.place.tx t.known, t.within, c.self.invariant.0.count)

pub invariant_of-self : goal.invariant_of-self
invariant_of-self c =
    let t : Took c.self.inside.queues.items c.args.place.tx c.args.place.index c.out_of-taken.new.queue c.out_of-taken.result c.self.inside.room =
    took c.self.inside.queues.items c.args.place.tx c.args.place.index c.index_mut-queue.result.now c.out_of-taken.new.queue c.out_of-taken.result c.self.inside.room (subst (λ (l : QueueFacts). c.args.place.tx < length l.queues) (sym c.self.view_is) c.requires.tx) (subst (λ (l : QueueFacts). c.args.place.index < length (queue_of l.queues c.args.place.tx)) (sym c.self.view_is) c.requires.index)
    c.index_mut-queue.ensures.value c.out_of-taken.ensures.value c.out_of-taken.ensures.items c.out_of-taken.ensures.capacity c.self.invariant.1 in (
      subst (λ (qs : List (List Planned)). AreQueues qs c.set.new.self (c.self.inside.waiting - 1)) (sym t.now)
          (subst (λ (hs : List ℕ). AreQueues (set (contents c.self.inside.queues.items) c.args.place.tx (remove (queue_of (contents c.self.inside.queues.items) c.args.place.tx) c.args.place.index)) hs (c.self.inside.waiting - 1)) (sym (c.set.ensures ∙ ap (set c.self.inside.heads c.args.place.tx) (c.begins.ensures ∙ ap head_tick t.left)))
          (take_keeps (contents c.self.inside.queues.items) c.self.inside.heads c.self.inside.waiting c.args.place.tx c.args.place.index c.out_of-taken.result c.self.invariant.0 t.known t.within t.at)),
      t.rooms,
    )

pub returns-clause-queues : goal.returns-clause-queues
returns-clause-queues c =
    let t : Took c.self.inside.queues.items c.args.place.tx c.args.place.index c.out_of-taken.new.queue c.out_of-taken.result c.self.inside.room =
    took c.self.inside.queues.items c.args.place.tx c.args.place.index c.index_mut-queue.result.now c.out_of-taken.new.queue c.out_of-taken.result c.self.inside.room (subst (λ (l : QueueFacts). c.args.place.tx < length l.queues) (sym c.self.view_is) c.requires.tx) (subst (λ (l : QueueFacts). c.args.place.index < length (queue_of l.queues c.args.place.tx)) (sym c.self.view_is) c.requires.index)
    c.index_mut-queue.ensures.value c.out_of-taken.ensures.value c.out_of-taken.ensures.items c.out_of-taken.ensures.capacity c.self.invariant.1 in
    subst (λ (l : QueueFacts). contents (set c.self.inside.queues.items c.args.place.tx c.out_of-taken.new.queue) ≡ set l.queues c.args.place.tx (remove (queue_of l.queues c.args.place.tx) c.args.place.index)) c.self.view_is t.now

pub returns-clause-own : goal.returns-clause-own
returns-clause-own c =
    let t : Took c.self.inside.queues.items c.args.place.tx c.args.place.index c.out_of-taken.new.queue c.out_of-taken.result c.self.inside.room =
    took c.self.inside.queues.items c.args.place.tx c.args.place.index c.index_mut-queue.result.now c.out_of-taken.new.queue c.out_of-taken.result c.self.inside.room (subst (λ (l : QueueFacts). c.args.place.tx < length l.queues) (sym c.self.view_is) c.requires.tx) (subst (λ (l : QueueFacts). c.args.place.index < length (queue_of l.queues c.args.place.tx)) (sym c.self.view_is) c.requires.index)
    c.index_mut-queue.ensures.value c.out_of-taken.ensures.value c.out_of-taken.ensures.items c.out_of-taken.ensures.capacity c.self.invariant.1 in
    ap (λ (p : Planned). p.tx) t.at ∙ (c.self.invariant.0.each c.args.place.tx).own c.args.place.index c.out_of-taken.result t.within
