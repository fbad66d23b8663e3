use Rattle.std.proofs.Common.{◌≡◌, ℕ, ◌<◌, List, length, get_or, ap, sym, ◌∙◌, subst, inl, inr, arith}
use Rattle.std.proofs.lemmas.Bool.{cases_lt}
use Rattle.std.proofs.lemmas.List.{length-map}
use Rattle.std.specs.VecDeque.{deque_items}
use Rattle.release_calendar.specs.declared.planned.Planned.{Planned}
use Rattle.release_calendar.specs.Queues.{QueueFacts, NoneAt, IsQueue, queue_of}
use Rattle.release_calendar.proofs.Firsts.{place_found, none_in_all}
use Rattle.release_calendar.proofs.Keeps.{queue_at}
use Rattle.release_calendar.proofs.queues.Queues.search.Goals as goal

pub returns-in-Some : goal.returns-in-Some
returns-in-Some c =
    let same = ap (λ (l : QueueFacts). l.queues) c.self.view_is in
    let long : length c.args.self.now.queues ≡ length c.self.inside.queues.items = ap length (sym same) ∙ length-map c.self.inside.queues.items deque_items in
    let known : c.loop-tx.tx < length c.self.inside.queues.items = omega (arith, c.len-tx-end.ensures, c.loop-tx-test.true) in
    let here : queue_of c.args.self.now.queues c.loop-tx.tx ≡ c.index.result.now.items = ap (λ q. queue_of q c.loop-tx.tx) (sym same) ∙ queue_at c.self.inside.queues.items c.loop-tx.tx c.index.result.now c.index.result.now known c.index.ensures in
    place_found c.args.self.now.queues c.args.tick c.loop-tx.tx c.in-Some.index
    (subst (λ (l : QueueFacts). (k : ℕ) → IsQueue k (queue_of l.queues k)) c.self.view_is c.self.invariant.0.each)
    c.loop-tx.invariant
    (omega (arith, known, long))
    (omega (arith, ap length here, c.in-Some.ensures.0))
    (λ d. ap (λ q. (get_or q c.in-Some.index d).tick) here ∙ c.in-Some.ensures.1 d)

pub loop-tx-preserved : goal.loop-tx-preserved
loop-tx-preserved c k lt =
    let same = ap (λ (l : QueueFacts). l.queues) c.self.view_is in
    let known : c.loop-tx.tx < length c.self.inside.queues.items = omega (arith, c.len-tx-end.ensures, c.loop-tx-test.true) in
    let here : queue_of c.args.self.now.queues c.loop-tx.tx ≡ c.index.result.now.items = ap (λ q. queue_of q c.loop-tx.tx) (sym same) ∙ queue_at c.self.inside.queues.items c.loop-tx.tx c.index.result.now c.index.result.now known c.index.ensures in
    elim (cases_lt k c.loop-tx.tx) [
      | inl below ↦ c.loop-tx.invariant k below
      | inr above ↦ (
          let e : k ≡ c.loop-tx.tx = omega (arith, lt, above) in
          subst (λ (n : ℕ). NoneAt c.args.tick (queue_of c.args.self.now.queues n)) (sym e) (subst (λ (q : List Planned). NoneAt c.args.tick q) (sym here) c.in_default.ensures))
    ]

pub returns : goal.returns
returns c =
    let same = ap (λ (l : QueueFacts). l.queues) c.self.view_is in
    let long : length c.args.self.now.queues ≡ length c.self.inside.queues.items = ap length (sym same) ∙ length-map c.self.inside.queues.items deque_items in
    none_in_all c.args.self.now.queues c.args.tick (λ k lt. c.loop-tx.invariant k (omega (arith, lt, long, c.len-tx-end.ensures, c.loop-tx-test.false)))
