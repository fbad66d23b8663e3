use Rattle.std.proofs.Common.{[], ◌≡◌, List, ap, ◌∙◌, arith, replicate}
use Rattle.release_calendar.specs.declared.planned.Planned.{Planned}
use Rattle.release_calendar.proofs.Keeps.{contents, new_keeps}
use Rattle.release_calendar.proofs.queues.Queues.new.Goals as goal

pub invariant_of-result : goal.invariant_of-result
invariant_of-result c =
    let all : c.loop.counter ≡ c.args.transactions = omega (arith, c.loop-test.false, c.loop.auto.counter-end) in (
      new_keeps (contents c.loop.queues.items) c.in_ok-heads.heads c.args.transactions (c.loop.invariant.0 ∙ ap (λ n. replicate {A = List Planned} n []) all) c.in_ok-heads.ensures.size c.in_ok-heads.ensures.none,
      c.loop.invariant.1,
    )
