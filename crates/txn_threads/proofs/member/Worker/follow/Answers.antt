use Rattle.std.proofs.Common.{refl, arith}
use Rattle.txn_threads.proofs.Rounding.{sit_at, tried_ran, tries_none, tries_sit, tries_err, tries_less, tries_at}
use Rattle.txn_threads.proofs.member.Worker.follow.Goals as goal

pub loop-init : goal.loop-init
loop-init g c = tries_none _ c.requires

pub next_place-place-requires : goal.next_place-place-requires
next_place-place-requires g c = omega (arith, tries_less c.loop.invariant c.len-end.ensures c.loop-test.true)

pub go_asked-requires : goal.go_asked-requires
go_asked-requires g c = sit_at _ c.next_place-place.result (tries_sit c.loop.invariant) c.next_place-place.ensures c.index_mut-member.ensures.value

pub returns-in_err-outcome : goal.returns-in_err-outcome
returns-in_err-outcome g c = tries_err c.from_residual.result (tries_at c.next_place-place.result c.loop.invariant c.next_place-place.ensures c.index_mut-member.ensures.value c.go_asked.ensures refl refl) c.in_err-outcome.was c.from_residual.ensures

pub loop-preserved : goal.loop-preserved
loop-preserved g c = tries_at c.next_place-place.result c.loop.invariant c.next_place-place.ensures c.index_mut-member.ensures.value (tried_ran _ c.go_asked.ensures.ran) refl refl

pub returns-in-None : goal.returns-in-None
returns-in-None g c = tries_at c.next_place-place.result c.loop.invariant c.next_place-place.ensures c.index_mut-member.ensures.value (tried_ran _ c.go_asked.ensures.ran) refl refl
