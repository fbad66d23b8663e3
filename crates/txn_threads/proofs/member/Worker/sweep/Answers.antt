use Rattle.std.proofs.Common.{Vec, Global, refl, ap, arith}
use Rattle.txn_threads.specs.declared.member.Member.{Member}
use Rattle.txn_threads.proofs.Rounding.{sit_at, tried_ran, tries_none, tries_sit, tries_err, tries_ok, tries_less, tries_at}
use Rattle.txn_threads.proofs.member.Worker.sweep.Goals as goal

pub loop-init : goal.loop-init
loop-init g c = tries_none _ c.requires

pub next_place-place-requires : goal.next_place-place-requires
next_place-place-requires g c = omega (arith, tries_less c.loop.invariant c.len-end.ensures c.loop-test.true)

pub turn-requires : goal.turn-requires
turn-requires g c = sit_at _ c.next_place-place.result (tries_sit c.loop.invariant) c.next_place-place.ensures c.index_mut-member.ensures.value

pub returns-in_err-other : goal.returns-in_err-other
returns-in_err-other g c = tries_err c.from_residual.result (tries_at c.next_place-place.result c.loop.invariant c.next_place-place.ensures c.index_mut-member.ensures.value c.turn.ensures refl refl) c.in_err-other.was c.from_residual.ensures

pub loop-preserved : goal.loop-preserved
loop-preserved g c = tries_at c.next_place-place.result c.loop.invariant c.next_place-place.ensures c.index_mut-member.ensures.value (tried_ran _ c.turn.ensures.ran) refl refl

pub returns-in_default : goal.returns-in_default
returns-in_default g c = tries_at c.next_place-place.result c.loop.invariant c.next_place-place.ensures c.index_mut-member.ensures.value (tried_ran _ c.turn.ensures.ran) (ap (λ (v : Vec (Member g.row.B.Denot g.row.Y.Denot) Global). v.items) c.turn_to.ensures.0) c.turn_to.ensures.1

pub returns : goal.returns
returns g c = tries_ok _ c.loop.invariant refl refl
