use Rattle.std.proofs.Common.{refl}
use Rattle.txn_threads.proofs.Rounding.{sit_at, tried_ran, tries_none, tries_sit, tries_err, tries_less, tries_at}
use Rattle.txn_threads.proofs.member.Worker.eager_turns.Goals as goal

pub loop-i-init : goal.loop-i-init
loop-i-init g c = tries_none _ c.requires

pub eager_turn-requires : goal.eager_turn-requires
eager_turn-requires g c = sit_at _ c.loop-i.i (tries_sit c.loop-i.invariant) (tries_less c.loop-i.invariant c.len-i-end.ensures c.loop-i-test.true) c.index_mut-member.ensures.value

pub returns-in_err-eager_turn : goal.returns-in_err-eager_turn
returns-in_err-eager_turn g c = tries_err c.from_residual.result (tries_at c.loop-i.i c.loop-i.invariant (tries_less c.loop-i.invariant c.len-i-end.ensures c.loop-i-test.true) c.index_mut-member.ensures.value c.eager_turn.ensures refl refl) c.in_err-eager_turn.was c.from_residual.ensures

pub returns-in-Full : goal.returns-in-Full
returns-in-Full g c = tries_at c.loop-i.i c.loop-i.invariant (tries_less c.loop-i.invariant c.len-i-end.ensures c.loop-i-test.true) c.index_mut-member.ensures.value (tried_ran _ c.eager_turn.ensures.ran) refl refl

pub loop-i-preserved : goal.loop-i-preserved
loop-i-preserved g c = tries_at c.loop-i.i c.loop-i.invariant (tries_less c.loop-i.invariant c.len-i-end.ensures c.loop-i-test.true) c.index_mut-member.ensures.value (tried_ran _ c.eager_turn.ensures.ran) refl refl
