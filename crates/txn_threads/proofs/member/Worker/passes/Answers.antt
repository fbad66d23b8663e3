use Rattle.std.proofs.Common.{refl}
use Rattle.txn_threads.proofs.Rounding.{tries_sit, tries_ok, tries_on, tries_err}
use Rattle.txn_threads.proofs.member.Worker.passes.Goals as goal

pub returns-in-Full : goal.returns-in-Full
returns-in-Full g c = tries_ok _ c.eager_turns.ensures refl refl

pub loop-init : goal.loop-init
loop-init g c = tries_ok _ c.eager_turns.ensures refl refl

pub pass-requires : goal.pass-requires
pass-requires g c = tries_sit c.loop.invariant

pub loop-preserved : goal.loop-preserved
loop-preserved g c = tries_ok _ (tries_on c.loop.invariant c.pass.ensures) refl refl

pub returns-in_err-other : goal.returns-in_err-other
returns-in_err-other g c = tries_err c.from_residual-in_err-other.result (tries_on c.loop.invariant c.pass.ensures) c.in_err-other.was c.from_residual-in_err-other.ensures

pub returns-in_default-2 : goal.returns-in_default-2
returns-in_default-2 g c = tries_ok _ (tries_on c.loop.invariant c.pass.ensures) refl refl
