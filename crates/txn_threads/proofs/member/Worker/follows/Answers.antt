use Rattle.std.proofs.Common.{refl}
use Rattle.txn_threads.proofs.Rounding.{tries_none, tries_sit, tries_ok, tries_on, tries_err}
use Rattle.txn_threads.proofs.member.Worker.follows.Goals as goal

pub loop-init : goal.loop-init
loop-init g c = tries_none _ c.requires

pub follow-requires : goal.follow-requires
follow-requires g c = tries_sit c.loop.invariant

pub sweep-requires : goal.sweep-requires
sweep-requires g c = tries_sit c.follow.ensures

pub loop-preserved : goal.loop-preserved
loop-preserved g c = tries_ok _ (tries_on c.loop.invariant c.follow.ensures) refl refl

pub returns-in-NoJob : goal.returns-in-NoJob
returns-in-NoJob g c = tries_on (tries_on c.loop.invariant c.follow.ensures) c.sweep.ensures

pub returns-in_err-other : goal.returns-in_err-other
returns-in_err-other g c = tries_err c.from_residual.result (tries_on c.loop.invariant c.follow.ensures) c.in_err-other.was c.from_residual.ensures

pub returns-in_default : goal.returns-in_default
returns-in_default g c = tries_ok _ (tries_on c.loop.invariant c.follow.ensures) refl refl
