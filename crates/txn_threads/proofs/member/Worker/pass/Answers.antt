use Rattle.std.proofs.Common.{refl}
use Rattle.txn_threads.proofs.Rounding.{tries_sit, tries_ok, tries_on}
use Rattle.txn_threads.proofs.member.Worker.pass.Goals as goal

pub idle_first-requires : goal.idle_first-requires
idle_first-requires g c = tries_sit c.sweep.ensures

pub returns-in-NoJob : goal.returns-in-NoJob
returns-in-NoJob g c = tries_on c.sweep.ensures c.idle_first.ensures

pub returns-in_default : goal.returns-in_default
returns-in_default g c = tries_ok _ c.sweep.ensures refl refl
