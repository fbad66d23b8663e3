use Rattle.std.proofs.Common.{◌≡◌, None, rules}
use Rattle.txn_threads.proofs.Rounding.{all_refl, worker_went, worker_stopped}
use Rattle.txn_threads.proofs.member.Worker.round.Goals as goal

pub returns-in-Ok : goal.returns-in-Ok
returns-in-Ok g c = let none : c.args.self.now.halt ≡ None = search rules in worker_went c.part.ensures none

pub returns-in-Err : goal.returns-in-Err
returns-in-Err g c = worker_stopped c.in-Err.ensures

pub returns-else-is_none : goal.returns-else-is_none
returns-else-is_none g c = (all_refl g.Y.Body.gives g.Y.Body.stands c.args.plant.now c.args.self.now.members.items c.requires.0, c.requires.1)
