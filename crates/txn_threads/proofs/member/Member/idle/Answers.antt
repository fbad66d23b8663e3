use Rattle.std.proofs.Common.{refl}
use Rattle.txn_threads.proofs.Rounding.{ran_busy}
use Rattle.txn_threads.proofs.Trying.{ran_idled}
use Rattle.txn_threads.proofs.member.Member.idle.Goals as goal

pub returns-in-Busy : goal.returns-in-Busy
returns-in-Busy g c = ran_busy g.Y.Body.gives g.Y.Body.stands c.args.plant.now c.args.self.now _ c.requires (c.in-Busy.ensures.busy tt) refl refl refl refl refl c.requires.tied

pub returns-in-Said : goal.returns-in-Said
returns-in-Said g c = ran_idled g.Y.Body.gives g.Y.Body.stands c.args.plant.now c.args.self.now _ _ c.in-Said.reply c.requires c.in-Said.ensures.said refl refl refl refl refl
