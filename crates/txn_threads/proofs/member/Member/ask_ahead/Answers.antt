use Rattle.txn_threads.proofs.Stepping.{ran_asked}
use Rattle.txn_threads.proofs.member.Member.ask_ahead.Goals as goal

pub returns : goal.returns
returns g c = λ p sits. ran_asked g.Y.Body.gives g.Y.Body.stands p c.args.self.now c.operation-op.new.self sits c.operation-op.ensures.same (λ tx e. c.operation-op.ensures.tied tx c.args.self.now.seat.mine (sits.tied tx e))
