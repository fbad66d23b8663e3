use Rattle.txn_threads.proofs.Rounding.{tried_on}
use Rattle.txn_threads.proofs.member.Member.go_asked.Goals as goal

pub ask_ahead-requires : goal.ask_ahead-requires
ask_ahead-requires g c = (c.args.plant.now, c.requires)

pub go-requires : goal.go-requires
go-requires g c = (c.ask_ahead.ensures c.args.plant.now c.requires).sits

pub returns : goal.returns
returns g c = tried_on (c.ask_ahead.ensures c.args.plant.now c.requires) c.go.ensures
