use Rattle.plain_core.proofs.asks.turn.Goals as goal

pub ask-requires-clause-used : goal.ask-requires-clause-used
ask-requires-clause-used c = λ row h. c.requires.used c.args.job.tx.0 row h
