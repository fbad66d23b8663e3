use Rattle.journal_text.proofs.entry_writing.put_likely.Goals as goal

pub returns-in-Some-clause-own : goal.returns-in-Some-clause-own
returns-in-Some-clause-own c = c.put.ensures.own c.args.names.now c.requires.own
