use Rattle.journal_text.proofs.entry_writing.put_step.Goals as goal

pub returns-then-put_front-clause-own : goal.returns-then-put_front-clause-own
returns-then-put_front-clause-own c = c.put_front.ensures.own c.args.names.now c.requires.own
