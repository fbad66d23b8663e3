use Rattle.law_texts.proofs.CommandLaw.{texts_legal, runs_legal}
use Rattle.law_texts.proofs.commands.replay_of_a_run_is_legal.Goals as goal

pub returns-clause-texts : goal.returns-clause-texts
returns-clause-texts c =
    texts_legal c.run_is_read_whole.ensures c.run_report_is_legal.ensures c.one_verdict_at_most.ensures
    c.compiled_unless_refused.ensures c.admitted_unless_refused.ensures

pub returns-clause-commands : goal.returns-clause-commands
returns-clause-commands c =
    runs_legal c.run_is_read_whole.ensures c.run_report_is_legal.ensures c.one_verdict_at_most.ensures
    c.compiled_unless_refused.ensures c.admitted_unless_refused.ensures c.read_is_scenario.ensures
    c.integers_are_of_64_bits.ensures.read
