use Rattle.law_texts.proofs.verdicts.read_report_is_legal.Goals as goal

pub returns : goal.returns
returns c bytes s is =
    c.run_report_is_legal.ensures s (c.read_is_scenario.ensures bytes s is)
    (c.integers_are_of_64_bits.ensures.read bytes s is)
