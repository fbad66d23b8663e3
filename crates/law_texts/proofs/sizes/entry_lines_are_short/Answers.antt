use Rattle.law_texts.proofs.Ends.{only_commits}
use Rattle.law_texts.proofs.ReportLaw.{entries_short}
use Rattle.law_texts.proofs.sizes.entry_lines_are_short.Goals as goal

pub returns-clause-short : goal.returns-clause-short
returns-clause-short c = entries_short

pub returns-clause-ends : goal.returns-clause-ends
returns-clause-ends c = only_commits
