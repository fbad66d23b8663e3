use Rattle.law_histories.proofs.Commits.{reads_are_last as last}
use Rattle.law_histories.proofs.Timed.{timed_reads}
use Rattle.law_histories.proofs.fresh_commits.reads_are_last.Goals as goal

pub returns-clause-last : goal.returns-clause-last
returns-clause-last c = last

pub returns-clause-timed : goal.returns-clause-timed
returns-clause-timed c = timed_reads
