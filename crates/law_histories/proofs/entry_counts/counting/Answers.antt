use Rattle.law_histories.proofs.CountingAll.{entries_few, time_bounded}
use Rattle.law_histories.proofs.entry_counts.counting.Goals as goal

pub returns-clause-entries : goal.returns-clause-entries
returns-clause-entries c = entries_few

pub returns-clause-time : goal.returns-clause-time
returns-clause-time c = time_bounded
