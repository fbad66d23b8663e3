use Rattle.law_histories.proofs.Commits.{fresh_commits, consistent_commits}
use Rattle.law_histories.proofs.fresh_commits.fresh_together.Goals as goal

pub returns-clause-fresh : goal.returns-clause-fresh
returns-clause-fresh c = fresh_commits

pub returns-clause-consistent : goal.returns-clause-consistent
returns-clause-consistent c = consistent_commits
