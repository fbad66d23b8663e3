use Rattle.std.proofs.Common.{◌∙◌}
use Rattle.std.proofs.lemmas.Result.{IfOk-weaker}
use Rattle.table_tests.proofs.commits.fresh.Goals as goal

pub returns-clause-reads : goal.returns-clause-reads
returns-clause-reads c = IfOk-weaker c.new.result _ _ (λ w same. same ∙ c.in_ok-reads.ensures.items) c.new.ensures.reads

pub returns-clause-writes : goal.returns-clause-writes
returns-clause-writes c = IfOk-weaker c.new.result _ _ (λ w same. same ∙ c.in_ok-writes.ensures.items) c.new.ensures.writes
