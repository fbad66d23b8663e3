use Rattle.strict_commit.specs.Jobs.{is_unwritten}
use Rattle.strict_commit.proofs.Firsts.{first_is_least}
use Rattle.strict_commit.proofs.work.Work.unwritten.Goals as goal

pub returns-clause-first : goal.returns-clause-first
returns-clause-first c = first_is_least (is_unwritten c.args.decls.now c.args.self.now.work) c.args.self.now.may_write _ c.first_unwritten.ensures c.keeps_order.ensures.writes
