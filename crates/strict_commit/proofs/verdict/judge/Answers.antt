use Rattle.strict_commit.proofs.Firsts.{past_is_least}
use Rattle.strict_commit.proofs.verdict.judge.Goals as goal

pub returns-in-Some-clause-first : goal.returns-in-Some-clause-first
returns-in-Some-clause-first c = past_is_least c.args.decls.now c.args.work.now.work c.args.tick c.args.work.now.may_read c.in-Some.read c.in-Some.ensures c.keeps_order.ensures.reads
