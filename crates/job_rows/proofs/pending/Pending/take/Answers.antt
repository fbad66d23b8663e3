use Rattle.std.proofs.Common.{arith}
use Rattle.job_rows.proofs.Bounding.{taken_bounds}
use Rattle.job_rows.proofs.pending.Pending.take.Goals as goal

pub invariant_of-self : goal.invariant_of-self
invariant_of-self c =
    let inside = c.self.inside in
    taken_bounds inside.urgencies.items inside.rows.items inside.ranking inside.held c.without-self-inside.result c.args.tx.0 c.rank_of-rank.result inside.earliest c.self.invariant (omega arith) c.rank_of-rank.ensures.rank c.without-self-inside.ensures
