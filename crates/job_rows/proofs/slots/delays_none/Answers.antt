use Rattle.std.proofs.Common.{arith}
use Rattle.std.proofs.lemmas.Bool.{leb-true}
use Rattle.rt_base.specs.Ranks.{has_rank}
use Rattle.inherit_prio.specs.Ranks.{rank_of}
use Rattle.job_rows.specs.Lists.{delayed}
use Rattle.job_rows.proofs.Bounding.{clash}
use Rattle.job_rows.proofs.Delaying.{none_done, all_done, none_left}
use Rattle.job_rows.proofs.slots.delays_none.Goals as goal

pub returns-in-Some : goal.returns-in-Some
returns-in-Some g c = λ past.
    all_done c.args.urgencies.now c.args.by c.args.rows.now c.args.rows.now c.args.ranking.now.ranks c.args.held (none_done (delayed c.args.urgencies.now c.args.by) c.args.rows.now c.args.ranking.now.ranks c.args.held c.requires.held)
    (none_left c.args.urgencies.now c.args.by c.args.rows.now c.args.ranking.now c.args.held c.args.held c.in-Some.rank c.requires.ranks c.requires.held (omega (arith, leb-true _ _ past, c.rank_end-end.ensures)) c.in-Some.ensures.least)

pub returns-in-None : goal.returns-in-None
returns-in-None g c = λ _.
    all_done c.args.urgencies.now c.args.by c.args.rows.now c.args.rows.now c.args.ranking.now.ranks c.args.held (none_done (delayed c.args.urgencies.now c.args.by) c.args.rows.now c.args.ranking.now.ranks c.args.held c.requires.held)
    (λ n row lt has here. absurd (clash (has_rank c.args.held (rank_of c.args.ranking.now.ranks n)) has (c.in-None.ensures.least (rank_of c.args.ranking.now.ranks n))))
