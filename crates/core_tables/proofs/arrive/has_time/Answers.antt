use Rattle.std.proofs.lemmas.Bool.{ltb-true}
use Rattle.core_tables.proofs.Cancels.{never_late, none_pending}
use Rattle.core_tables.proofs.arrive.has_time.Goals as goal

pub returns-in-Some : goal.returns-in-Some
returns-in-Some c =
    λ later set facts. never_late set c.args.tick c.in-Some.least c.args.pending.now facts c.in-Some.ensures (ltb-true _ _ later)

pub returns-in-None : goal.returns-in-None
returns-in-None c = λ _ set facts. none_pending set c.args.tick c.args.pending.now.rows c.in-None.ensures
