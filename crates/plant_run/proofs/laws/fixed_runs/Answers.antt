use Rattle.plant_run.proofs.Fixed.{fixed_plannable, whole_is_sim, stopped_is_sim, short_is_sim}
use Rattle.plant_run.proofs.laws.fixed_runs.Goals as goal

pub returns-clause-plannable : goal.returns-clause-plannable
returns-clause-plannable g c = fixed_plannable

pub returns-clause-whole : goal.returns-clause-whole
returns-clause-whole g c = λ w eager_jobs b o q. whole_is_sim w eager_jobs (g.B.Board.stands b) (g.O.EntryOut.got o) (g.O.EntryOut.got q)

pub returns-clause-stopped : goal.returns-clause-stopped
returns-clause-stopped g c = λ w eager_jobs o q. stopped_is_sim w eager_jobs (g.O.EntryOut.got o) (g.O.EntryOut.got q) (g.O.EntryOut.lost q)

pub returns-clause-short : goal.returns-clause-short
returns-clause-short g c = λ w eager_jobs o q. short_is_sim w eager_jobs (g.O.EntryOut.got o) (g.O.EntryOut.got q) (g.O.EntryOut.lost q)
