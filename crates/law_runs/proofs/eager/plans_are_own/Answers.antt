use Rattle.law_runs.proofs.Closing.{plans_are_own, jobs_left}
use Rattle.law_runs.proofs.eager.plans_are_own.Goals as goal

pub returns-clause-plans : goal.returns-clause-plans
returns-clause-plans g c = plans_are_own g.B.Board.stands g.B.Board.set g.B.Board.room g.B.Board.first g.B.Board.kept

pub returns-clause-left : goal.returns-clause-left
returns-clause-left g c = jobs_left g.B.Board.stands g.B.Board.set g.B.Board.room g.B.Board.first g.B.Board.kept
