use Rattle.law_runs.proofs.Closing.{closed_no_plan}
use Rattle.law_runs.proofs.eager.closed_no_plan.Goals as goal

pub returns : goal.returns
returns g c = closed_no_plan g.B.Board.stands g.B.Board.set g.B.Board.room g.B.Board.first g.B.Board.kept
