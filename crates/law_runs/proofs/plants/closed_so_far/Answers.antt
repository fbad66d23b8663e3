use Rattle.law_runs.proofs.SoFar.{closed_so_far}
use Rattle.law_runs.proofs.plants.closed_so_far.Goals as goal

pub returns : goal.returns
returns g c = closed_so_far g.B.Board.stands g.B.Board.set g.B.Board.room g.B.Board.first g.B.Board.kept
