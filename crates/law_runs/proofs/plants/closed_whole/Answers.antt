use Rattle.law_runs.proofs.Whole.{closed_whole}
use Rattle.law_runs.proofs.plants.closed_whole.Goals as goal

pub returns : goal.returns
returns g c = closed_whole g.B.Board.stands g.B.Board.set g.B.Board.room g.B.Board.first g.B.Board.kept
