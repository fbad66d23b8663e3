use Rattle.law_runs.proofs.Closing.{never_unplanned}
use Rattle.law_runs.proofs.eager.never_unplanned.Goals as goal

pub returns : goal.returns
returns g c = never_unplanned g.B.Board.stands g.B.Board.set g.B.Board.room g.B.Board.first g.B.Board.kept
