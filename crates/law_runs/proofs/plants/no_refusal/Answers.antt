use Rattle.law_runs.proofs.Refusals.{no_refusal}
use Rattle.law_runs.proofs.plants.no_refusal.Goals as goal

pub returns : goal.returns
returns g c = no_refusal g.B.Board.stands g.B.Board.set g.B.Board.room g.B.Board.first g.B.Board.kept
