use Rattle.plant_run.proofs.laws.histories_are.Goals as goal

pub returns : goal.returns
returns g c = λ b history stood. g.met.B.Board.is_history b history stood
