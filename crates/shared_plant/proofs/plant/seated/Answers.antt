use Rattle.shared_plant.proofs.Starting.{newcomer_is, newcomer_kept}
use Rattle.shared_plant.proofs.plant.seated.Goals as goal

pub invariant_of-result : goal.invariant_of-result
invariant_of-result g c = let r = c.requires in newcomer_kept c.args.seat c.args.tx c.args.front r.0 r.1 r.2 r.3 r.4 r.5

pub returns : goal.returns
returns g c = newcomer_is c.args.seat c.args.tx
