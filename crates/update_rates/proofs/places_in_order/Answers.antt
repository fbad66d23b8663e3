use Rattle.update_rates.proofs.Places.{places-in-order}
use Rattle.update_rates.proofs.places_in_order.Goals as goal

pub returns : goal.returns
returns c = places-in-order
