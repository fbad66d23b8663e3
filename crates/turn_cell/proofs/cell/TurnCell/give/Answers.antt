use Rattle.std.proofs.Common.{ap, ◌∙◌}
use Rattle.turn_cell.proofs.Readies.{ready_holding, idle_ready}
use Rattle.turn_cell.proofs.cell.TurnCell.give.Goals as goal

pub put_back-requires-clause-turn : goal.put_back-requires-clause-turn
put_back-requires-clause-turn g c = ready_holding c.seat.inside.seat c.seat.invariant (ap (λ s. s.view.holds) c.seat.view_is ∙ c.requires.turn)

pub invariant_of-seat : goal.invariant_of-seat
invariant_of-seat g c = idle_ready c.put_back.new.seat _ c.put_back.ensures.given.0 c.put_back.ensures.given.1 c.seat.invariant.3
