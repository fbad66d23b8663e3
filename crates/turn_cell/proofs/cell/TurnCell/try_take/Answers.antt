use Rattle.std.proofs.Common.{ap, ◌∙◌}
use Rattle.turn_cell.proofs.Readies.{ready_idle, idle_ready, holding_ready}
use Rattle.turn_cell.proofs.cell.TurnCell.try_take.Goals as goal

pub take-requires-clause-idle : goal.take-requires-clause-idle
take-requires-clause-idle g c = ready_idle c.seat.inside.seat c.seat.invariant (ap (λ s. s.view.holds) c.seat.view_is ∙ c.requires.idle)

pub invariant_of-seat : goal.invariant_of-seat
invariant_of-seat g c = idle_ready c.take.new.seat _ c.in_err-value.ensures.none.0 c.in_err-value.ensures.none.1 c.seat.invariant.3

pub invariant_of-seat-2 : goal.invariant_of-seat-2
invariant_of-seat-2 g c = holding_ready c.take.new.seat _ c.in_ok-value.ensures.some.0 c.in_ok-value.ensures.some.1 c.seat.invariant.3
