-- A seat that is ready, by whether it holds the turn.
use Rattle.std.proofs.Common.{◌≡◌, true, false, sym, ap, ◌∙◌, subst}
use Rattle.atomic_table.specs.declared.shared.Seat.{Seat}
use Rattle.std.specs.Prelude.{Option}
use Rattle.turn_cell.specs.declared.view.View.{View}
use Rattle.turn_cell.specs.Turn.{Idle, Holding}
use Rattle.turn_cell.specs.Seats.{slots_of, Ready, MarkIsOne}

module _ {T N : Type 0} where
  pub ready_idle : (s : Seat (Option T) (View N)) → Ready s.me → s.me.0.holds ≡ false → Idle s
  ready_idle s r h = (r.0, h, r.1, r.2 ∙ ap slots_of h)

  pub ready_holding : (s : Seat (Option T) (View N)) → Ready s.me → s.me.0.holds ≡ true → Holding s
  ready_holding s r h = (r.0, h, r.1, r.2 ∙ ap slots_of h)

  -- the view is now one that has the mark of an earlier one
  pub idle_ready : (s : Seat (Option T) (View N)) (v : View N) → Idle s → s.me.0 ≡ v → MarkIsOne v → Ready s.me
  idle_ready s v i e mark = (i.0, i.2, i.3 ∙ sym (ap slots_of i.1), subst MarkIsOne (sym e) mark)

  pub holding_ready : (s : Seat (Option T) (View N)) (v : View N) → Holding s → s.me.0 ≡ v → MarkIsOne v → Ready s.me
  holding_ready s v i e mark = (i.0, i.2, i.3 ∙ sym (ap slots_of i.1), subst MarkIsOne (sym e) mark)
