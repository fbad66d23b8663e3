use Rattle.std.proofs.Common.{◌<◌, length, get_or, subst, sym, ap, ℕ, max, arith}
use Rattle.ceiling_table.specs.Seated.{seat_ceiling}
use Rattle.ceiling_table.specs.Held.{Locks}
use Rattle.ceiling_table.proofs.RowOrder.{unseated_none}
use Rattle.ceiling_table.proofs.Raised.{put_in}
use Rattle.ceiling_table.proofs.Table.{within_noted, not_noted, noted_already, room_for_row, sets_of, lock_keeps, lock_changes}
use Rattle.ceiling_table.proofs.held.Held.lock.Goals as goal

pub raise-requires-clause-room : goal.raise-requires-clause-room
raise-requires-clause-room g c = room_for_row _ _ _ c.self.inside.rows c.self.inside.seated.items c.args.tx.0 c.self.invariant (subst (λ (h : Locks). c.args.tx.0 < length h.prios) (sym c.self.view_is) c.requires.tx)

pub seat-requires-clause-room : goal.seat-requires-clause-room
seat-requires-clause-room g c =
    let within : c.args.tx.0 < length c.self.inside.prios.items = subst (λ (h : Locks). c.args.tx.0 < length h.prios) (sym c.self.view_is) c.requires.tx in
    omega (
      arith,
      room_for_row _ _ _ c.self.inside.rows c.self.inside.seated.items c.args.tx.0 c.self.invariant within,
      ap length (unseated_none c.args.tx.0 c.self.inside.rows.items (not_noted _ _ _ c.self.inside.rows c.self.inside.seated.items c.args.tx.0 c.at-3.result c.self.invariant within c.at-3.ensures.value c.if-at.false)),
    )

pub invariant_of-self : goal.invariant_of-self
invariant_of-self g c =
    let within : c.args.tx.0 < length c.self.inside.prios.items = subst (λ (h : Locks). c.args.tx.0 < length h.prios) (sym c.self.view_is) c.requires.tx in
    lock_keeps _ _ c.self.inside.locks.items _ c.self.inside.rows _ c.self.inside.seated.items _ c.len.result c.args.tx.0 c.args.item.0 (max c.ceiling_at-ceiling.result (seat_ceiling c.args.tx.0 c.self.inside.rows.items)) c.at-2.result c.args.writes c.at.result c.added-lock.result c.self.invariant
    (sets_of c.args.self.now c.self.view_is c.requires.tx c.requires.item c.len.ensures c.self.invariant.size c.at.ensures.value c.added-lock.ensures c.set.ensures.items)
    c.at-2.ensures.value
    (ap (λ (n : ℕ). max n (seat_ceiling c.args.tx.0 c.self.inside.rows.items)) c.ceiling_at-ceiling.ensures)
    c.raise.ensures.rows
    c.raise.ensures.room
    (noted_already c.self.inside.seated.items c.args.tx.0 c.at-3.result _ (within_noted _ _ _ c.self.inside.rows c.self.inside.seated.items c.args.tx.0 c.self.invariant within) c.at-3.ensures.value c.if-at.true)

pub invariant_of-self-else-at : goal.invariant_of-self-else-at
invariant_of-self-else-at g c =
    let within : c.args.tx.0 < length c.self.inside.prios.items = subst (λ (h : Locks). c.args.tx.0 < length h.prios) (sym c.self.view_is) c.requires.tx in
    lock_keeps _ _ c.self.inside.locks.items _ c.self.inside.rows _ c.self.inside.seated.items _ c.len.result c.args.tx.0 c.args.item.0 (max c.ceiling_at-ceiling.result (seat_ceiling c.args.tx.0 c.self.inside.rows.items)) c.at-2.result c.args.writes c.at.result c.added-lock.result c.self.invariant
    (sets_of c.args.self.now c.self.view_is c.requires.tx c.requires.item c.len.ensures c.self.invariant.size c.at.ensures.value c.added-lock.ensures c.set.ensures.items)
    c.at-2.ensures.value
    (ap (λ (n : ℕ). max n (seat_ceiling c.args.tx.0 c.self.inside.rows.items)) c.ceiling_at-ceiling.ensures)
    (put_in (λ t. get_or c.self.inside.prios.items t 0) (record { holder = c.args.tx; ceiling = c.ceiling_at-ceiling.result }) c.self.inside.rows.items c.seat.new.rows.items
    (not_noted _ _ _ c.self.inside.rows c.self.inside.seated.items c.args.tx.0 c.at-3.result c.self.invariant within c.at-3.ensures.value c.if-at.false) c.seat.ensures.rows)
    c.seat.ensures.room
    c.set-else-at.ensures.items

pub returns-then-at : goal.returns-then-at
returns-then-at g c =
    rw (← c.self.view_is)
    (lock_changes _ _ c.self.inside.locks.items _ c.len.result c.args.tx.0 c.args.item.0 c.args.writes c.at.result c.added-lock.result
    (sets_of c.args.self.now c.self.view_is c.requires.tx c.requires.item c.len.ensures c.self.invariant.size c.at.ensures.value c.added-lock.ensures c.set.ensures.items))

pub returns : goal.returns
returns g c =
    rw (← c.self.view_is)
    (lock_changes _ _ c.self.inside.locks.items _ c.len.result c.args.tx.0 c.args.item.0 c.args.writes c.at.result c.added-lock.result
    (sets_of c.args.self.now c.self.view_is c.requires.tx c.requires.item c.len.ensures c.self.invariant.size c.at.ensures.value c.added-lock.ensures c.set.ensures.items))
