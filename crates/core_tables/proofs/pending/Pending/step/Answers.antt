use Rattle.std.proofs.Common.{◌≡◌, ◌<◌, ◌+◌, ◌^◌, length, Some, subst, sym, ap, arith}
use Rattle.ceiling_table.specs.Held.{HasItem}
use Rattle.step_journal.specs.State.{Row, row_of}
use Rattle.core_tables.specs.Rows.{PendingSeen}
use Rattle.core_tables.specs.declared.head.Head.{Head}
use Rattle.core_tables.proofs.Calls.{no_head_no_row, head_now, head_seen, used_now, step_table, step_seen}
use Rattle.core_tables.proofs.pending.Pending.step.Goals as goal

pub returns-in_err-head-clause-after : goal.returns-in_err-head-clause-after
returns-in_err-head-clause-after c row h =
    absurd (no_head_no_row c.self.inside.heads.items c.self.inside.works.items c.self.inside.waits.on c.args.tx.0 row c.index.result.now (subst (λ (p : PendingSeen). c.args.tx.0 < length p.rows) (sym c.self.view_is) c.requires.tx) c.index.ensures c.in_err-head.was
    (subst (λ (p : PendingSeen). row_of p.rows c.args.tx.0 ≡ Some row) (sym c.self.view_is) h))

pub returns-in_err-head-clause-head : goal.returns-in_err-head-clause-head
returns-in_err-head-clause-head c row h =
    absurd (no_head_no_row c.self.inside.heads.items c.self.inside.works.items c.self.inside.waits.on c.args.tx.0 row c.index.result.now (subst (λ (p : PendingSeen). c.args.tx.0 < length p.rows) (sym c.self.view_is) c.requires.tx) c.index.ensures c.in_err-head.was
    (subst (λ (p : PendingSeen). row_of p.rows c.args.tx.0 ≡ Some row) (sym c.self.view_is) h))

pub overflow_add-stepped : goal.overflow_add-stepped
overflow_add-stepped c =
    let here = (head_now c.self.inside.heads.items c.self.inside.works.items c.self.inside.waits.on c.args.tx.0 c.in_ok-head.head c.index.result.now (subst (λ (p : PendingSeen). c.args.tx.0 < length p.rows) (sym c.self.view_is) c.requires.tx) c.index.ensures c.in_ok-head.was) in
    omega (
      arith,
      used_now c.self.inside.heads.items c.self.inside.works.items c.self.inside.waits.on c.args.tx.0 c.in_ok-head.head here
          (subst (λ (p : PendingSeen). (row : Row) → row_of p.rows c.args.tx.0 ≡ Some row → row.used < 2 ^ 63) (sym c.self.view_is) c.requires.used),
    )

pub invariant_of-self : goal.invariant_of-self
invariant_of-self c =
    step_table _ _ _ _ _ _ _ _ c.self.invariant c.args.tx.0 c.in_ok-head.head
    (head_now c.self.inside.heads.items c.self.inside.works.items c.self.inside.waits.on c.args.tx.0 c.in_ok-head.head c.index.result.now (subst (λ (p : PendingSeen). c.args.tx.0 < length p.rows) (sym c.self.view_is) c.requires.tx) c.index.ensures c.in_ok-head.was)
    c.lock.new.held c.args.items.now c.args.op c.index_mut-2.result.now c.note.new.work
    (subst (λ (p : PendingSeen). HasItem (length p.facts.ceilings) c.args.op) (sym c.self.view_is) c.requires.item) c.lock.ensures c.index_mut-2.ensures.value c.note.ensures

pub returns-clause-after : goal.returns-clause-after
returns-clause-after c row h =
    rw (← c.self.view_is)
    (step_seen _ _ _ _ _ _ _ _ c.self.invariant c.args.tx.0 c.in_ok-head.head
    (head_now c.self.inside.heads.items c.self.inside.works.items c.self.inside.waits.on c.args.tx.0 c.in_ok-head.head c.index.result.now (subst (λ (p : PendingSeen). c.args.tx.0 < length p.rows) (sym c.self.view_is) c.requires.tx) c.index.ensures c.in_ok-head.was)
    c.lock.new.held c.args.items.now c.args.op c.index_mut-2.result.now c.note.new.work
    (subst (λ (p : PendingSeen). HasItem (length p.facts.ceilings) c.args.op) (sym c.self.view_is) c.requires.item) c.lock.ensures c.index_mut-2.ensures.value c.note.ensures
    row (subst (λ (p : PendingSeen). row_of p.rows c.args.tx.0 ≡ Some row) (sym c.self.view_is) h))

pub returns-clause-head : goal.returns-clause-head
returns-clause-head c row h =
    ap (λ (head : Head). Some (record head { used = head.used + 1 }))
    (head_seen c.self.inside.heads.items c.self.inside.works.items c.self.inside.waits.on c.args.tx.0 c.in_ok-head.head row
    (head_now c.self.inside.heads.items c.self.inside.works.items c.self.inside.waits.on c.args.tx.0 c.in_ok-head.head c.index.result.now (subst (λ (p : PendingSeen). c.args.tx.0 < length p.rows) (sym c.self.view_is) c.requires.tx) c.index.ensures c.in_ok-head.was)
    (subst (λ (p : PendingSeen). row_of p.rows c.args.tx.0 ≡ Some row) (sym c.self.view_is) h))
