use Rattle.std.proofs.Common.{◌<◌, ◌∙◌, length, subst, sym}
use Rattle.ceiling_table.specs.Held.{Locks}
use Rattle.ceiling_table.proofs.Table.{seat_ceiling_is}
use Rattle.ceiling_table.proofs.held.Held.ceiling.Goals as goal

pub returns : goal.returns
returns g c =
    rw (← c.self.view_is)
    (c.row_ceiling.ensures ∙ seat_ceiling_is _ c.self.inside.rows.items c.args.tx.0 c.self.invariant.seated (subst (λ (h : Locks). c.args.tx.0 < length h.prios) (sym c.self.view_is) c.requires.tx))
