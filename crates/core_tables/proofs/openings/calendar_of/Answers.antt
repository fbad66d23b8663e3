use Rattle.std.proofs.Common.{ap, ◌∙◌, map}
use Rattle.txn_set.specs.declared.decl.TxnDecl.{TxnDecl}
use Rattle.core_tables.proofs.Opens.{are_periods}
use Rattle.core_tables.proofs.openings.calendar_of.Goals as goal

pub new-requires : goal.new-requires
new-requires c =
    are_periods c.args.set.now c.in_ok-periods.periods.items c.is_compiled.ensures (c.in_ok-periods.ensures ∙ ap (map (λ (t : TxnDecl). t.period)) c.txns.ensures)
