use Rattle.std.proofs.Common.{ap, ◌∙◌, map, length, replicate, List}
use Rattle.item_model.specs.Kinds.{initial_of}
use Rattle.txn_set.specs.declared.decl.TxnDecl.{TxnDecl}
use Rattle.core_tables.specs.Seen.{no_tally}
use Rattle.core_tables.proofs.Opens.{opens}
use Rattle.core_tables.proofs.tables.CoreTables.new.Goals as goal

pub returns : goal.returns
returns c =
    let calendar = c.in_ok-calendar.ensures in
    opens c.args.set.now _ _ _ _
    (c.in_ok-items.ensures ∙ ap (map initial_of) c.items.ensures)
    calendar.periods calendar.plans calendar.planned calendar.room
    c.in_ok-pending.ensures
    (c.in_ok-tallies.ensures ∙ ap (λ (l : List TxnDecl). replicate (length l) no_tally) c.txns.ensures)
