use Rattle.std.proofs.Common.{◌∙◌, ap, map}
use Rattle.txn_set.specs.declared.decl.TxnDecl.{TxnDecl}
use Rattle.law_histories.proofs.Calendar.{distinct}
use Rattle.core_tables.proofs.pending_openings.held_of.Goals as goal

pub new-requires-clause-distinct : goal.new-requires-clause-distinct
new-requires-clause-distinct c = distinct c.args.set.now c.in_ok-prios.prios.items c.is_compiled.ensures (c.in_ok-prios.ensures ∙ ap (map (λ (t : TxnDecl). t.prio)) c.txns.ensures)
