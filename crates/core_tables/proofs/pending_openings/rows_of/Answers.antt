use Rattle.std.proofs.Common.{List, sym, subst}
use Rattle.std.specs.List.{All}
use Rattle.strict_commit.specs.Jobs.{AreInItemOrder}
use Rattle.txn_set.specs.declared.decl.TxnDecl.{TxnDecl}
use Rattle.core_tables.proofs.pending_openings.rows_of.Goals as goal

pub works_of-requires-clause-reads : goal.works_of-requires-clause-reads
works_of-requires-clause-reads c = subst (λ (ts : List TxnDecl). All (λ t. AreInItemOrder t.reads) ts) (sym c.txns-2.ensures) (λ k d lt. (c.is_compiled.ensures.reads k d lt).rising)

pub works_of-requires-clause-writes : goal.works_of-requires-clause-writes
works_of-requires-clause-writes c = subst (λ (ts : List TxnDecl). All (λ t. AreInItemOrder t.writes) ts) (sym c.txns-2.ensures) (λ k d lt. (c.is_compiled.ensures.writes k d lt).rising)
