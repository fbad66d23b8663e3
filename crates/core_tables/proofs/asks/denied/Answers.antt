use Rattle.std.proofs.Common.{ap, sym, ◌∙◌, subst, ◌<◌, List}
use Rattle.std.specs.List.{AllPairs}
use Rattle.txn_set.specs.Set.{txn_of}
use Rattle.item_model.specs.declared.decl.ItemDecl.{ItemDecl}
use Rattle.strict_commit.specs.Jobs.{unwritten_of}
use Rattle.core_tables.specs.Rows.{Accesses}
use Rattle.core_tables.specs.declared.head.Head.{Head}
use Rattle.core_tables.specs.Changes.{denied}
use Rattle.txn_set.specs.declared.decl.TxnDecl.{TxnDecl}
use Rattle.core_tables.proofs.Refusals.{reads_of, writes_of, commit_denied, accesses_are}
use Rattle.core_tables.proofs.asks.denied.Goals as goal

pub access-requires : goal.access-requires
access-requires c =
    subst (AllPairs (λ a b. a.0 < b.0)) (sym (c.as_slice.ensures ∙ ap (λ (t : TxnDecl). t.reads) c.txn-txn.ensures))
    (reads_of c.args.set.now c.args.head.job.tx.0 c.is_compiled.ensures c.requires.in_set).rising

pub access-requires-in-Write : goal.access-requires-in-Write
access-requires-in-Write c =
    subst (AllPairs (λ a b. a.0 < b.0)) (sym (c.as_slice-in-Write.ensures ∙ ap (λ (t : TxnDecl). t.writes) c.txn-txn.ensures))
    (writes_of c.args.set.now c.args.head.job.tx.0 c.is_compiled.ensures c.requires.in_set).rising

pub returns-in-Commit : goal.returns-in-Commit
returns-in-Commit c = λ row here is.
    let set = c.args.set.now in
    let declared = accesses_are set c.args.pending.now.facts c.args.head.job.tx.0 c.requires.facts in
    c.missed.ensures
    ∙ (commit_denied set row c.work.result.now.work c.work.result.now.may_write c.unwritten.result
    (c.work.ensures.writes ∙ (ap (λ (a : Accesses). a.writes) declared ∙ ap (λ (h : Head). (txn_of set h.job.tx.0).writes) is))
    (c.work.ensures.work row here)
    (c.unwritten.ensures.which ∙ ap (λ (l : List ItemDecl). unwritten_of l c.work.result.now.may_write c.work.result.now.work) c.items.ensures)
    ∙ ap (denied set row) (sym c.in-Commit.is))
