-- Declared items have names.
use Rattle.std.proofs.Common.{◌≡◌, ℕ, ◌<◌, List, length, sym, subst, arith}
use Rattle.std.specs.List.{All}
use Rattle.rt_base.specs.declared.ids.ItemId.{ItemId}
use Rattle.rt_base.specs.declared.name.Names.{Names}
use Rattle.txn_set.specs.declared.decl.TxnDecl.{TxnDecl}
use Rattle.txn_set.specs.Set.{Set, IsCompiled, txn_of, no_txn}
use Rattle.report_text.specs.Texts.{NamesSet}

named : (names : Names) (set : Set) (ids : List ItemId) → NamesSet names set → All (λ i. i.0 < length set.items) ids
    → All (λ i. i.0 < length names.items) ids
named names set ids one all = λ k d lt. omega (arith, all k d lt, one.items)

pub reads_named : (names : Names) (set : Set) (tx : ℕ) (txn : TxnDecl) → NamesSet names set → IsCompiled set
    → tx < length set.txns → txn ≡ txn_of set tx → All (λ i. i.0 < length names.items) txn.reads
reads_named names set tx txn one c lt is =
    subst (λ (t : TxnDecl). All (λ i. i.0 < length names.items) t.reads) (sym is)
    (named names set (txn_of set tx).reads one (c.reads tx no_txn lt).in_range)

pub writes_named : (names : Names) (set : Set) (tx : ℕ) (txn : TxnDecl) → NamesSet names set → IsCompiled set
    → tx < length set.txns → txn ≡ txn_of set tx → All (λ i. i.0 < length names.items) txn.writes
writes_named names set tx txn one c lt is =
    subst (λ (t : TxnDecl). All (λ i. i.0 < length names.items) t.writes) (sym is)
    (named names set (txn_of set tx).writes one (c.writes tx no_txn lt).in_range)
