-- Declarations whose items are items of a set, as `compile` asks for them.
use Rattle.std.specs.Prelude.{ℕ, ◌<◌, List}
use Rattle.std.specs.List.{All}
use Rattle.rt_base.specs.declared.ids.ItemId.{ItemId}
use Rattle.txn_set.specs.declared.decl.TxnDecl.{TxnDecl}

abbrev pub AreNamed : ℕ → List ItemId → Type 0
AreNamed count items = All (λ i. i.0 < count) items

pub record IsNamed (count : ℕ) (txn : TxnDecl) : Type 0 where
  pub reads : AreNamed count txn.reads
  pub writes : AreNamed count txn.writes
