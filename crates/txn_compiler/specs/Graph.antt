-- Who may write an item, and which items it depends on, as tests on the declarations. Items and transactions go by their places.
use Rattle.std.specs.Prelude.{ℕ, zero, suc, Bool, ◌&&◌, ◌||◌, if◌then◌else◌, List, [], ◌∷◌, length}
use Rattle.std.specs.List.{list_any}
use Rattle.item_model.specs.declared.decl.ItemDecl.{ItemDecl}
use Rattle.item_model.specs.Kinds.{is_dated, is_derived}
use Rattle.txn_set.specs.declared.decl.TxnDecl.{TxnDecl}
use Rattle.txn_set.specs.Set.{may_read, may_write}

-- the transactions that may write an item, in list order, where the list begins at this place
abbrev pub writers_from : ℕ → ℕ → List TxnDecl → List ℕ
writers_from item place [] = []
writers_from item place (txn ∷ txns) = if may_write txn item then place ∷ writers_from item (suc place) txns else writers_from item (suc place) txns

abbrev pub writers_of : List TxnDecl → ℕ → List ℕ
writers_of txns item = writers_from item 0 txns

-- whether a derived item depends on another: that one is a sensor or derived item, and a writer of the first reads it
abbrev pub depends : List ItemDecl → List TxnDecl → ℕ → ℕ → Bool
depends items txns from to = is_derived items from && (is_dated items to && list_any (λ t. may_write t from && may_read t to) txns)

-- whether an item reaches another along a relation, by a walk whose inner items are all below a bound (after Warshall)
abbrev pub reaches_through : (ℕ → ℕ → Bool) → ℕ → ℕ → ℕ → Bool
reaches_through edge zero from to = edge from to
reaches_through edge (suc bound) from to = reaches_through edge bound from to || (reaches_through edge bound from bound && reaches_through edge bound bound to)

-- whether an item reaches another along dependencies: the transitive closure
unfoldable pub reaches : List ItemDecl → List TxnDecl → ℕ → ℕ → Bool
reaches items txns from to = reaches_through (depends items txns) (length items) from to
