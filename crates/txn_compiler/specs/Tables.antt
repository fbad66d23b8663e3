-- Tables by item: the first two writers, and what the writer of an item reads.
use Rattle.std.specs.Prelude.{◌≡◌, ℕ, ◌<◌, ◌≤◌, if◌then◌else◌, max, Bool, ◌||◌, ◌&&◌, true, false, List, [], ◌∷◌, length, slice_index_or, Option, None, Some}
use Rattle.std.specs.List.{All, AllPairs, filter}
use Rattle.rt_base.specs.declared.ids.TxId.{TxId}
use Rattle.rt_base.specs.declared.ids.ItemId.{ItemId}
use Rattle.item_model.specs.declared.decl.ItemDecl.{ItemDecl}
use Rattle.item_model.specs.Kinds.{is_dated, is_derived}
use Rattle.txn_set.specs.declared.decl.TxnDecl.{TxnDecl}
use Rattle.txn_set.specs.declared.decl.Ceilings.{Ceilings}
use Rattle.txn_set.specs.Set.{no_txn, names_item, may_read, may_write}
use Rattle.txn_set.specs.Ceilings.{greatest, prios}
use Rattle.txn_compiler.specs.declared.writing.Writers.{Writers}
use Rattle.txn_compiler.specs.Graph.{writers_of, depends, reaches}
use Rattle.txn_compiler.specs.Refusal.{first_some, too_many_items, too_many_txns, same_prio, bad_times, no_writer, two_writers, cyclic_derivation}
use Rattle.txn_compiler.specs.declared.error.CompileError.{CompileError}

-- items of a set of so many, in rising order without repeats
pub record IsList (count : ℕ) (items : List ItemId) : Type 0 where
  pub rising : AllPairs (λ a b. a.0 < b.0) items
  pub in_range : All (λ i. i.0 < count) items

-- the reads and writes of transactions are such lists
pub record AreTxnsOver (count : ℕ) (txns : List TxnDecl) : Type 0 where
  pub reads : All (λ t. IsList count t.reads) txns
  pub writes : All (λ t. IsList count t.writes) txns

-- each row at a named place is changed, and the others stay
pub record ChangesNamed {X : Type 0} (change : X → X) (items : List ItemId) (old new : List X) : Type 0 where
  pub each : (i : ℕ) (d : X) → i < length old → slice_index_or new i d ≡ (if names_item items i then change (slice_index_or old i d) else slice_index_or old i d)

-- the first two of a list of transactions
abbrev pub first_two : List ℕ → Writers
first_two [] = record { first = None; second = None }
first_two (a ∷ []) = record { first = Some (record { 0 = a }); second = None }
first_two (a ∷ b ∷ others) = record { first = Some (record { 0 = a }); second = Some (record { 0 = b }) }

-- one more writer
abbrev pub with_writer_after : Option TxId → Option TxId → TxId → Writers
with_writer_after None second tx = record { first = Some tx; second = second }
with_writer_after (Some a) None tx = record { first = Some a; second = Some tx }
with_writer_after (Some a) (Some b) tx = record { first = Some a; second = Some b }

abbrev pub with_writer : TxId → Writers → Writers
with_writer tx row = with_writer_after row.first row.second tx

-- each row has the first two writers of its item
pub record AreWriters (txns : List TxnDecl) (table : List Writers) : Type 0 where
  pub each : (item : ℕ) (d : Writers) → item < length table → slice_index_or table item d ≡ first_two (writers_of txns item)

-- a row of ceilings with one more transaction that may read or write the item, and one that may write it
abbrev pub raise_absolute : ℕ → Ceilings → Ceilings
raise_absolute prio row = record { write = row.write; absolute = max row.absolute prio }

abbrev pub raise_write : ℕ → Ceilings → Ceilings
raise_write prio row = record { write = max row.write prio; absolute = max row.absolute prio }

-- the reads of the first of these transactions
abbrev pub reads_of_first : List TxnDecl → List ℕ → List ItemId
reads_of_first txns [] = []
reads_of_first txns (a ∷ others) = (slice_index_or txns a no_txn).reads

-- the reads of the writer of a derived item, and nothing of any other item
abbrev pub writer_reads : List ItemDecl → List TxnDecl → ℕ → List ItemId
writer_reads items txns item = if is_derived items item then reads_of_first txns (writers_of txns item) else []

-- marks with those of the sensor and derived items among these besides
pub record Marks (items : List ItemDecl) (parents : List ItemId) (old new : List Bool) : Type 0 where
  pub each : (i : ℕ) → slice_index_or new i false ≡ (slice_index_or old i false || (is_dated items i && names_item parents i))

-- declared items and transactions
pub record Declared : Type 0 where
  pub items : List ItemDecl
  pub txns : List TxnDecl

-- declarations within their limits, with the writers of each item
pub record IsNoted (items : List ItemDecl) (txns : List TxnDecl) (table : List Writers) : Type 0 where
  pub few_items : length items ≤ 256
  pub few_txns : length txns ≤ 64
  pub lists : AreTxnsOver (length items) txns
  pub one_each : length table ≡ length items
  pub writers : AreWriters txns table

-- no sensor or derived item lacks a writer or has two
pub record IsSingle (items : List ItemDecl) (txns : List TxnDecl) : Type 0 where
  pub written : no_writer items txns ≡ None
  pub alone : two_writers items txns ≡ None

-- settled items depend on settled items alone, and reach themselves by no walk
pub record AreSettled (items : List ItemDecl) (txns : List TxnDecl) (settled : List Bool) : Type 0 where
  pub closed : (i j : ℕ) → slice_index_or settled i false ≡ true → depends items txns i j ≡ true → slice_index_or settled j false ≡ true
  pub free : (i : ℕ) → slice_index_or settled i false ≡ true → reaches items txns i i ≡ false

-- an item is reached, and not yet done
pub record IsOpen (reached done : List Bool) (item : ℕ) : Type 0 where
  pub inside : item < length reached
  pub is_reached : slice_index_or reached item false ≡ true
  pub is_not_done : slice_index_or done item false ≡ false

abbrev pub no_ceilings : Ceilings
no_ceilings = record { write = 0; absolute = 0 }

-- the greatest priorities of the transactions that may write an item, and that may read or write it
abbrev pub write_prio : List TxnDecl → ℕ → ℕ
write_prio txns item = greatest (prios (filter (λ t. may_write t item) txns))

abbrev pub absolute_prio : List TxnDecl → ℕ → ℕ
absolute_prio txns item = greatest (prios (filter (λ t. may_read t item || may_write t item) txns))

-- each row has the ceilings of its item
pub record AreCeilings (txns : List TxnDecl) (table : List Ceilings) : Type 0 where
  pub write : (item : ℕ) (d : Ceilings) → item < length table → (slice_index_or table item d).write ≡ write_prio txns item
  pub absolute : (item : ℕ) (d : Ceilings) → item < length table → (slice_index_or table item d).absolute ≡ absolute_prio txns item

-- the refusal by a rule on items and transactions
abbrev pub txns_refusal : List ItemDecl → List TxnDecl → Option CompileError
txns_refusal items txns =
    first_some (
    too_many_items items ∷
    too_many_txns txns ∷
    same_prio txns ∷ bad_times txns ∷ no_writer items txns ∷ two_writers items txns ∷ cyclic_derivation items txns ∷ []
    )
