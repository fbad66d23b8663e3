-- The ceilings of an item, computed anew from the declarations, and what they say of blocking. The ceilings are those of Sha,
-- Rajkumar, Son and Chang.
use Rattle.std.specs.Prelude.{◌≡◌, ℕ, ◌-◌, max, nat_lt, nat_le, Bool, ◌&&◌, ◌||◌, List, [], ◌∷◌, length, map, slice_get, Some}
use Rattle.std.specs.List.{filter, list_any}
use Rattle.txn_set.specs.declared.decl.TxnDecl.{TxnDecl}
use Rattle.txn_set.specs.declared.decl.Ceilings.{Ceilings}
use Rattle.txn_set.specs.Set.{Set, IsCompiled, may_read, may_write}

-- the greatest member of a list, and 0 of the empty list
abbrev pub greatest : List ℕ → ℕ
greatest [] = 0
greatest (x ∷ xs) = max x (greatest xs)

abbrev pub prios : List TxnDecl → List ℕ
prios txns = map (λ t. t.prio) txns

-- the priority of the highest transaction that may write the item
unfoldable pub write_ceiling : Set → ℕ → ℕ
write_ceiling set item = greatest (prios (filter (λ t. may_write t item) set.txns))

-- the priority of the highest transaction that may read or write the item
unfoldable pub absolute_ceiling : Set → ℕ → ℕ
absolute_ceiling set item = greatest (prios (filter (λ t. may_read t item || may_write t item) set.txns))

-- whether a transaction may hold a lock with a ceiling of at least this priority
abbrev pub may_block : Set → ℕ → TxnDecl → Bool
may_block set prio txn =
    list_any (λ i. nat_le prio (write_ceiling set i.0)) txn.reads || list_any (λ i. nat_le prio (absolute_ceiling set i.0)) txn.writes

-- the greatest number of steps that a lower transaction may take after its quiet steps and the step that took such a lock
unfoldable pub blocking : Set → ℕ → ℕ
blocking set prio = greatest (map (λ t. t.steps - t.quiet - 1) (filter (λ t. nat_lt t.prio prio && may_block set prio t) set.txns))

-- a table with the ceilings of each item
abbrev pub IsCeilingsOf : Set → List Ceilings → Type 0
IsCeilingsOf set table =
    (length table ≡ length set.items)
    × ((item : ℕ) (row : Ceilings) → slice_get table item ≡ Some row → (row.write ≡ write_ceiling set item) × (row.absolute ≡ absolute_ceiling set item))

-- a compiled set with the ceilings of its items
pub record IsWithCeilings (set : Set) (table : List Ceilings) : Type 0 where
  pub compiled : IsCompiled set
  pub ceilings : IsCeilingsOf set table
