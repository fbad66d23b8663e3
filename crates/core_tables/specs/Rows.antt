-- What contracts see of the pending rows of a compiled set: the rows of step_journal's state, and what the set declares.
use Rattle.std.specs.Prelude.{◌≡◌, ℕ, ◌+◌, ◌<◌, true, List, [], length, map, slice_index_or, slice_set, Option, None, Some}
use Rattle.std.specs.Option.{option_map}
use Rattle.rt_base.specs.declared.ids.ItemId.{ItemId}
use Rattle.rt_base.specs.declared.ids.JobId.{JobId}
use Rattle.rt_base.specs.declared.operation.Op.{Op}
use Rattle.rt_base.specs.declared.operation.Op.TheVariants.{Read, Write, Compute, Commit, Quit}
use Rattle.ceiling_table.specs.declared.CeilRow.{CeilRow}
use Rattle.ceiling_table.specs.Held.{no_ceilings}
use Rattle.item_model.specs.Work.{work_after}
use Rattle.item_model.specs.declared.stored.Stored.{Stored}
use Rattle.txn_set.specs.declared.decl.TxnDecl.{TxnDecl}
use Rattle.txn_set.specs.Set.{Set, IsCompiled, names_item}
use Rattle.txn_set.specs.Ceilings.{prios, write_ceiling, absolute_ceiling}
use Rattle.step_journal.specs.State.{Row}
use Rattle.step_journal.specs.Instant.{freed}
use Rattle.step_journal.specs.LockRule.{Above}
use Rattle.core_tables.specs.declared.head.Head.{Head}
use Rattle.core_tables.specs.declared.head.Blocker.{Blocker}

-- the items that a transaction may read and write
pub record Accesses : Type 0 where
  pub reads : List ItemId
  pub writes : List ItemId

-- what the set declares: the ceilings by item, and the others by transaction
pub record Facts : Type 0 where
  pub ceilings : List CeilRow
  pub prios : List ℕ
  pub deadlines : List ℕ
  pub accesses : List Accesses

pub record PendingSeen : Type 0 where
  pub facts : Facts
  pub rows : List (Option Row)

abbrev pub accesses_of : TxnDecl → Accesses
accesses_of t = record { reads = t.reads; writes = t.writes }

-- the row has the ceilings that the set gives an item
pub record HasCeilings (set : Set) (item : ℕ) (row : CeilRow) : Type 0 where
  pub write : row.write ≡ write_ceiling set item
  pub absolute : row.absolute ≡ absolute_ceiling set item

-- the facts are those of this compiled set
pub record AreFactsOf (set : Set) (facts : Facts) : Type 0 where
  pub compiled : IsCompiled set
  pub items : length facts.ceilings ≡ length set.items
  pub ceilings : (item : ℕ) → item < length set.items → HasCeilings set item (slice_index_or facts.ceilings item no_ceilings)
  pub prios : facts.prios ≡ prios set.txns
  pub deadlines : facts.deadlines ≡ map (λ t. t.deadline) set.txns
  pub accesses : facts.accesses ≡ map accesses_of set.txns

-- the tables are those of these rows of a state of the set
pub record AreRows (set : Set) (p : PendingSeen) (these : List (Option Row)) : Type 0 where
  pub facts : AreFactsOf set p.facts
  pub rows : p.rows ≡ these

abbrev pub head_of : Row → Head
head_of row = record { job = row.job; release = row.release; used = row.used }

abbrev pub no_access : Accesses
no_access = record { reads = []; writes = [] }

abbrev pub accesses_at : Facts → ℕ → Accesses
accesses_at facts tx = slice_index_or facts.accesses tx no_access

-- an operation's item is one that the transaction may so access
abbrev pub IsDeclared : Accesses → Op → Type 0
IsDeclared a (Read item) = names_item a.reads item.0 ≡ true
IsDeclared a (Write item value) = names_item a.writes item.0 ≡ true
IsDeclared a Compute = Unit {0}
IsDeclared a Commit = Unit {0}
IsDeclared a Quit = Unit {0}

-- the rows after a granted step of this row, after its wait, and after its end
abbrev pub row_stepped : List Stored → Op → Row → Row
row_stepped items op row = record row { used = row.used + 1; work = work_after items row.work op }

abbrev pub rows_stepped : List (Option Row) → List Stored → Op → Row → List (Option Row)
rows_stepped rows items op row = slice_set rows row.job.tx.0 (Some (row_stepped items op row))

abbrev pub rows_waiting : List (Option Row) → Row → JobId → List (Option Row)
rows_waiting rows row on = slice_set rows row.job.tx.0 (Some (record row { waits_on = Some on }))

abbrev pub rows_ended : List (Option Row) → Row → List (Option Row)
rows_ended rows row = map (option_map (freed row.job)) (slice_set rows row.job.tx.0 None)

-- the refusal as the definition has it
abbrev pub above_of : Blocker → Above
above_of b = record { holder = b.holder; ceiling = b.ceiling }
