-- The set that tables describe. A list of a row stands in the table of numbers, from a place on.
use Rattle.std.specs.Prelude.{ℕ, ℤ, ◌+◌, ◌<◌, ◌≤◌, ◌==◌, if◌then◌else◌, List, map, take, drop, length}
use Rattle.std.specs.List.{All}
use Rattle.rt_base.specs.declared.ids.ItemId.{ItemId}
use Rattle.rt_base.specs.declared.ids.TogetherDecl.{TogetherDecl}
use Rattle.item_model.specs.declared.decl.ItemKind.{ItemKind}
use Rattle.item_model.specs.declared.decl.ItemKind.TheVariants.{Sensor, Derived, State}
use Rattle.item_model.specs.declared.decl.ItemDecl.{ItemDecl}
use Rattle.txn_set.specs.declared.decl.TxnDecl.{TxnDecl}
use Rattle.txn_set.specs.Set.{Set}
use Rattle.txn_compiler.specs.Kept.{set_of}
use Rattle.c_forms.specs.declared.tables.ItemRow.{ItemRow}
use Rattle.c_forms.specs.declared.tables.TxnRow.{TxnRow}
use Rattle.c_forms.specs.declared.tables.TogetherRow.{TogetherRow}
use Rattle.c_forms.specs.declared.tables.Tables.{Tables}

abbrev pub kind_of_row : ItemRow → ItemKind
kind_of_row row = if row.kind == 0 then Sensor row.validity else (if row.kind == 1 then Derived row.validity else State)

abbrev pub row_of_kind : ItemKind → ℤ → ItemRow
row_of_kind (Sensor validity) initial = record { kind = 0; validity = validity; initial = initial }
row_of_kind (Derived validity) initial = record { kind = 1; validity = validity; initial = initial }
row_of_kind State initial = record { kind = 2; validity = 0; initial = initial }

abbrev pub item_of_row : ItemRow → ItemDecl
item_of_row row = record { kind = kind_of_row row; initial = row.initial }

-- the row of an item
abbrev pub row_of_item : ItemDecl → ItemRow
row_of_item item = row_of_kind item.kind item.initial

abbrev pub ids_at : List ℕ → ℕ → ℕ → List ItemId
ids_at ids at count = map (λ i. record { 0 = i }) (take count (drop at ids))

abbrev pub txn_of_row : List ℕ → TxnRow → TxnDecl
txn_of_row ids row = record {
  prio = row.prio;
  period = row.period;
  offset = row.offset;
  deadline = row.deadline;
  steps = row.steps;
  quiet = row.quiet;
  reads = ids_at ids row.reads_at row.reads;
  writes = ids_at ids row.writes_at row.writes;
}

abbrev pub together_of_row : List ℕ → TogetherRow → TogetherDecl
together_of_row ids row = record { items = ids_at ids row.items_at row.items; within = row.within }

abbrev pub set_of_tables : Tables → Set
set_of_tables t = set_of (map item_of_row t.items.now) (map (txn_of_row t.ids.now) t.txns.now) (map (together_of_row t.ids.now) t.together.now)

abbrev pub IsKind : ItemRow → Type 0
IsKind row = row.kind ≤ 2

-- the lists of a row lie within so many numbers
abbrev pub TxnFits : ℕ → TxnRow → Type 0
TxnFits count row = (row.reads_at + row.reads ≤ count) × (row.writes_at + row.writes ≤ count)

abbrev pub TogetherFits : ℕ → TogetherRow → Type 0
TogetherFits count row = row.items_at + row.items ≤ count

-- no row and no number of the tables is bad
pub record FitTables (t : Tables) : Type 0 where
  pub kinds : All IsKind t.items.now
  pub numbers : All (λ i. i < length t.items.now) t.ids.now
  pub txns_fit : All (TxnFits (length t.ids.now)) t.txns.now
  pub together_fit : All (TogetherFits (length t.ids.now)) t.together.now
