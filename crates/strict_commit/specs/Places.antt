-- What a job's lists keep to: what it declares in item order, and so that no note takes memory, declared items, each once,
-- with places for as many.
use Rattle.std.specs.Prelude.{◌≡◌, ℕ, ◌≤◌, true, List, map, length, eqb}
use Rattle.std.specs.List.{IsDistinct, list_any}
use Rattle.rt_base.specs.declared.ids.ItemId.{ItemId}
use Rattle.item_model.specs.declared.stored.OutsideRead.{OutsideRead}
use Rattle.item_model.specs.declared.stored.OwnWrite.{OwnWrite}
use Rattle.item_model.specs.Work.{read_items, write_items}
use Rattle.strict_commit.specs.Jobs.{AreInItemOrder}

abbrev pub items_of : List ItemId → List ℕ
items_of items = map (λ i. i.0) items

-- items that are declared, each once
pub record AreDeclared (declared : List ItemId) (items : List ℕ) : Type 0 where
  pub among : (i : ℕ) → list_any (eqb i) items ≡ true → list_any (eqb i) (items_of declared) ≡ true
  pub once : IsDistinct eqb items

pub record HasPlaces (may_read : List ItemId) (reads : List OutsideRead) (read_places : ℕ) (may_write : List ItemId) (writes : List OwnWrite) (write_places : ℕ) : Type 0 where
  pub reads_declared : AreDeclared may_read (read_items reads)
  pub writes_declared : AreDeclared may_write (write_items writes)
  pub reads_fit : length may_read ≤ read_places
  pub writes_fit : length may_write ≤ write_places
  pub reads_rise : AreInItemOrder may_read
  pub writes_rise : AreInItemOrder may_write
