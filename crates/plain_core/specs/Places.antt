-- What a job's lists keep to, so that no note takes memory: items of a set, each once, with places for as many.
use Rattle.std.specs.Prelude.{◌≡◌, ℕ, ◌<◌, ◌≤◌, true, List, map, eqb}
use Rattle.std.specs.List.{IsDistinct, list_any}
use Rattle.item_model.specs.declared.stored.OutsideRead.{OutsideRead}
use Rattle.item_model.specs.declared.stored.OwnWrite.{OwnWrite}
use Rattle.item_model.specs.Work.{read_items, write_items}

abbrev pub most_items : ℕ
most_items = 256

-- items of a set, each once
pub record AreFew (items : List ℕ) : Type 0 where
  pub low : (i : ℕ) → list_any (eqb i) items ≡ true → i < most_items
  pub once : IsDistinct eqb items

pub record HasPlaces (reads : List OutsideRead) (writes : List OwnWrite) (read_places write_places : ℕ) : Type 0 where
  pub reads_few : AreFew (read_items reads)
  pub writes_few : AreFew (write_items writes)
  pub reads_fit : most_items ≤ read_places
  pub writes_fit : most_items ≤ write_places
