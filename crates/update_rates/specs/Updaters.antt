-- Updating transactions: each reads nothing and may write one item, a sensor item.
use Rattle.std.specs.Prelude.{ℕ, List, [], ◌∷◌, map, Option, None, Some, slice_get, slice_index_or}
use Rattle.std.specs.Option.{option_and_then, unwrap_or}
use Rattle.rt_base.specs.declared.ids.ItemId.{ItemId}
use Rattle.item_model.specs.declared.decl.ItemDecl.{ItemDecl}
use Rattle.item_model.specs.declared.decl.ItemKind.{ItemKind}
use Rattle.item_model.specs.declared.decl.ItemKind.TheVariants.{Sensor}
use Rattle.txn_set.specs.declared.decl.TxnDecl.{TxnDecl}
use Rattle.txn_set.specs.Set.{Set}
use Rattle.update_rates.specs.declared.updaters.Updater.{Updater}

-- the validity of a sensor item; none of another
abbrev pub sensor_validity : ItemKind → Option ℕ
sensor_validity (Sensor validity) = Some validity
sensor_validity other = None

-- the validity of the sensor item that stands alone in a list
abbrev pub lone_sensor : List ItemDecl → List ItemId → Option ℕ
lone_sensor items [] = None
lone_sensor items (i ∷ []) = option_and_then (λ d. sensor_validity d.kind) (slice_get items i.0)
lone_sensor items (i ∷ j ∷ more) = None

-- the validity of the sensor item that an updater writes; none where the reads or the writes are not an updater's
abbrev pub written_validity : List ItemDecl → List ItemId → List ItemId → Option ℕ
written_validity items [] writes = lone_sensor items writes
written_validity items (i ∷ reads) writes = None

abbrev pub updater_validity : List ItemDecl → TxnDecl → Option ℕ
updater_validity items txn = written_validity items txn.reads txn.writes

-- the steps of each transaction, and the validity of what it writes
abbrev pub updater_of : List ItemDecl → TxnDecl → Updater
updater_of items txn = record { steps = txn.steps; validity = unwrap_or (updater_validity items txn) 0 }

abbrev pub updaters : Set → List Updater
updaters set = map (updater_of set.items) set.txns

-- what stands for an updater that the list does not have
abbrev pub no_updater : Updater
no_updater = record { steps = 0; validity = 0 }

abbrev pub updater_at : List Updater → ℕ → Updater
updater_at us tx = slice_index_or us tx no_updater
