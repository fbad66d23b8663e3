-- The rules on one job: what it has read from outside and written (own reads, private writes), the verdict of its commit
-- (staleness, relative validity), and the items after it (install, stamps).
use Rattle.std.specs.Prelude.{ℕ, ◌-◌, ◌==◌, nat_lt, Bool, false, not, ◌&&◌, ◌||◌, if◌then◌else◌, ℤ, pos, List, [], ◌∷◌, Option, None, Some, is_some, map, slice_set, slice_index_or}
use Rattle.std.specs.List.{find, filter, filter_map, list_all, fold}
use Rattle.std.specs.Option.{option_map_or}
use Rattle.rt_base.specs.declared.ids.ItemId.{ItemId}
use Rattle.rt_base.specs.declared.ids.TogetherDecl.{TogetherDecl}
use Rattle.rt_base.specs.declared.operation.Op.{Op}
use Rattle.rt_base.specs.declared.operation.Op.TheVariants.{Read, Write, Compute}
use Rattle.rt_base.specs.declared.operation.End.{End}
use Rattle.rt_base.specs.declared.operation.End.TheVariants as end
use Rattle.rt_base.specs.declared.operation.Outcome.{Outcome}
use Rattle.rt_base.specs.declared.operation.Outcome.TheVariants.{Got, Put, Computed, Closed}
use Rattle.item_model.specs.declared.decl.ItemDecl.{ItemDecl}
use Rattle.item_model.specs.declared.stored.Stored.{Stored}
use Rattle.item_model.specs.declared.stored.OutsideRead.{OutsideRead}
use Rattle.item_model.specs.declared.stored.OwnWrite.{OwnWrite}
use Rattle.item_model.specs.Kinds.{validity_of, is_dated, is_derived}

-- a job's outside reads, and its writes, each item with its last value
pub record Work : Type 0 where
  pub reads : List OutsideRead
  pub writes : List OwnWrite

abbrev pub no_work : Work
no_work = record { reads = []; writes = [] }

-- the items of reads, and of writes
abbrev pub read_items : List OutsideRead → List ℕ
read_items reads = map (λ r. r.item.0) reads

abbrev pub write_items : List OwnWrite → List ℕ
write_items writes = map (λ w. w.item.0) writes

-- the work of a job that read and wrote these, and of one that read these and wrote nothing
abbrev pub of_notes : List OutsideRead → List OwnWrite → Work
of_notes reads writes = record { reads = reads; writes = writes }

abbrev pub of_reads : List OutsideRead → Work
of_reads reads = of_notes reads []

abbrev pub stored_of : List Stored → ℕ → Stored
stored_of items item = slice_index_or items item (record { value = pos 0; stamp = 0 })

-- the outside read of an item, and the own write of it
abbrev pub read_of : Work → ℕ → Option OutsideRead
read_of work item = find (λ r. r.item.0 == item) work.reads

abbrev pub write_of : Work → ℕ → Option OwnWrite
write_of work item = find (λ w. w.item.0 == item) work.writes

abbrev pub has_read : Work → ℕ → Bool
has_read work item = is_some (read_of work item)

abbrev pub has_written : Work → ℕ → Bool
has_written work item = is_some (write_of work item)

-- the reads with one more, unless that item is among them
abbrev pub with_read : List OutsideRead → ItemId → ℕ → List OutsideRead
with_read [] item stamp = record { item = item; stamp = stamp } ∷ []
with_read (r ∷ rs) item stamp = if r.item.0 == item.0 then r ∷ rs else r ∷ with_read rs item stamp

-- the writes with this one, in place of an earlier one of that item
abbrev pub with_write : List OwnWrite → ItemId → ℤ → List OwnWrite
with_write [] item value = record { item = item; value = value } ∷ []
with_write (w ∷ ws) item value =
    if w.item.0 == item.0 then record { item = item; value = value } ∷ ws else w ∷ with_write ws item value

-- A Read gives the job's own write, with no stamp, or else the item's value and stamp.
abbrev pub got : Option OwnWrite → Stored → Outcome
got (Some w) stored = Got w.value None
got None stored = Got stored.value (Some stored.stamp)

abbrev pub outcome_of : List Stored → Work → Op → Outcome
outcome_of items work (Read item) = got (write_of work item.0) (stored_of items item.0)
outcome_of items work (Write item value) = Put
outcome_of items work Compute = Computed
outcome_of items work other = Closed

-- what is noted of an operation: an outside read with its stamp, and a write
abbrev pub work_after : List Stored → Work → Op → Work
work_after items work (Read item) =
    if has_written work item.0
    then work
    else record work { reads = with_read work.reads item (stored_of items item.0).stamp }
work_after items work (Write item value) = record work { writes = with_write work.writes item value }
work_after items work other = work

-- each sensor or derived item among these is written (the complete-writes rule)
abbrev pub is_complete : List ItemDecl → List ItemId → Work → Bool
is_complete decls writes work = list_all (λ i. not (is_dated decls i.0) || has_written work i.0) writes

-- the outside reads of these items, in their order
abbrev pub reads_of : Work → List ItemId → List OutsideRead
reads_of work items = filter_map (λ i. read_of work i.0) items

-- whether the age is above the validity, if there is one
abbrev pub is_above : ℕ → Option ℕ → Bool
is_above age None = false
is_above age (Some validity) = nat_lt validity age

-- whether what was read is past its validity at a tick
abbrev pub is_expired : List ItemDecl → ℕ → OutsideRead → Bool
is_expired decls tick r = is_above (tick - r.stamp) (validity_of decls r.item.0)

-- whether a read has a lesser stamp than another, and whether it has a greater one; among equal stamps, the lesser item
unfoldable pub is_older : OutsideRead → OutsideRead → Bool
is_older s r = nat_lt s.stamp r.stamp || (s.stamp == r.stamp && nat_lt s.item.0 r.item.0)

unfoldable pub is_newer : OutsideRead → OutsideRead → Bool
is_newer s r = nat_lt r.stamp s.stamp || (s.stamp == r.stamp && nat_lt s.item.0 r.item.0)

-- the read with the least stamp and the one with the greatest, each the first in item order among equals
abbrev pub older : OutsideRead → Option OutsideRead → OutsideRead
older r None = r
older r (Some s) = if is_older s r then s else r

abbrev pub oldest : List OutsideRead → Option OutsideRead
oldest [] = None
oldest (r ∷ rs) = Some (older r (oldest rs))

abbrev pub newer : OutsideRead → Option OutsideRead → OutsideRead
newer r None = r
newer r (Some s) = if is_newer s r then s else r

abbrev pub newest : List OutsideRead → Option OutsideRead
newest [] = None
newest (r ∷ rs) = Some (newer r (newest rs))

-- two reads with their stamps more than an interval apart
abbrev pub parted : ℕ → Option OutsideRead → Option OutsideRead → Option (OutsideRead × OutsideRead)
parted within (Some a) (Some b) = if nat_lt within (b.stamp - a.stamp) then Some (a, b) else None
parted within (Some a) None = None
parted within None b = None

-- the oldest and the newest read of a relative set, whatever order its items have, where they lie too far apart
abbrev pub apart_in : Work → TogetherDecl → Option (OutsideRead × OutsideRead)
apart_in work group = parted group.within (oldest (reads_of work group.items)) (newest (reads_of work group.items))

abbrev pub first_of_both : {A : Type 0} → Option A → Option A → Option A
first_of_both (Some a) b = Some a
first_of_both None b = b

-- those of the first relative set that is apart
abbrev pub first_apart : Work → List TogetherDecl → Option (OutsideRead × OutsideRead)
first_apart work [] = None
first_apart work (group ∷ groups) = first_of_both (apart_in work group) (first_apart work groups)

abbrev pub judged : Option OutsideRead → Option (OutsideRead × OutsideRead) → End
judged (Some r) apart = end.Stale r.item r.stamp
judged None (Some p) = end.Apart p.0.item p.1.item
judged None None = end.Committed

-- The verdict of a commit that ends at a tick, by the declared reads in item order: Stale by the first that is expired, else
-- Apart by the first relative set that is apart, else Committed.
unfoldable pub verdict : List ItemDecl → List TogetherDecl → List ItemId → Work → ℕ → End
verdict decls together reads work tick = judged (find (is_expired decls tick) (reads_of work reads)) (first_apart work together)

-- A derived item is stamped with the oldest dated read, if there is one; any other with the job's release.
unfoldable pub stamp_for : List ItemDecl → Work → ℕ → ℕ → ℕ
stamp_for decls work release item =
    if is_derived decls item
    then option_map_or (λ r. r.stamp) (oldest (filter (λ r. is_dated decls r.item.0) work.reads)) release
    else release

abbrev pub write_installed : List ItemDecl → Work → ℕ → List Stored → OwnWrite → List Stored
write_installed decls work release items w =
    slice_set items w.item.0 (record { value = w.value; stamp = stamp_for decls work release w.item.0 })

-- the items after a job ended: a committed job's writes are installed, any other leaves nothing
abbrev pub items_after : List ItemDecl → Work → ℕ → End → List Stored → List Stored
items_after decls work release end.Committed items = fold (write_installed decls work release) items work.writes
items_after decls work release other items = items
