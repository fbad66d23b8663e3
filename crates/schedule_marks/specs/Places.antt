-- Where ticks, transactions, locks and ceilings stand in a picture, in pixels.
use Rattle.std.specs.Prelude.{ℕ, zero, suc, ◌^◌, ◌+◌, ◌-◌, ◌*◌, ◌/◌, ◌==◌, Bool, min, max, nat_lt, nat_le, List, [], ◌∷◌, length, map, position, slice_index_or, Option, Some, None, if◌then◌else◌}
use Rattle.std.specs.List.{count_by}
use Rattle.std.specs.Option.{unwrap_or}
use Rattle.rt_base.specs.declared.name.Names.{Names}
use Rattle.rt_base.specs.declared.ids.ItemId.{ItemId}
use Rattle.item_model.specs.Kinds.{validity_of, is_dated}
use Rattle.txn_set.specs.declared.decl.TxnDecl.{TxnDecl}
use Rattle.txn_set.specs.Set.{Set, txn_of}
use Rattle.txn_set.specs.Ceilings.{greatest}
use Rattle.schedule_marks.specs.declared.part.Part.{Part}
use Rattle.schedule_marks.specs.declared.view.View.{View}

-- ---- names, at the left

-- the greatest length of a name
abbrev pub longest : List (List ℕ) → ℕ
longest names = greatest (map (λ (name : List ℕ). length name) names)

-- the names have room up to here
abbrev pub left_of : Names → ℕ
left_of names = max 150 (30 + 8 * min (max (longest names.txns) (longest names.items)) 32)

abbrev pub view_of : Names → Part → View
view_of names part = record { part = part; left = left_of names }

-- how many letters stand in so many pixels: a letter takes at most 7, and 3 stay free on each side
abbrev pub letters_in : ℕ → ℕ
letters_in room = (room - 6) / 7

-- ---- ticks, from left to right

abbrev pub ticks_shown : Part → ℕ
ticks_shown part = min (part.to - part.from) 10000

-- the width of a tick, where so many are shown
abbrev pub tick_width : ℕ → ℕ
tick_width ticks =
    if nat_le ticks 100 then 20 else (
    if nat_le ticks 200 then 16 else (
    if nat_le ticks 400 then 8 else (
    if nat_le ticks 1000 then 4 else (
    if nat_le ticks 2500 then 2 else 1))))

-- a number stands after each so many ticks
abbrev pub number_step : ℕ → ℕ
number_step ticks =
    if nat_le ticks 100 then 5 else (
    if nat_le ticks 200 then 10 else (
    if nat_le ticks 400 then 20 else (
    if nat_le ticks 1000 then 25 else (
    if nat_le ticks 2500 then 50 else 100))))

abbrev pub width_of : View → ℕ
width_of view = tick_width (ticks_shown view.part)

-- what lies outside the part stands at its nearer end
abbrev pub x_of : View → ℕ → ℕ
x_of view tick = view.left + min (tick - view.part.from) (ticks_shown view.part) * width_of view

-- the middle of a tick
abbrev pub middle_of : View → ℕ → ℕ
middle_of view tick = x_of view tick + width_of view / 2

-- ---- ceilings, above the rows

-- how many transactions have at most this priority
abbrev pub level_of : List TxnDecl → ℕ → ℕ
level_of txns prio = count_by (λ t. nat_le t.prio prio) txns

abbrev pub level_y : Set → ℕ → ℕ
level_y set prio = 100 + 14 * (length set.txns - level_of set.txns prio)

-- ---- rows, in falling priority

abbrev pub rows_top : ℕ → ℕ
rows_top txns = 130 + 14 * txns

-- a row has a lane for each declared read and write, up to 64
abbrev pub row_height : TxnDecl → ℕ
row_height txn = 80 + 14 * min (length txn.reads + length txn.writes) 64

abbrev pub higher_height : ℕ → TxnDecl → ℕ
higher_height prio txn = if nat_lt prio txn.prio then row_height txn else 0

abbrev pub height_above : List TxnDecl → ℕ → ℕ
height_above [] prio = 0
height_above (t ∷ ts) prio = higher_height prio t + height_above ts prio

abbrev pub row_y : Set → ℕ → ℕ
row_y set prio = rows_top (length set.txns) + height_above set.txns prio

-- the row of a transaction
abbrev pub y_of : Set → ℕ → ℕ
y_of set tx = row_y set (txn_of set tx).prio

abbrev pub or_else : Option ℕ → ℕ → ℕ
or_else (Some at) n = at
or_else None n = n

-- the place of an item, or the length where it is not among them
abbrev pub place_of : List ItemId → ℕ → ℕ
place_of items item = or_else (position (λ i. i.0 == item) items) (length items)

-- the place of a lock: the reads come first
abbrev pub lock_place : TxnDecl → ℕ → Bool → ℕ
lock_place txn item is_write = if is_write then length txn.reads + place_of txn.writes item else place_of txn.reads item

abbrev pub lane_of : TxnDecl → ℕ → Bool → ℕ
lane_of txn item is_write = min (lock_place txn item is_write) 63

abbrev pub lane_y : Set → ℕ → ℕ → Bool → ℕ
lane_y set tx item is_write = y_of set tx + 74 + 14 * lane_of (txn_of set tx) item is_write

-- how many lanes have a name of their own; the last one of more is shared
abbrev pub lanes_named : TxnDecl → ℕ
lanes_named txn = if nat_le (length txn.reads + length txn.writes) 64 then length txn.reads + length txn.writes else 63

abbrev pub first_item : ItemId
first_item = record { 0 = 0 }

abbrev pub is_read_lane : TxnDecl → ℕ → Bool
is_read_lane txn lane = nat_lt lane (length txn.reads)

-- the item of a lane
abbrev pub lane_item : TxnDecl → ℕ → ItemId
lane_item txn lane =
    if is_read_lane txn lane then slice_index_or txn.reads lane first_item
    else slice_index_or txn.writes (lane - length txn.reads) first_item

-- ---- lanes of items with a validity, below the rows

abbrev pub validity_in : Set → ℕ → ℕ
validity_in set item = unwrap_or (validity_of set.items item) 0

-- how many items below this place have a validity
abbrev pub lanes_below : Set → ℕ → ℕ
lanes_below set zero = 0
lanes_below set (suc n) = lanes_below set n + (if is_dated set.items n then 1 else 0)

abbrev pub item_y : Set → ℕ → ℕ
item_y set item = row_y set 0 + 60 * lanes_below set (min item (length set.items))

-- 30 pixels for the validity, and at most 45; what is above 2^50 ticks counts as that
abbrev pub age_height : ℕ → ℕ → ℕ
age_height validity age = min (min age (2 ^ 50) * 30 / max validity 1) 45

abbrev pub age_y : Set → ℕ → ℕ → ℕ
age_y set item age = item_y set item + 54 - age_height (validity_in set item) age

-- the tick from which on a value of this stamp is drawn no higher, between two others
abbrev pub top_tick : ℕ → ℕ → ℕ → ℕ → ℕ
top_tick validity stamp from to = min (max (stamp + min validity (2 ^ 50) * 3 / 2) from) to
