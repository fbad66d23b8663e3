-- A tick for each transaction, kept as keys, and the least of them.
use Rattle.std.specs.Prelude.{◌≡◌, ℕ, ◌+◌, ◌-◌, ◌*◌, ◌/◌, ◌%◌, ◌^◌, ◌<◌, ◌≤◌, List, length, slice_index_or}

-- what stands where there is no tick; each tick is lower
abbrev pub no_tick : ℕ
no_tick = 2 ^ 41 - 1

abbrev pub tick_at : List ℕ → ℕ → ℕ
tick_at ticks tx = slice_index_or ticks tx no_tick

-- the key of a transaction and its tick; of equal ticks the lower transaction has the lower key
abbrev pub key_of : ℕ → ℕ → ℕ
key_of tx tick = tick * 2 ^ 22 + tx

abbrev pub tick_of : ℕ → ℕ
tick_of key = key / 2 ^ 22

-- what stands where there is no key
abbrev pub no_key : ℕ
no_key = 2 ^ 63 - 1

abbrev pub key_at : List ℕ → ℕ → ℕ
key_at keys tx = slice_index_or keys tx no_key

-- each key is of its own transaction, or of no tick
pub record AreKeys (keys : List ℕ) : Type 0 where
  pub few : length keys ≤ 2 ^ 22
  pub own : (tx : ℕ) → tick_of (key_at keys tx) < no_tick → key_at keys tx % 2 ^ 22 ≡ tx
  pub low : (tx : ℕ) → key_at keys tx ≤ no_key

-- the least of so many keys from a place on
pub record IsLeastOf (keys : List ℕ) (from count least : ℕ) : Type 0 where
  pub below : (k : ℕ) → k < count → least ≤ key_at keys (from + k)
  pub among : (k : ℕ) × (k < count) × (key_at keys (from + k) ≡ least)

-- of each row of eight keys the least, as whole rows of eight, and the least of all
pub record AreLeasts (keys leasts : List ℕ) (least : ℕ) : Type 0 where
  pub size : length keys ≡ 8 * length leasts
  pub whole : (rows : ℕ) × (length leasts ≡ 8 * (rows + 1))
  pub rows : (row : ℕ) → row < length leasts → IsLeastOf keys (8 * row) 8 (key_at leasts row)
  pub all : IsLeastOf leasts 0 (length leasts) least

-- the least tick of all transactions
pub record IsLeast (ticks : List ℕ) (least : ℕ) : Type 0 where
  pub below : (tx : ℕ) → least ≤ tick_at ticks tx
  pub among : (tx : ℕ) × (tick_at ticks tx ≡ least)

-- no transaction has a lower tick, and none below it the same
pub record IsFirstLeast (ticks : List ℕ) (place : ℕ) : Type 0 where
  pub below : (tx : ℕ) → tick_at ticks place ≤ tick_at ticks tx
  pub first : (tx : ℕ) → tx < place → tick_at ticks place < tick_at ticks tx
