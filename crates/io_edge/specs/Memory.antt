-- What sources and sinks in memory stand for, and which of their calls fail.
use Rattle.std.specs.Prelude.{◌≡◌, ℕ, ◌-◌, ◌^◌, ◌<◌, ◌≤◌, ◌⊎◌, List, length}
use Rattle.std.specs.List.{Contains}

-- the bytes still to come, the numbers of the calls that fail, the number of the next call, and how many failed
pub record SourceState : Type 0 where
  pub left : List ℕ
  pub failing : List ℕ
  pub calls : ℕ
  pub faults : ℕ

-- the bytes taken so far, how many are taken in all and in one call, and the rest as above
pub record SinkState : Type 0 where
  pub taken : List ℕ
  pub room : ℕ
  pub most : ℕ
  pub failing : List ℕ
  pub calls : ℕ
  pub faults : ℕ

-- the call of this number fails: it is one of those given, or the greatest u64 of calls were made
abbrev pub Fails : List ℕ → ℕ → Type 0
Fails failing call = Contains failing call ⊎ (call ≡ 2 ^ 64 - 1)

-- there is a byte to take, and no room for it
abbrev pub IsFull : SinkState → ℕ → Type 0
IsFull s n = (0 < n) × (s.room ≤ length s.taken)
