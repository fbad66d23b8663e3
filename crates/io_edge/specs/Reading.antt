-- What was read, and what was left.
use Rattle.std.specs.Prelude.{ℕ, ◌<◌, ◌≤◌, List, length, Option, Result, Ok, Err}
use Rattle.std.specs.Global.{Vec}
use Rattle.std.specs.Io.KnownBytes.{Consumes, IsAtEnd}
use Rattle.io_edge.specs.declared.source.ReadError.{ReadError}
use Rattle.io_edge.specs.declared.source.ReadError.TheVariants.{ReadFault, TooLong, OutOfMemory}

-- some bytes were taken from the front of those that were left, and they are so many
pub record TookSome (old new : Option (List ℕ)) (Many : ℕ → Type 0) : Type 0 where
  pub bytes : List ℕ
  pub consumed : Consumes old new bytes
  pub many : Many (length bytes)

-- All bytes to the end of input, at most limit. Too long is told exactly where more than limit were taken, since every
-- other answer says that at most limit were.
abbrev pub ReadsAll : ℕ → Option (List ℕ) → Option (List ℕ) → Result (Vec ℕ) ReadError → Type 0
ReadsAll limit old new (Ok v) = Consumes old new v.items × IsAtEnd new × (length v.items ≤ limit)
ReadsAll limit old new (Err TooLong) = TookSome old new (λ n. limit < n)
ReadsAll limit old new (Err ReadFault) = TookSome old new (λ n. n ≤ limit)
ReadsAll limit old new (Err OutOfMemory) = TookSome old new (λ n. n ≤ limit)
