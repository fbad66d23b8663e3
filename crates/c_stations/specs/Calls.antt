-- Device calls on one file: what it holds after they were made in order, and what a crash may leave of it meanwhile. Here
-- calls stand the newest first, and before the first of them the file was durable.
use Rattle.std.specs.Prelude.{◌≡◌, ℕ, ◌+◌, ◌≤◌, ◌⊎◌, List, [], ◌∷◌, ◌++◌, length, reverse, take}
use Rattle.std.proofs.Common.{inl, inr, sym, arith}
use Rattle.std.proofs.lemmas.List.{length-reverse}
use Rattle.durable_disk.specs.Images.{Torn}
use Rattle.durable_disk.specs.Memory.{after_write}
use Rattle.c_stations.specs.declared.call.Call.{Call}
use Rattle.c_stations.specs.declared.call.Call.TheVariants.{Write, Sync}
use Rattle.c_stations.specs.declared.call.Piece.{Piece}

-- the bytes of a write
abbrev pub bytes_of : Call → List ℕ
bytes_of Sync = []
bytes_of (Write piece) = take piece.count piece.bytes

-- the file after a call
abbrev pub after : Call → List ℕ → List ℕ
after Sync file = file
after (Write piece) file = after_write piece.at (take piece.count piece.bytes) file

-- the file after calls
abbrev pub held : List ℕ → List Call → List ℕ
held file [] = file
held file (call ∷ calls) = after call (held file calls)

-- the same of calls that stand the oldest first
abbrev pub held_all : List ℕ → List Call → List ℕ
held_all file [] = file
held_all file (call ∷ calls) = held_all (after call file) calls

-- what the last sync made durable, after each write since left some of it
abbrev pub Reaches : List ℕ → List Call → List ℕ → Type 0
Reaches file [] c = c ≡ file
Reaches file (Sync ∷ calls) c = c ≡ held file calls
Reaches file (Write piece ∷ calls) c = (d : List ℕ) × Reaches file calls d × Torn piece.at piece.count d c

-- what a crash after these calls may leave: all that was written, or what the writes since the last sync reach
abbrev pub MayLeave : List ℕ → List Call → List ℕ → Type 0
MayLeave file calls c = (c ≡ held file calls) ⊎ Reaches file calls c

-- what a crash may leave while the calls behind the first t are made, or after them
abbrev pub LeftSince : List ℕ → List Call → ℕ → List ℕ → Type 0
LeftSince file [] t c = MayLeave file [] c
LeftSince file (call ∷ calls) t c = MayLeave file (call ∷ calls) c ⊎ ((t ≤ length calls) × LeftSince file calls t c)

-- a write ends within the first n bytes
abbrev pub EndsWithin : ℕ → Call → Type 0
EndsWithin n Sync = Unit {0}
EndsWithin n (Write piece) = (piece.at + piece.count ≤ n) × (piece.count ≤ 256)

-- a write of these bytes was put behind the calls
pub record IsWriteOf (at : ℕ) (bytes : List ℕ) (old new : List Call) : Type 0 where
  pub piece : Piece
  pub noted : new ≡ old ++ Write piece ∷ []
  pub newest : reverse new ≡ Write piece ∷ reverse old
  pub from : piece.at ≡ at
  pub count : piece.count ≡ length bytes
  pub stands : take piece.count piece.bytes ≡ bytes

pub left_now : (file : List ℕ) (calls : List Call) (t : ℕ) (c : List ℕ) → MayLeave file calls c → LeftSince file calls t c
left_now file [] t c now = now
left_now file (call ∷ calls) t c now = inl now

now_only : (file : List ℕ) (calls : List Call) (n : ℕ) (c : List ℕ) → n ≡ length calls → LeftSince file calls n c → MayLeave file calls c
now_only file [] n c is left = left
now_only file (call ∷ calls) n c is (inl now) = now
now_only file (call ∷ calls) n c is (inr earlier) = absurd (omega (arith, is, earlier.0))

pub only_now : (file : List ℕ) (calls : List Call) (c : List ℕ) → LeftSince file (reverse calls) (length calls) c → MayLeave file (reverse calls) c
only_now file calls c left = now_only file (reverse calls) (length calls) c (sym (length-reverse calls)) left
