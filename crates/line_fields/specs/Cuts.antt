-- A line is a word, and then fields, each after one blank.
use Rattle.std.specs.Prelude.{ℕ, ◌≡◌, ◌≢◌, ◌+◌, ◌<◌, ◌==◌, List, [], ◌∷◌, Option, Some, None, option_map, option_and_then, position, length, slice_index, take, drop, if◌then◌else◌}
use Rattle.std.specs.List.{position_or_len}
use Rattle.std.specs.Str.{bytes_eq}

infixl 10 ◌>>=◌
abbrev pub ◌>>=◌ : {A B : Type 0} → Option A → (A → Option B) → Option B
o >>= f = option_and_then f o

-- the bytes before the first blank, and the rest from that blank on
unfoldable pub word_of : List ℕ → List ℕ × List ℕ
word_of bs = (take (position_or_len (λ b. b == 32) bs) bs, drop (position_or_len (λ b. b == 32) bs) bs)

-- the field after a blank, and the rest
unfoldable pub field_of : List ℕ → Option (List ℕ × List ℕ)
field_of [] = None
field_of (b ∷ bs) = if b == 32 then Some (word_of bs) else None

-- what the next field is read as, and the rest
unfoldable pub next : {A : Type 0} → (List ℕ → Option A) → List ℕ → Option (A × List ℕ)
next read bs = do
  field ← field_of bs
  a ← read field.0
  Some (a, field.1)

-- the word that is wanted, and no other
unfoldable pub word_is : List ℕ → List ℕ → Option (Unit {0})
word_is want w = if bytes_eq w want then Some tt else None

-- nothing is left
abbrev pub done_of : List ℕ → Option (Unit {0})
done_of [] = Some tt
done_of (b ∷ bs) = None

-- what stands before the first such byte, and after it
abbrev pub cut_at : ℕ → List ℕ → Option (List ℕ × List ℕ)
cut_at byte bs = option_map (λ p. (take p bs, drop (p + 1) bs)) (position (λ b. b == byte) bs)

-- a field with the blank in front of it
abbrev pub field : List ℕ → List ℕ
field w = 32 ∷ w

-- no byte of these is that one
abbrev pub Lacks : ℕ → List ℕ → Type 0
Lacks byte f = (i : ℕ) → i < length f → slice_index f i ≢ byte

-- where a field ends: at the end or at a blank
abbrev pub Ends : List ℕ → Type 0
Ends [] = Unit {0}
Ends (b ∷ bs) = b ≡ 32
