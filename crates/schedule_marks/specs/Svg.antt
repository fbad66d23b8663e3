-- The elements of a picture.
use Rattle.std.specs.Prelude.{ℕ, ◌+◌, nat_le, List, [], ◌∷◌, length, codes, decimal, if◌then◌else◌}
use Rattle.journal_text.specs.Lines.{◌⊕◌}
use Rattle.schedule_marks.specs.Places.{letters_in}

-- what stands before a number, and the number
unfoldable pub counted : List ℕ → ℕ → List ℕ
counted bytes n = bytes ⊕ decimal n

unfoldable pub rect : List ℕ → ℕ → ℕ → ℕ → ℕ → List ℕ
rect class x y width height =
    codes "<rect class='" ⊕ class ⊕ counted (codes "' x='") x ⊕ counted (codes "' y='") y
    ⊕ counted (codes "' width='") width ⊕ counted (codes "' height='") height ⊕ codes "'/>\n"

unfoldable pub line : List ℕ → ℕ → ℕ → ℕ → ℕ → List ℕ
line class x y to_x to_y =
    codes "<line class='" ⊕ class ⊕ counted (codes "' x1='") x ⊕ counted (codes "' y1='") y
    ⊕ counted (codes "' x2='") to_x ⊕ counted (codes "' y2='") to_y ⊕ codes "'/>\n"

unfoldable pub circle : List ℕ → ℕ → ℕ → List ℕ
circle class x y =
    codes "<circle class='" ⊕ class ⊕ counted (codes "' cx='") x ⊕ counted (codes "' cy='") y ⊕ codes "' r='6'/>\n"

-- two words in a row
unfoldable pub words : List ℕ → ℕ → ℕ → List ℕ → List ℕ → List ℕ
words class x y first second =
    codes "<text class='" ⊕ class ⊕ counted (codes "' x='") x ⊕ counted (codes "' y='") y ⊕ codes "'>" ⊕ first
    ⊕ second ⊕ codes "</text>\n"

-- a word, if there is one
unfoldable pub some_word : List ℕ → ℕ → ℕ → List ℕ → List ℕ
some_word class x y [] = []
some_word class x y (b ∷ bs) = words class x y (b ∷ bs) []

-- two words in a row, if they have room in so many pixels
unfoldable pub fitting : List ℕ → ℕ → ℕ → ℕ → List ℕ → List ℕ → List ℕ
fitting class x y room first second =
    if nat_le (length first + length second) (letters_in room) then words class x y first second else []
