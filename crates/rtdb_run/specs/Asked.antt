-- What the words ask for.
use Rattle.std.specs.Prelude.{ℕ, Bool, true, false, List, [], ◌∷◌, codes, Option, Some, None}
use Rattle.std.specs.Str.{bytes_eq}
use Rattle.rtdb_command.specs.Journals.{is_journal}

-- the first word is `journal`
abbrev pub is_for_journal : List (List ℕ) → Bool
is_for_journal [] = false
is_for_journal (name ∷ words) = bytes_eq name (codes "journal")

-- the second of two words, where it is asked for
abbrev pub second : Bool → List (List ℕ) → Option (List ℕ)
second true (name ∷ path ∷ []) = Some path
second _ _ = None

-- the path of the words `journal PATH`, and none of other words
abbrev pub path_in : List (List ℕ) → Option (List ℕ)
path_in words = second (is_journal words) words
