-- The words that a program was called with.
use Rattle.std.specs.Prelude.{ℕ, List, map, take}
use Rattle.std.specs.String.{string_bytes}
use Rattle.std.specs.declared.string.String.{String}
use Rattle.std.specs.declared.vec.IntoIter.{IntoIter}
use Rattle.std.specs.Vec.Iter.{into_iter_items, into_iter_len}

-- the texts of the arguments that are still to come
abbrev pub said : {Z : Type 0} → IntoIter (String Z) Z → List (List ℕ)
said args = map string_bytes (take (into_iter_len args) (into_iter_items args))
