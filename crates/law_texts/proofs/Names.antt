-- Names that are read one after another.
use Rattle.std.proofs.Common.{◌≡◌, ℕ, suc, ◌<◌, List, [], ◌∷◌, ◌++◌, length, get_or, true, None, refl, arith}
use Rattle.rt_base.specs.Names.{is_name, AreNames}
use Rattle.name_table.specs.Places.{place_in}
use Rattle.name_table.proofs.Places.{place_at, none_further}
use Rattle.law_texts.proofs.Exprs.{ArePlaced}

-- names, of which no two are equal, that have no place among those before them
pub record AreFresh (before names : List (List ℕ)) : Type 0 where
  pub plain : (i : ℕ) → i < length names → is_name (get_or names i []) ≡ true
  pub new : (i : ℕ) → i < length names → place_in before (get_or names i []) ≡ None
  pub once : (i j : ℕ) → i < length names → j < length names → get_or names i [] ≡ get_or names j [] → i ≡ j

none_of_none : (name : List ℕ) → place_in [] name ≡ None
unfolding place_in
none_of_none name = refl

pub all_fresh : (names : List (List ℕ)) → AreNames names → AreFresh [] names
all_fresh names h = record { plain = h.plain; new = λ i lt. none_of_none (get_or names i []); once = h.once }

apart : (before : List (List ℕ)) (name : List ℕ) (names : List (List ℕ)) → AreFresh before (name ∷ names) → (i : ℕ)
    → i < length names → name ≡ get_or names i [] → ⊥
apart before name names h i lt e =
    let z : 0 ≡ suc i = h.once 0 (suc i) (omega arith) (omega arith) e in absurd (omega arith)

pub rest_fresh : (before : List (List ℕ)) (name : List ℕ) (names : List (List ℕ)) → AreFresh before (name ∷ names)
    → AreFresh (before ++ name ∷ []) names
rest_fresh before name names h = record {
  plain = λ i lt. h.plain (suc i) (omega arith);
  new = λ i lt. none_further before name (get_or names i []) (h.new (suc i) (omega arith))
      (apart before name names h i lt);
  once = λ i j l m e. let s : suc i ≡ suc j = h.once (suc i) (suc j) (omega arith) (omega arith) e in omega arith;
}

pub all_placed : (names : List (List ℕ)) → AreNames names → ArePlaced (place_in names) names
all_placed names h i lt = place_at names i lt (λ k less same.
    let one : k ≡ i = h.once k i (omega arith) lt same in absurd (omega arith))
