-- A list that is made of another, element by element.
use Rattle.std.proofs.Common.{◌≡◌, ◌∙◌, ◌<◌, ◌≤◌, ◌++◌, ◌∷◌, ◌+◌, ℕ, [], List, length, get_or, map, take, ap, sym}
use Rattle.std.proofs.lemmas.List.{map_more, take_all}

-- with the next element
pub one_more : {A B : Type 0} (f : A → B) (xs : List A) (i : ℕ) (d : A) (ys zs : List B) (y : B) → i < length xs
    → ys ≡ map f (take i xs) → y ≡ f (get_or xs i d) → zs ≡ ys ++ y ∷ [] → zs ≡ map f (take (i + 1) xs)
one_more f xs i d ys zs y lt so new is =
    is
    ∙ ap (λ l. l ++ y ∷ []) so
    ∙ ap (λ z. map f (take i xs) ++ z ∷ []) new
    ∙ sym (map_more f xs i d lt)

-- once there is no other
pub all_made : {A B : Type 0} (f : A → B) (xs : List A) (i : ℕ) (ys : List B) → length xs ≤ i → ys ≡ map f (take i xs) → ys ≡ map f xs
all_made f xs i ys past so = so ∙ ap (map f) (take_all i xs past)
