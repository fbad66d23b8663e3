-- A list read from its end: a place more and a place less.
use Rattle.std.proofs.Common.{◌≡◌, ℕ, suc, ◌+◌, List, [], ◌∷◌, ◌++◌, length, take, drop, set, reverse, ap, sym, ◌∙◌, append_assoc, arith}
use Rattle.std.proofs.lemmas.List.{reverse-append, length-reverse, length-drop, take-append-drop, take-set, drop-set, take_at, drop_at}
use Rattle.std.specs.List.{insert, remove}

module _ {X : Type 0} where
  turned_parts : (xs : List X) (j : ℕ) → reverse xs ≡ reverse (drop j xs) ++ reverse (take j xs)
  turned_parts xs j = ap reverse (sym (take-append-drop j xs)) ∙ reverse-append (take j xs) (drop j xs)

  front_length : (xs : List X) (j k : ℕ) → k + j ≡ length xs → length (reverse (drop j xs)) ≡ k
  front_length xs j k e = omega (arith, length-reverse (drop j xs), length-drop j xs, e)

  -- what lies from a place on is what stands before the other place
  turned_front : (xs : List X) (j k : ℕ) → k + j ≡ length xs → reverse (drop j xs) ≡ take k (reverse xs)
  turned_front xs j k e = sym (ap (take k) (turned_parts xs j) ∙ take_at (reverse (drop j xs)) (reverse (take j xs)) k (front_length xs j k e))

  turned_back : (xs : List X) (j k : ℕ) → k + j ≡ length xs → reverse (take j xs) ≡ drop k (reverse xs)
  turned_back xs j k e = sym (ap (drop k) (turned_parts xs j) ∙ drop_at (reverse (drop j xs)) (reverse (take j xs)) k (front_length xs j k e))

  one_turned : (x : X) (ys : List X) → reverse (x ∷ ys) ≡ reverse ys ++ x ∷ []
  one_turned x ys = reverse-append (x ∷ []) ys

  pub insert_turned : (xs : List X) (j k : ℕ) (x : X) → k + j ≡ length xs → reverse (insert xs j x) ≡ insert (reverse xs) k x
  insert_turned xs j k x e =
      reverse-append (take j xs) (x ∷ drop j xs)
      ∙ ap (λ (ys : List X). ys ++ reverse (take j xs)) (one_turned x (drop j xs))
      ∙ append_assoc (reverse (drop j xs)) (x ∷ []) (reverse (take j xs))
      ∙ ap (λ (ys : List X). ys ++ x ∷ reverse (take j xs)) (turned_front xs j k e)
      ∙ ap (λ (ys : List X). take k (reverse xs) ++ x ∷ ys) (turned_back xs j k e)

  pub remove_turned : (xs : List X) (j k : ℕ) → suc k + j ≡ length xs → reverse (remove xs j) ≡ remove (reverse xs) k
  remove_turned xs j k e =
      reverse-append (take j xs) (drop (suc j) xs)
      ∙ ap (λ (ys : List X). ys ++ reverse (take j xs)) (turned_front xs (suc j) k (omega (arith, e)))
      ∙ ap (λ (ys : List X). take k (reverse xs) ++ ys) (turned_back xs j (suc k) e)

  pub set_turned : (xs : List X) (j k : ℕ) (x : X) → suc k + j ≡ length xs → reverse (set xs j x) ≡ take k (reverse xs) ++ x ∷ drop (suc k) (reverse xs)
  set_turned xs j k x e =
      ap reverse (sym (take-append-drop j (set xs j x)) ∙ (ap (λ (ys : List X). ys ++ drop j (set xs j x)) (take-set xs j x) ∙ ap (λ (ys : List X). take j xs ++ ys) (drop-set xs j x (omega (arith, e)))))
      ∙ (reverse-append (take j xs) (x ∷ drop (j + 1) xs)
      ∙ (ap (λ (ys : List X). ys ++ reverse (take j xs)) (one_turned x (drop (j + 1) xs))
      ∙ (append_assoc (reverse (drop (j + 1) xs)) (x ∷ []) (reverse (take j xs))
      ∙ (ap (λ (ys : List X). ys ++ x ∷ reverse (take j xs)) (turned_front xs (j + 1) k (omega (arith, e)))
      ∙ ap (λ (ys : List X). take k (reverse xs) ++ x ∷ ys) (turned_back xs j (suc k) e)))))
