-- Known bytes over several calls, and pieces of a list.
use Rattle.std.proofs.Common.{◌≡◌, ℕ, ◌+◌, ◌-◌, ◌<◌, ◌≤◌, min, List, [], ◌++◌, length, take, drop, Option, Some, None, sym, ap, ◌∙◌, append_assoc, arith, length-drop}
use Rattle.std.proofs.lemmas.List.{drop-drop, drop_all, length-take, take-append-drop}
use Rattle.std.proofs.Math.Seq.{take-append-add, take-length}
use Rattle.std.specs.Io.KnownBytes.{Appends, Consumes}

-- bytes that are known grow by two pieces in turn
pub appends_then : (a b c : Option (List ℕ)) (xs ys : List ℕ)
    → Appends a b xs → Appends b c ys → Appends a c (xs ++ ys)
appends_then None b c xs ys p q = tt
appends_then (Some a) None c xs ys p q = absurd p
appends_then (Some a) (Some b) None xs ys p q = absurd q
appends_then (Some a) (Some b) (Some c) xs ys p q = q ∙ ap (λ (t : List ℕ). t ++ ys) p ∙ append_assoc a xs ys

-- bytes that are known lose two pieces in turn
pub consumes_then : (a b c : Option (List ℕ)) (xs ys : List ℕ)
    → Consumes a b xs → Consumes b c ys → Consumes a c (xs ++ ys)
consumes_then None b c xs ys p q = tt
consumes_then (Some a) None c xs ys p q = absurd p
consumes_then (Some a) (Some b) None xs ys p q = absurd q
consumes_then (Some a) (Some b) (Some c) xs ys p q = p ∙ ap (λ (t : List ℕ). xs ++ t) q ∙ sym (append_assoc xs ys c)

-- the front of a list in two parts
pub take_two : (k n : ℕ) (bs : List ℕ) → k ≤ length bs → take (k + n) bs ≡ take k bs ++ take n (drop k bs)
take_two k n bs le =
    let len : length (take k bs) ≡ k = omega (arith, length-take k bs) in
    let whole = sym (take-append-drop k bs) in
    ap (λ (m : ℕ). take (m + n) bs) (sym len)
    ∙ ap (λ (t : List ℕ). take (length (take k bs) + n) t) whole
    ∙ take-append-add (take k bs) (drop k bs) n

-- a slice from k on is the rest of the list
pub rest_of : (k : ℕ) (bs : List ℕ) → take (length bs - k) (drop k bs) ≡ drop k bs
rest_of k bs = ap (λ (m : ℕ). take m (drop k bs)) (sym (length-drop k bs)) ∙ take-length (drop k bs)

-- the next piece is of the rest of the list, as a slice from k on is
pub appends_rest : (a b c : Option (List ℕ)) (k n : ℕ) (bs : List ℕ) → k ≤ length bs
    → Appends a b (take k bs) → Appends b c (take n (take (length bs - k) (drop k bs))) → Appends a c (take (k + n) bs)
appends_rest a b c k n bs le so_far next =
    let piece = rw (rest_of k bs) at next in
    rw (take_two k n bs le) (appends_then a b c _ _ so_far piece)

-- the rest of a list begins with the piece that was copied from it, and goes on after that
pub copied_rest : (k n : ℕ) (bs piece : List ℕ) → take n piece ≡ take n (take (length bs - k) (drop k bs))
    → drop k bs ≡ take n piece ++ drop (k + n) bs
copied_rest k n bs piece copied =
    let front : take n piece ≡ take n (drop k bs) = copied ∙ ap (take n) (rest_of k bs) in
    let after = sym (drop-drop n k bs) in
    sym (ap (λ (xs : List ℕ). xs ++ drop (k + n) bs) front
    ∙ ap (λ (xs : List ℕ). take n (drop k bs) ++ xs) after
    ∙ take-append-drop n (drop k bs))

-- where no byte is copied to a piece that has room, nothing is left
pub nothing_left : (k n room : ℕ) (bs : List ℕ) → n ≡ min (length (take (length bs - k) (drop k bs))) room
    → n ≡ 0 → 0 < room → drop (k + n) bs ≡ []
nothing_left k n room bs count none some =
    let lengths = rw (rest_of k bs) at count in
    drop_all (k + n) bs (omega (arith, lengths, length-drop k bs, none, some))
