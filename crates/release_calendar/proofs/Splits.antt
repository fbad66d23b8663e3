-- What stands in the queues, apart into that of one transaction and those of the others.
use Rattle.std.proofs.Common.{◌≡◌, ℕ, zero, suc, ◌<◌, ◌≤◌, List, [], ◌∷◌, ◌++◌, length, get_or, set, refl, subst, arith}
use Rattle.std.proofs.lemmas.List.{append_assoc, set-get_or, length-append}
use Rattle.std.proofs.lemmas.List.Elements.{All-nil, All-cons, All-head, All-tail, All-append}
use Rattle.std.proofs.lemmas.List.Sorted.{IsPermutation-refl, IsPermutation-sym, IsPermutation-cons, IsPermutation-trans, IsPermutation-middle, IsPermutation-append_left, IsPermutation-append_right, IsPermutation-append_comm, IsPermutation-remove, length_permutation}
use Rattle.std.specs.List.{All, flat_map, remove}
use Rattle.std.specs.List.Sorted.{IsPermutation}
use Rattle.release_calendar.specs.declared.planned.Planned.{Planned}
use Rattle.release_calendar.specs.Queues.{queue_of, queued}

-- ---- of any lists that are made of the queues

all_left : {X : Type 0} (P : X → Type 0) (xs ys : List X) → All P (xs ++ ys) → All P xs
all_left P [] ys a = All-nil P
all_left P (x ∷ xs) ys a = All-cons P x xs (All-head P x (xs ++ ys) a) (all_left P xs ys (All-tail P x (xs ++ ys) a))

pub all_flat : {X : Type 0} (P : X → Type 0) (f : List Planned → List X) (queues : List (List Planned)) → ((k : ℕ) → k < length queues → All P (f (get_or queues k []))) → All P (flat_map f queues)
all_flat P f [] h = All-nil P
all_flat P f (q ∷ rest) h = All-append P (f q) (flat_map f rest) (h 0 (omega arith)) (all_flat P f rest (λ k lt. h (suc k) (omega (arith, lt))))

past : {X : Type 0} (xs ys zs : List X) → IsPermutation (xs ++ (ys ++ zs)) (ys ++ (xs ++ zs))
past xs ys zs = rw (← append_assoc xs ys zs, ← append_assoc ys xs zs) (IsPermutation-append_left zs (xs ++ ys) (ys ++ xs) (IsPermutation-append_comm xs ys))

flat_set : {X : Type 0} (f : List Planned → List X) (queues : List (List Planned)) (tx : ℕ) (queue : List Planned) → f [] ≡ [] → tx < length queues → IsPermutation (flat_map f (set queues tx queue)) (f queue ++ flat_map f (set queues tx []))
flat_set f [] tx queue e lt = absurd (omega arith)
flat_set f (q ∷ rest) zero queue e lt = rw e (IsPermutation-refl (f queue ++ flat_map f rest))
flat_set f (q ∷ rest) (suc tx) queue e lt =
    IsPermutation-trans (f q ++ flat_map f (set rest tx queue)) (f q ++ (f queue ++ flat_map f (set rest tx []))) (f queue ++ (f q ++ flat_map f (set rest tx [])))
    (IsPermutation-append_right (f q) (flat_map f (set rest tx queue)) (f queue ++ flat_map f (set rest tx [])) (flat_set f rest tx queue e (omega arith)))
    (past (f q) (f queue) (flat_map f (set rest tx [])))

flat_at : {X : Type 0} (f : List Planned → List X) (queues : List (List Planned)) (tx : ℕ) → f [] ≡ [] → tx < length queues → IsPermutation (flat_map f queues) (f (get_or queues tx []) ++ flat_map f (set queues tx []))
flat_at f queues tx e lt = subst (λ (qs : List (List Planned)). IsPermutation (flat_map f qs) (f (get_or queues tx []) ++ flat_map f (set queues tx []))) (set-get_or queues tx []) (flat_set f queues tx (get_or queues tx []) e lt)

-- ---- a release more, a release less

abbrev all : List Planned → List Planned
all q = q

pub queued_put : (queues : List (List Planned)) (tx : ℕ) (p : Planned) → tx < length queues → IsPermutation (p ∷ queued queues) (queued (set queues tx (queue_of queues tx ++ p ∷ [])))
queued_put queues tx p lt =
    let q : List Planned = get_or queues tx [] in
    let others : List Planned = queued (set queues tx []) in
    let old : IsPermutation (p ∷ queued queues) (p ∷ (get_or queues tx [] ++ queued (set queues tx []))) = IsPermutation-cons p (queued queues) (get_or queues tx [] ++ queued (set queues tx [])) (flat_at all queues tx refl lt) in
    let mid : IsPermutation (get_or queues tx [] ++ p ∷ queued (set queues tx [])) (p ∷ (get_or queues tx [] ++ queued (set queues tx []))) = IsPermutation-middle (get_or queues tx []) p (queued (set queues tx [])) in
    let new : IsPermutation (queued (set queues tx (get_or queues tx [] ++ p ∷ []))) ((get_or queues tx [] ++ p ∷ []) ++ queued (set queues tx [])) = flat_set all queues tx (get_or queues tx [] ++ p ∷ []) refl lt in
    let new' : IsPermutation (queued (set queues tx (get_or queues tx [] ++ p ∷ []))) (get_or queues tx [] ++ p ∷ queued (set queues tx [])) = subst (λ (xs : List Planned). IsPermutation (queued (set queues tx (get_or queues tx [] ++ p ∷ []))) xs) (append_assoc (get_or queues tx []) (p ∷ []) (queued (set queues tx []))) new in
    IsPermutation-trans (p ∷ queued queues) (p ∷ (get_or queues tx [] ++ queued (set queues tx []))) (queued (set queues tx (get_or queues tx [] ++ p ∷ []))) old
    (IsPermutation-sym (queued (set queues tx (get_or queues tx [] ++ p ∷ []))) (p ∷ (get_or queues tx [] ++ queued (set queues tx [])))
    (IsPermutation-trans (queued (set queues tx (get_or queues tx [] ++ p ∷ []))) (get_or queues tx [] ++ p ∷ queued (set queues tx [])) (p ∷ (get_or queues tx [] ++ queued (set queues tx []))) new' mid))

pub queued_take : (queues : List (List Planned)) (tx index : ℕ) (p : Planned) → tx < length queues → index < length (queue_of queues tx) → p ≡ get_or (queue_of queues tx) index p → IsPermutation (queued queues) (p ∷ queued (set queues tx (remove (queue_of queues tx) index)))
queued_take queues tx index p lt in' is =
    let out : IsPermutation (get_or queues tx []) (p ∷ remove (get_or queues tx []) index) = IsPermutation-remove (get_or queues tx []) index p in' is in
    let new : IsPermutation (queued (set queues tx (remove (get_or queues tx []) index))) (remove (get_or queues tx []) index ++ queued (set queues tx [])) = flat_set all queues tx (remove (get_or queues tx []) index) refl lt in
    IsPermutation-trans (queued queues) (get_or queues tx [] ++ queued (set queues tx [])) (p ∷ queued (set queues tx (remove (get_or queues tx []) index)))
    (flat_at all queues tx refl lt)
    (IsPermutation-trans (get_or queues tx [] ++ queued (set queues tx [])) (p ∷ (remove (get_or queues tx []) index ++ queued (set queues tx []))) (p ∷ queued (set queues tx (remove (get_or queues tx []) index)))
    (IsPermutation-append_left (queued (set queues tx [])) (get_or queues tx []) (p ∷ remove (get_or queues tx []) index) out)
    (IsPermutation-cons p (remove (get_or queues tx []) index ++ queued (set queues tx [])) (queued (set queues tx (remove (get_or queues tx []) index))) (IsPermutation-sym (queued (set queues tx (remove (get_or queues tx []) index))) (remove (get_or queues tx []) index ++ queued (set queues tx [])) new)))

-- no queue is longer than all
pub in_all : (queues : List (List Planned)) (tx : ℕ) → tx < length queues → length (queue_of queues tx) ≤ length (queued queues)
in_all queues tx lt = omega (arith, length_permutation (queued queues) (get_or queues tx [] ++ queued (set queues tx [])) (flat_at all queues tx refl lt), length-append (get_or queues tx []) (queued (set queues tx [])))
