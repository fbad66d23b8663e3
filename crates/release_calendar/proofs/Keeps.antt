-- What is kept of the queues over a release more and a release less.
use Rattle.std.proofs.Common.{◌≡◌, refl, ℕ, zero, suc, ◌+◌, ◌-◌, ◌<◌, ◌≤◌, List, [], ◌∷◌, ◌++◌, length, get_or, set, map, replicate, take, drop, ap, sym, ◌∙◌, subst, inl, inr, arith, Global}
use Rattle.std.proofs.lemmas.Bool.{cases_eq, cases_lt}
use Rattle.std.proofs.lemmas.List.{get_or-set_same, get_or-set_other, length-set, length-map, map-set}
use Rattle.std.proofs.lemmas.List.Edits.{get_or-remove_below, get_or-remove_above, length-remove}
use Rattle.std.proofs.lemmas.List.Elements.{All-nil, All-append, All-take, All-drop, All-push, All-set}
use Rattle.std.proofs.lemmas.List.Sorted.{IsNonDecreasingBy-push, length_permutation}
use Rattle.std.specs.List.{All, remove}
use Rattle.std.specs.List.Sorted.{IsNonDecreasingBy}
use Rattle.std.specs.VecDeque.{deque_items, deque_capacity}
use Rattle.std.specs.declared.collections.VecDeque.{VecDeque}
use Rattle.release_calendar.specs.declared.planned.Planned.{Planned}
use Rattle.release_calendar.specs.Heads.{no_tick, tick_at}
use Rattle.release_calendar.specs.Queues.{queue_of, queued, head_tick, IsQueue, AreQueues}
use Rattle.release_calendar.proofs.Splits.{queued_put, queued_take}

-- ---- a queue

queue_more : (tx : ℕ) (q : List Planned) (p : Planned) → IsQueue tx q → p.tx ≡ tx → p.tick < no_tick → All (λ r. r.tick ≤ p.tick) q → IsQueue tx (q ++ p ∷ [])
queue_more tx q p is own low below = record {
  own = All-push (λ (r : Planned). r.tx ≡ tx) q p is.own own;
  low = All-push (λ (r : Planned). r.tick < no_tick) q p is.low low;
  rising = IsNonDecreasingBy-push (λ (r : Planned). r.tick) q p is.rising (λ d some. below (length q - 1) d (omega (arith, some)));
}

rising_less : (q : List Planned) (i : ℕ) → i < length q → IsNonDecreasingBy (λ r. r.tick) q → IsNonDecreasingBy (λ r. r.tick) (remove q i)
rising_less q i lt rising a b d le in' =
    let long : length (remove q i) + 1 ≡ length q = length-remove q i lt in
    elim (cases_lt b i) [
      | inl below ↦ (
          let x : get_or (remove q i) a d ≡ get_or q a d = get_or-remove_below q i d a (omega arith) lt in
          let y : get_or (remove q i) b d ≡ get_or q b d = get_or-remove_below q i d b below lt in
          let r : (get_or q a d).tick ≤ (get_or q b d).tick = rising a b d le (omega (arith, long)) in
          omega (arith, ap (λ (p : Planned). p.tick) x, ap (λ (p : Planned). p.tick) y, r))
      | inr above ↦ (
          let y : get_or (remove q i) b d ≡ get_or q (b + 1) d = get_or-remove_above q i d b above lt in
          elim (cases_lt a i) [
            | inl first ↦ (
                let x : get_or (remove q i) a d ≡ get_or q a d = get_or-remove_below q i d a first lt in
                let r : (get_or q a d).tick ≤ (get_or q (b + 1) d).tick = rising a (b + 1) d (omega arith) (omega (arith, long)) in
                omega (arith, ap (λ (p : Planned). p.tick) x, ap (λ (p : Planned). p.tick) y, r))
            | inr second ↦ (
                let x : get_or (remove q i) a d ≡ get_or q (a + 1) d = get_or-remove_above q i d a second lt in
                let r : (get_or q (a + 1) d).tick ≤ (get_or q (b + 1) d).tick = rising (a + 1) (b + 1) d (omega arith) (omega (arith, long)) in
                omega (arith, ap (λ (p : Planned). p.tick) x, ap (λ (p : Planned). p.tick) y, r))
          ])
    ]

queue_less : (tx : ℕ) (q : List Planned) (i : ℕ) → i < length q → IsQueue tx q → IsQueue tx (remove q i)
queue_less tx q i lt is = record {
  own = All-append (λ (r : Planned). r.tx ≡ tx) (take i q) (drop (suc i) q) (All-take (λ (r : Planned). r.tx ≡ tx) i q is.own) (All-drop (λ (r : Planned). r.tx ≡ tx) (suc i) q is.own);
  low = All-append (λ (r : Planned). r.tick < no_tick) (take i q) (drop (suc i) q) (All-take (λ (r : Planned). r.tick < no_tick) i q is.low) (All-drop (λ (r : Planned). r.tick < no_tick) (suc i) q is.low);
  rising = rising_less q i lt is.rising;
}

-- a queue begins at a tick, or there is none
head_low : (tx : ℕ) (q : List Planned) → IsQueue tx q → head_tick q ≤ no_tick
head_low tx [] is = omega arith
head_low tx (p ∷ rest) is = (let lt : p.tick < no_tick = is.low 0 p (omega arith) in omega (arith, lt))

pub left_low : (tx : ℕ) (q : List Planned) (i : ℕ) → i < length q → IsQueue tx q → head_tick (remove q i) ≤ no_tick
left_low tx q i lt is = head_low tx (remove q i) (queue_less tx q i lt is)

each_set : (queues : List (List Planned)) (tx : ℕ) (q : List Planned) → tx < length queues → ((k : ℕ) → IsQueue k (queue_of queues k)) → IsQueue tx q → (k : ℕ) → IsQueue k (queue_of (set queues tx q) k)
each_set queues tx q lt each is k =
    elim (cases_eq k tx) [
      | inl e ↦ subst (λ (n : ℕ). IsQueue n (queue_of (set queues tx q) n)) (sym e) (subst (λ (r : List Planned). IsQueue tx r) (sym (get_or-set_same queues tx q [] lt)) is)
      | inr ne ↦ subst (λ (r : List Planned). IsQueue k r) (sym (get_or-set_other queues tx k q [] ne)) (each k)
    ]

-- where the queues begin, once one of them has changed
begins_set : (queues : List (List Planned)) (heads : List ℕ) (tx : ℕ) (q : List Planned) → tx < length queues → length queues ≤ length heads → ((k : ℕ) → tick_at heads k ≡ head_tick (queue_of queues k)) → (k : ℕ) → tick_at (set heads tx (head_tick q)) k ≡ head_tick (queue_of (set queues tx q) k)
begins_set queues heads tx q lt le begins k =
    elim (cases_eq k tx) [
      | inl e ↦ subst (λ (n : ℕ). tick_at (set heads tx (head_tick q)) n ≡ head_tick (queue_of (set queues tx q) n)) (sym e) (get_or-set_same heads tx (head_tick q) no_tick (omega (arith, lt, le)) ∙ ap head_tick (sym (get_or-set_same queues tx q [] lt)))
      | inr ne ↦ get_or-set_other heads tx k (head_tick q) no_tick ne ∙ begins k ∙ ap head_tick (sym (get_or-set_other queues tx k q [] ne))
    ]

-- ---- a release more, a release less

pub put_keeps : (queues : List (List Planned)) (heads : List ℕ) (waiting : ℕ) (p : Planned) → AreQueues queues heads waiting → p.tx < length queues → p.tick < no_tick → All (λ r. r.tick ≤ p.tick) (queue_of queues p.tx)
    → AreQueues (set queues p.tx (queue_of queues p.tx ++ p ∷ [])) (set heads p.tx (head_tick (queue_of queues p.tx ++ p ∷ []))) (waiting + 1)
put_keeps queues heads waiting p are lt low below = record {
  each = each_set queues p.tx (queue_of queues p.tx ++ p ∷ []) lt are.each (queue_more p.tx (queue_of queues p.tx) p (are.each p.tx) refl low below);
  begins = begins_set queues heads p.tx (queue_of queues p.tx ++ p ∷ []) lt are.places are.begins;
  count = omega (arith, are.count, length_permutation (p ∷ queued queues) (queued (set queues p.tx (queue_of queues p.tx ++ p ∷ []))) (queued_put queues p.tx p lt));
  places = omega (arith, are.places, length-set queues p.tx (queue_of queues p.tx ++ p ∷ []), length-set heads p.tx (head_tick (queue_of queues p.tx ++ p ∷ [])));
}

pub take_keeps : (queues : List (List Planned)) (heads : List ℕ) (waiting tx index : ℕ) (p : Planned) → AreQueues queues heads waiting → tx < length queues → index < length (queue_of queues tx) → p ≡ get_or (queue_of queues tx) index p
    → AreQueues (set queues tx (remove (queue_of queues tx) index)) (set heads tx (head_tick (remove (queue_of queues tx) index))) (waiting - 1)
take_keeps queues heads waiting tx index p are lt in' e = record {
  each = each_set queues tx (remove (queue_of queues tx) index) lt are.each (queue_less tx (queue_of queues tx) index in' (are.each tx));
  begins = begins_set queues heads tx (remove (queue_of queues tx) index) lt are.places are.begins;
  count = omega (arith, are.count, length_permutation (queued queues) (p ∷ queued (set queues tx (remove (queue_of queues tx) index))) (queued_take queues tx index p lt in' e));
  places = omega (arith, are.places, length-set queues tx (remove (queue_of queues tx) index), length-set heads tx (head_tick (remove (queue_of queues tx) index)));
}

-- ---- at the start

pub none_queued_at : (queues : List (List Planned)) (n : ℕ) → queues ≡ replicate n [] → (queued queues ≡ []) × (length queues ≡ n)
none_queued_at queues n e = subst (λ (qs : List (List Planned)). (queued qs ≡ []) × (length qs ≡ n)) (sym e) (at n) where
  at : (n : ℕ) → (queued (replicate n []) ≡ []) × (length (replicate {A = List Planned} n []) ≡ n)
  at zero = (refl, refl)
  at (suc n) = ((at n).0, omega (arith, (at n).1))

pub empty_at : (n tx : ℕ) → get_or (replicate {A = List Planned} n []) tx [] ≡ []
empty_at zero tx = refl
empty_at (suc n) zero = refl
empty_at (suc n) (suc tx) = empty_at n tx

pub new_keeps : (queues : List (List Planned)) (heads : List ℕ) (n : ℕ) → queues ≡ replicate n [] → n ≤ length heads → ((tx : ℕ) → tick_at heads tx ≡ no_tick) → AreQueues queues heads 0
new_keeps queues heads n e long none = record {
  each = λ tx. subst (λ (q : List Planned). IsQueue tx q) (sym (empty tx)) (record { own = All-nil (λ (p : Planned). p.tx ≡ tx); low = All-nil (λ (p : Planned). p.tick < no_tick); rising = λ i j d le lt. absurd (omega arith) });
  begins = λ tx. none tx ∙ ap head_tick (sym (empty tx));
  count = sym (ap length (none_queued_at queues n e).0);
  places = omega (arith, (none_queued_at queues n e).1, long);
} where
  empty : (tx : ℕ) → queue_of queues tx ≡ []
  empty tx = ap (λ (qs : List (List Planned)). get_or qs tx []) e ∙ empty_at n tx

-- ---- the queue behind a place

-- what each holds
abbrev pub contents : List (VecDeque Planned Global) → List (List Planned)
contents vs = map deque_items vs

pub queue_at : (vs : List (VecDeque Planned Global)) (tx : ℕ) (d v : VecDeque Planned Global) → tx < length vs → v ≡ get_or vs tx d → queue_of (contents vs) tx ≡ v.items
queue_at [] tx d v lt e = absurd (omega arith)
queue_at (w ∷ vs) zero d v lt e = ap deque_items (sym e)
queue_at (w ∷ vs) (suc tx) d v lt e = queue_at vs tx d v (omega arith) e

-- one of them changes, by a function of what it held
pub contents_set : (vs : List (VecDeque Planned Global)) (tx : ℕ) (v v' : VecDeque Planned Global) (f : List Planned → List Planned) → tx < length vs → v ≡ get_or vs tx v → v'.items ≡ f v.items → contents (set vs tx v') ≡ set (contents vs) tx (f (queue_of (contents vs) tx))
contents_set vs tx v v' f lt e is = map-set deque_items vs tx v' ∙ ap (λ (q : List Planned). set (contents vs) tx q) (is ∙ ap f (sym (queue_at vs tx v v lt e)))

-- a release came out of one of them
pub record Took (vs : List (VecDeque Planned Global)) (tx index : ℕ) (v' : VecDeque Planned Global) (p : Planned) (room : ℕ) : Type 0 where
  pub known : tx < length (contents vs)
  pub within : index < length (queue_of (contents vs) tx)
  pub at : p ≡ get_or (queue_of (contents vs) tx) index p
  pub left : v'.items ≡ remove (queue_of (contents vs) tx) index
  pub now : contents (set vs tx v') ≡ set (contents vs) tx (remove (queue_of (contents vs) tx) index)
  pub rooms : All (λ q. room ≤ deque_capacity q) (set vs tx v')

pub took : (vs : List (VecDeque Planned Global)) (tx index : ℕ) (v v' : VecDeque Planned Global) (p : Planned) (room : ℕ) → tx < length (contents vs) → index < length (queue_of (contents vs) tx) → v ≡ get_or vs tx v → ((d : Planned) → p ≡ get_or v.items index d) → v'.items ≡ remove v.items index
    → deque_capacity v' ≡ deque_capacity v → All (λ q. room ≤ deque_capacity q) vs → Took vs tx index v' p room
took vs tx index v v' p room known within e at items same rooms =
    let lt : tx < length vs = omega (arith, known, length-map vs deque_items) in
    let here : queue_of (contents vs) tx ≡ v.items = queue_at vs tx v v lt e in
    let fits : room ≤ deque_capacity v = subst (λ q. room ≤ deque_capacity q) (sym e) (rooms tx v lt) in
    record {
      known = known;
      within = within;
      at = at p ∙ ap (λ (q : List Planned). get_or q index p) (sym here);
      left = items ∙ ap (λ (q : List Planned). remove q index) (sym here);
      now = contents_set vs tx v v' (λ q. remove q index) lt e items;
      rooms = All-set (λ q. room ≤ deque_capacity q) vs tx v' (omega (arith, fits, same)) rooms;
    }
