-- What the ticks at which the queues begin tell of the releases.
use Rattle.std.proofs.Common.{◌≡◌, refl, ℕ, zero, suc, ◌<◌, ◌≤◌, List, [], ◌∷◌, length, get_or, sym, ◌∙◌, inl, inr, arith}
use Rattle.std.proofs.lemmas.Bool.{cases_lt}
use Rattle.std.proofs.lemmas.List.Elements.{All-weaker, Contains-append_left, Contains-append_right}
use Rattle.std.specs.List.{All, Contains}
use Rattle.release_calendar.specs.declared.planned.Planned.{Planned}
use Rattle.release_calendar.specs.Heads.{no_tick, tick_at, IsLeast, IsFirstLeast}
use Rattle.release_calendar.specs.Queues.{queue_of, queued, head_tick, AreQueues, IsQueue, IsFirstTick, IsPlace, NoneAt}
use Rattle.release_calendar.proofs.Splits.{all_flat}

-- no release of a queue is before the tick at which it begins
from_head : (tx : ℕ) (q : List Planned) → IsQueue tx q → All (λ p. head_tick q ≤ p.tick) q
from_head tx [] is = λ i d lt. absurd (omega arith)
from_head tx (p ∷ rest) is = λ i d lt. is.rising 0 i d (omega arith) lt

-- each release is at the least of these ticks or later
pub from_least : (queues : List (List Planned)) (heads : List ℕ) (waiting least : ℕ) → AreQueues queues heads waiting → IsLeast heads least → All (λ p. least ≤ p.tick) (queued queues)
from_least queues heads waiting least are is =
    all_flat (λ p. least ≤ p.tick) (λ q. q) queues (λ k lt i d within.
    (let begins : head_tick (queue_of queues k) ≤ (get_or (queue_of queues k) i d).tick = from_head k (queue_of queues k) (are.each k) i d within in
    omega (arith, is.below k, are.begins k, begins)))

pub none_before : (queues : List (List Planned)) (heads : List ℕ) (waiting least tick : ℕ) → AreQueues queues heads waiting → IsLeast heads least → tick < least → NoneAt tick (queued queues)
none_before queues heads waiting least tick are is lt = All-weaker (λ p. least ≤ p.tick) (λ p. p.tick ≡ tick → ⊥) (λ p h e. omega (arith, h, e, lt)) (queued queues) (from_least queues heads waiting least are is)

pub none_in_all : (queues : List (List Planned)) (tick : ℕ) → ((k : ℕ) → k < length queues → NoneAt tick (queue_of queues k)) → NoneAt tick (queued queues)
none_in_all queues tick none = all_flat (λ p. p.tick ≡ tick → ⊥) (λ q. q) queues none

-- the first queue that has a release for the tick
pub place_found : (queues : List (List Planned)) (tick tx index : ℕ) → ((k : ℕ) → IsQueue k (queue_of queues k)) → ((k : ℕ) → k < tx → NoneAt tick (queue_of queues k)) → tx < length queues → index < length (queue_of queues tx) → ((d : Planned) → (get_or (queue_of queues tx) index d).tick ≡ tick) → IsPlace tick queues tx index
place_found queues tick tx index each none lt in' at = record {
  known = lt;
  within = in';
  at = at;
  least = all_flat (λ p. p.tick ≡ tick → tx ≤ p.tx) (λ q. q) queues (λ k lt i d within e.
      elim (cases_lt k tx) [
        | inl below ↦ absurd (none k below i d within e)
        | inr above ↦ (let own : (get_or (get_or queues k []) i d).tx ≡ k = (each k).own i d within in omega (arith, own, above))
      ]);
}

-- a queue that begins at a tick
begins_at : (q : List Planned) (tick : ℕ) → head_tick q ≡ tick → tick < no_tick → (0 < length q) × ((d : Planned) → (get_or q 0 d).tick ≡ tick)
begins_at [] tick e lt = absurd (omega (arith, e, lt))
begins_at (p ∷ rest) tick e lt = (omega arith, λ d. e)

is_known : (queues : List (List Planned)) (tx : ℕ) → 0 < length (queue_of queues tx) → tx < length queues
is_known [] tx some = absurd (omega arith)
is_known (q ∷ rest) zero some = omega arith
is_known (q ∷ rest) (suc tx) some = omega (arith, is_known rest tx some)

-- the first queue that begins at the least tick
pub place_first : (queues : List (List Planned)) (heads : List ℕ) (waiting tick first : ℕ) → AreQueues queues heads waiting → IsFirstLeast heads first → tick_at heads first ≡ tick → tick < no_tick → IsPlace tick queues first 0
place_first queues heads waiting tick first are is_first at lt =
    let here : (0 < length (queue_of queues first)) × ((d : Planned) → (get_or (queue_of queues first) 0 d).tick ≡ tick) = begins_at (queue_of queues first) tick (sym (are.begins first) ∙ at) lt in
    place_found queues tick first 0 are.each
    (λ k below i d within q.
    (let later : tick_at heads first < tick_at heads k = is_first.first k below in
    let begins : head_tick (queue_of queues k) ≤ (get_or (queue_of queues k) i d).tick = from_head k (queue_of queues k) (are.each k) i d within in
    omega (arith, later, begins, at, q, are.begins k)))
    (is_known queues first here.0) here.0 here.1

-- ---- the tick of the release that takes place first

in_queued : (queues : List (List Planned)) (k : ℕ) (p : Planned) → Contains (get_or queues k []) p → Contains (queued queues) p
in_queued [] k p h = absurd (omega (arith, h.1))
in_queued (q ∷ rest) zero p h = Contains-append_left q (queued rest) p h
in_queued (q ∷ rest) (suc k) p h = Contains-append_right q (queued rest) p (in_queued rest k p h)

head_in : (q : List Planned) → head_tick q < no_tick → (p : Planned) × Contains q p × (p.tick ≡ head_tick q)
head_in [] lt = absurd (omega (arith, lt))
head_in (p ∷ rest) lt = (p, (0, omega arith, refl), refl)

-- where there is a release, a queue begins
some_begins : (queues : List (List Planned)) (heads : List ℕ) (waiting : ℕ) (least : ℕ) → AreQueues queues heads waiting → IsLeast heads least → 0 < length (queued queues) → least < no_tick
some_begins queues heads waiting least are is some = at (queued queues) some (from_least queues heads waiting least are is) (all_flat (λ p. p.tick < no_tick) (λ q. q) queues (λ k lt. (are.each k).low)) where
  at : (ps : List Planned) → 0 < length ps → All (λ p. least ≤ p.tick) ps → All (λ p. p.tick < no_tick) ps → least < no_tick
  at [] some a b = absurd (omega arith)
  at (p ∷ ps) some a b = (let x : least ≤ p.tick = a 0 p some in let y : p.tick < no_tick = b 0 p some in omega (arith, x, y))

pub first_tick : (queues : List (List Planned)) (heads : List ℕ) (waiting least : ℕ) → AreQueues queues heads waiting → IsLeast heads least → 0 < waiting → IsFirstTick least queues
first_tick queues heads waiting least are is some =
    let among : tick_at heads is.among.0 ≡ least = is.among.1 in
    let low : least < no_tick = some_begins queues heads waiting least are is (omega (arith, some, are.count)) in
    let here : (p : Planned) × Contains (queue_of queues is.among.0) p × (p.tick ≡ head_tick (queue_of queues is.among.0)) = head_in (queue_of queues is.among.0) (omega (arith, among, low, are.begins is.among.0)) in
    record {
      here = (here.0, in_queued queues is.among.0 here.0 here.1, here.2 ∙ sym (are.begins is.among.0) ∙ among);
      before = from_least queues heads waiting least are is;
    }

pub none_waits : (queues : List (List Planned)) (heads : List ℕ) (waiting : ℕ) → AreQueues queues heads waiting → waiting ≡ 0 → queued queues ≡ []
none_waits queues heads waiting are e = at (queued queues) (omega (arith, are.count, e)) where
  at : (ps : List Planned) → length ps ≡ 0 → ps ≡ []
  at [] z = refl
  at (p ∷ ps) z = absurd (omega (arith, z))
