-- What a plant leaves when it is closed.
use Rattle.std.proofs.Common.{◌≡◌, ℕ, zero, suc, ◌+◌, ◌≤◌, List, [], ◌∷◌, map, length, refl, sym, ap, subst, ◌∙◌, true}
use mathlib.Core.Option.{some, some-injective, some-ne-none}
use lib.ListN.{get_elem?}
use Rattle.step_journal.specs.declared.entry.Entry.{Entry}
use Rattle.txn_set.specs.Set.{Set}
use Rattle.board.specs.Histories.{IsHistory}
use Rattle.turn_cell.specs.declared.view.View.{View}
use Rattle.turn_cell.specs.Turn.{Begins, Stand, below, total, times_in}
use Rattle.turn_cell.specs.Seats.{marks_in}
use Rattle.shared_plant.specs.Seats.{PlantFacts, SeatFacts, Closed, view_of, is_operator}

at_map : {X Y : Type 0} (f : X → Y) (xs : List X) (k : ℕ) (x : X) → get_elem? xs k ≡ some x → get_elem? (map f xs) k ≡ some (f x)
at_map f [] k x e = absurd (some-ne-none x (sym e))
at_map f (y ∷ xs) zero x e = ap (λ z. some (f z)) (some-injective y x e)
at_map f (y ∷ xs) (suc k) x e = at_map f xs k x e

total_map : {X Y : Type 0} (g : Y → ℕ) (f : X → Y) (xs : List X) → total (λ x. g (f x)) xs ≡ total g (map f xs)
total_map g f [] = refl
total_map g f (x ∷ xs) = ap (λ (n : ℕ). g (f x) + n) (total_map g f xs)

pub closed : {B : Type 0} (stands : B → List Entry → Type 0) (set : B → Set) (room first : B → ℕ) (kept : B → List Entry) → ((b : B) (history : List Entry) → stands b history → IsHistory (set b) (room b) (first b) (kept b) history)
    → (p : PlantFacts) (b : B) (seats : List SeatFacts) (history : List Entry) → stands b history → set b ≡ p.set → room b ≡ p.room → p.start ≤ length history
    → ((k : ℕ) (v : View Entry) → get_elem? (map view_of seats) k ≡ some v → Begins v.seen history × Stand v.mine history × (v.base ≤ first b))
    → ((place : ℕ) → total (times_in place) (map view_of seats) + below place p.start ≡ below place (length history))
    → total marks_in (map view_of seats) ≡ 1
    → ((k : ℕ) (v : View Entry) → get_elem? (map view_of seats) k ≡ some v → v.marked ≡ true → v.drained ≡ first b)
    → Closed stands set room first kept p b seats
closed stands set room first kept law p b seats history stood set_is room_is began each placed marked drained = record {
  history = history;
  stood = stood;
  legal = subst (λ (r : ℕ). IsHistory p.set r (first b) (kept b) history) room_is (subst (λ (s : Set). IsHistory s (room b) (first b) (kept b) history) set_is (law b history stood));
  set_is = set_is;
  room_is = room_is;
  began = began;
  each = λ k s at. each k (view_of s) (at_map view_of seats k s at);
  placed = λ place. ap (λ (n : ℕ). n + below place p.start) (total_map (times_in place) view_of seats) ∙ placed place;
  operator = total_map marks_in view_of seats ∙ marked;
  drained = λ k s at none. drained k (view_of s) (at_map view_of seats k s at) (ap is_operator none);
}
