-- Entries of two seats stand at distinct places.
use Rattle.std.proofs.Common.{◌≡◌, ◌≢◌, ℕ, ◌≤◌, List, [], ◌∷◌, length, sym, ap, subst, arith}
use Rattle.std.proofs.lemmas.Bool.Decides.{nat_tests}
use mathlib.Core.Option.{some}
use lib.ListN.{get_elem?}
use Rattle.step_journal.specs.declared.entry.Entry.{Entry}
use Rattle.txn_set.specs.Set.{Set}
use Rattle.turn_cell.specs.Turn.{times, below}
use Rattle.turn_cell.proofs.Sums.{terms_le}
use Rattle.shared_plant.specs.Seats.{PlantFacts, SeatFacts, Closed, times_of}

once : (place : ℕ) (entry : Entry) → times place ((place, entry) ∷ []) ≡ 1
once place entry = grind (arith, nat_tests)

below_once : (place n : ℕ) → below place n ≤ 1
below_once place n = grind (arith, nat_tests)

module _ {B : Type 0} (stands : B → List Entry → Type 0) (set : B → Set) (room first : B → ℕ) (kept : B → List Entry) where
  -- each of two seats made one entry: both stand in the history, at distinct places
  pub both_stand : (plant : PlantFacts) (b : B) (seats : List SeatFacts) (j k : ℕ) (s t : SeatFacts) (p q : ℕ) (x y : Entry) → Closed stands set room first kept plant b seats
      → j ≢ k → get_elem? seats j ≡ some s → get_elem? seats k ≡ some t → s.mine ≡ (p, x) ∷ [] → t.mine ≡ (q, y) ∷ []
      → (history : List Entry) × stands b history × (get_elem? history p ≡ some x) × (get_elem? history q ≡ some y) × (p ≢ q)
  both_stand plant b seats j k s t p q x y c ne at_s at_t mine_s mine_t =
      let stand_s = (c.each j s at_s).1 in
      let stand_t = (c.each k t at_t).1 in (
        c.history,
        c.stood,
        stand_s 0 (p, x) (ap (λ m. get_elem? m 0) mine_s),
        stand_t 0 (q, y) (ap (λ m. get_elem? m 0) mine_t),
        λ e.
            let two = terms_le (times_of p) seats j k s t (λ h. ne (sym h)) at_s at_t in
            let one_s : times p s.mine ≡ 1 = subst (λ m. times p m ≡ 1) (sym mine_s) (once p x) in
            let one_t : times p t.mine ≡ 1 = subst (λ m. times p m ≡ 1) (sym mine_t) (subst (λ (n : ℕ). times n ((q, y) ∷ []) ≡ 1) (sym e) (once q y)) in
            let placed = c.placed p in
            let most = below_once p (length c.history) in
            absurd (omega arith),
      )
