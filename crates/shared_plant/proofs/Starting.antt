-- The seats that a plant starts with: how they are made, and that they are of the plant.
use Rattle.std.proofs.Common.{◌≡◌, ℕ, zero, suc, ◌+◌, ◌<◌, ◌≤◌, List, [], ◌∷◌, ◌++◌, length, replicate, Option, None, Some, true≢false, refl, sym, ap, subst, ◌∙◌, ⊎_elim, arith}
use Rattle.std.specs.Option.{option_to_list}
use Rattle.std.proofs.lemmas.List.{same_from_push, replicate_more}
use mathlib.Core.Option.{some-ne-none}
use Rattle.rt_base.specs.declared.ids.TxId.{TxId}
use Rattle.step_journal.specs.declared.entry.Entry.{Entry}
use Rattle.turn_cell.proofs.Lists.{at_snoc_place}
use Rattle.turn_cell.specs.Seats.{TableId, Standing, fresh}
use Rattle.shared_plant.specs.Seats.{PlantFacts, SeatFacts, IsOf, AreOf, IsKept, facts_of, newcomer, newcomers, tx_of, is_operator}
use Rattle.shared_plant.proofs.Answering.{the_tx}

some_are_of : (p : PlantFacts) (past : List Entry) (first n : ℕ) → n ≤ length p.set.txns → AreOf p (newcomers p.id past first n)
some_are_of p past first zero le k s e = absurd (some-ne-none s (sym e))
some_are_of p past first (suc n) le k s e =
    ⊎_elim
    (λ t. some_are_of p past first n (omega arith) k s t.1)
    (λ t. subst (IsOf p) t.1 (refl, λ tx is. let place : n ≡ tx.0 = ap (λ o. (the_tx tx o).0) is in omega arith))
    (at_snoc_place (newcomers p.id past first n) (newcomer p.id past first (Some (tx_of n))) s k e)

pub all_are_of : (p : PlantFacts) (past : List Entry) (first n : ℕ) → n ≡ length p.set.txns → AreOf p (newcomers p.id past first n ++ newcomer p.id past first None ∷ [])
all_are_of p past first n is k s e =
    ⊎_elim
    (λ t. some_are_of p past first n (omega arith) k s t.1)
    (λ t. subst (IsOf p) t.1 (refl, λ tx none. absurd (true≢false (ap is_operator none))))
    (at_snoc_place (newcomers p.id past first n) (newcomer p.id past first None) s k e)

-- a fresh seat of the turn's table is seen as a newcomer
pub newcomer_is : (s : Standing Entry) (tx : Option TxId) (id : TableId) (past : List Entry) (first : ℕ) → s ≡ fresh id past first (is_operator tx) → facts_of s tx ≡ newcomer id past first tx
newcomer_is s None id past first e = ap (λ (t : Standing Entry). facts_of t None) e
newcomer_is s (Some tx) id past first e = ap (λ (t : Standing Entry). facts_of t (Some tx)) e

pub newcomer_kept : (s : Standing Entry) (tx : Option TxId) (front : ℕ) (id : TableId) (past : List Entry) (first : ℕ) → length past ≡ front → first ≤ length past → s ≡ fresh id past first (is_operator tx) → IsKept s tx front
newcomer_kept s None front id past first long le e =
    subst (λ (t : Standing Entry). IsKept t None front) (sym e) (refl, sym long, ((λ k p h. absurd (some-ne-none p (sym h))), le))
newcomer_kept s (Some tx) front id past first long le e =
    subst (λ (t : Standing Entry). IsKept t (Some tx) front) (sym e) (refl, sym long, ((λ k p h. absurd (some-ne-none p (sym h))), omega arith))

module _ {X : Type 0} where
  -- what was taken off the end of a list
  pub popped : (cells rest before : List X) (o : Option X) (x y : X) → cells ≡ rest ++ option_to_list o → o ≡ Some x → cells ≡ before ++ y ∷ [] → (rest ≡ before) × (x ≡ y)
  popped cells rest before o x y e is f = same_from_push rest before x y (sym (e ∙ ap (λ p. rest ++ option_to_list p) is) ∙ f)

  -- the same of a list of equal ones
  pub next_popped : (cells rest : List X) (o : Option X) (x y : X) (n i all : ℕ) → cells ≡ rest ++ option_to_list o → o ≡ Some x → cells ≡ replicate n y → n + i ≡ all → i < all
      → (x ≡ y) × ((m : ℕ) × (m + (i + 1) ≡ all) × (rest ≡ replicate m y))
  next_popped cells rest o x y zero i all e is f sum lt = absurd (omega arith)
  next_popped cells rest o x y (suc m) i all e is f sum lt =
      let one : suc m ≡ m + 1 = omega arith in
      let p = popped cells rest (replicate m y) o x y e is (f ∙ (ap (λ k. replicate k y) one ∙ sym (replicate_more m y))) in
      (p.1, (m, omega arith, p.0))

-- one more newcomer
pub next_seated : (id : TableId) (past : List Entry) (first n : ℕ) (was now : List SeatFacts) (s : SeatFacts) → now ≡ was ++ s ∷ [] → was ≡ newcomers id past first n → s ≡ newcomer id past first (Some (tx_of n)) → now ≡ newcomers id past first (n + 1)
next_seated id past first n was now s e w is =
    let one : suc n ≡ n + 1 = omega arith in
    e ∙ (ap (λ l. l ++ s ∷ []) w ∙ (ap (λ t. newcomers id past first n ++ t ∷ []) is ∙ ap (newcomers id past first) one))

-- the operator's seat after those of all transactions
pub all_seated : (id : TableId) (past : List Entry) (first n all : ℕ) (was now : List SeatFacts) (s : SeatFacts) → now ≡ was ++ s ∷ [] → was ≡ newcomers id past first n → n ≡ all → s ≡ newcomer id past first None
    → now ≡ newcomers id past first all ++ newcomer id past first None ∷ []
all_seated id past first n all was now s e w long is =
    e ∙ (ap (λ l. l ++ s ∷ []) (w ∙ ap (newcomers id past first) long) ∙ ap (λ t. newcomers id past first all ++ t ∷ []) is)
