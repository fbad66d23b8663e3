-- A call that took the turn was answered as the board answers.
use Rattle.std.proofs.Common.{◌≡◌, ℕ, ◌≤◌, List, length, Option, None, Some, refl, sym, ap, subst, ◌∙◌}
use Rattle.rt_base.specs.declared.ids.TxId.{TxId}
use Rattle.step_journal.specs.declared.entry.Entry.{Entry}
use Rattle.step_journal.specs.History.{IsLegal}
use Rattle.txn_set.specs.Set.{Set}
use Rattle.board.specs.Histories.{noted}
use Rattle.turn_cell.specs.declared.view.View.{View}
use Rattle.turn_cell.specs.Turn.{Begins, taking, released}
use Rattle.turn_cell.specs.Seats.{Standing}
use Rattle.shared_plant.specs.Seats.{PlantFacts, SeatFacts, facts_of}
use Rattle.shared_plant.specs.Shared.{noting_own}
use Rattle.shared_plant.specs.Answers.{Answered, IsBusy, turned}
use Rattle.shared_plant.specs.declared.tried.Tried.{Tried}
use Rattle.shared_plant.specs.declared.tried.Tried.TheVariants.{Busy, Said}

turned_is : (s t : Standing Entry) (tx : Option TxId) (history : List Entry) (base : ℕ) (own : Option Entry) → t.cell ≡ s.cell → t.view ≡ released (noting_own (taking s.view history base) own) → facts_of t tx ≡ turned (facts_of s tx) history base own
turned_is s t tx history base None cell view = λ i. facts_of (record { cell = cell i; view = view i }) tx
turned_is s t tx history base (Some entry) cell view = λ i. facts_of (record { cell = cell i; view = view i }) tx

-- The value x that the call was made on is the board b that was taken, of the set and the room of the plant's board o. What the
-- call was told and its entry are functions of the set, the room, the history and the number of drained entries.
pub answered : {B : Type 0} (set : B → Set) (room first : B → ℕ) (told : Set → ℕ → List Entry → ℕ → Type 0) (own : Set → List Entry → Option Entry) (x b o : B) (p : PlantFacts) (s u t : Standing Entry) (tx : Option TxId) (entry : Option Entry) (old : SeatFacts)
    → x ≡ b → ◌≡◌ {A = Set × ℕ} (set b, room b) (set o, room o) → set o ≡ p.set → room o ≡ p.room
    → u.view ≡ taking s.view u.view.seen (first b) → Begins s.view.seen u.view.seen → s.view.base ≤ first b
    → told (set x) (room x) u.view.seen (first x) → entry ≡ own (set x) u.view.seen → IsLegal (set x) (noted u.view.seen entry) → first x ≤ length u.view.seen
    → t.cell ≡ s.cell → t.view ≡ released (noting_own u.view entry) → facts_of s tx ≡ old
    → Answered p.set (told p.set p.room) (own p.set) old (facts_of t tx)
answered {B} set room first told own x b o p s u t tx entry old x_is same set_o room_o taken begins rises says entry_is legal within cell view old_is =
    let history : List Entry = u.view.seen in
    let set_is : set x ≡ p.set = ap set x_is ∙ (ap (λ (q : Set × ℕ). q.0) same ∙ set_o) in
    let room_is : room x ≡ p.room = ap room x_is ∙ (ap (λ (q : Set × ℕ). q.1) same ∙ room_o) in
    let first_is : first x ≡ first b = ap first x_is in
    let own_is : entry ≡ own p.set history = entry_is ∙ ap (λ (z : Set). own z history) set_is in
    let at : t.view ≡ released (noting_own (taking s.view history (first b)) entry) = view ∙ ap (λ (v : View Entry). released (noting_own v entry)) taken in
    let now : facts_of t tx ≡ turned (facts_of s tx) history (first b) entry = turned_is s t tx history (first b) entry cell at in
    let next : facts_of t tx ≡ turned old history (first b) (own p.set history) = now ∙ (ap (λ (f : SeatFacts). turned f history (first b) entry) old_is ∙ ap (turned old history (first b)) own_is) in
    record {
      history = history;
      base = first b;
      begins = subst (λ (f : SeatFacts). Begins f.seen history) old_is begins;
      rises = subst (λ (f : SeatFacts). f.base ≤ first b) old_is rises;
      within = subst (λ (n : ℕ). n ≤ length history) first_is within;
      says = subst (told p.set p.room history) first_is (subst (λ (r : ℕ). told p.set r history (first x)) room_is (subst (λ (z : Set). told z (room x) history (first x)) set_is says));
      after = next;
      legal = subst (λ (f : SeatFacts). IsLegal p.set f.seen) (sym now) (subst (λ (z : Set). IsLegal z (noted history entry)) set_is legal);
    }

pub busy_of : {X : Type 0} (r : Tried X) → ((x : X) → r ≡ Said x → ⊥) → IsBusy r
busy_of Busy not_said = tt
busy_of (Said x) not_said = absurd (not_said x refl)

-- the transaction of a seat that has one
abbrev pub the_tx : TxId → Option TxId → TxId
the_tx other None = other
the_tx other (Some tx) = tx
