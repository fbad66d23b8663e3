-- What the operator's seat knows after it drained.
use Rattle.std.proofs.Common.{◌≡◌, ℕ, ◌+◌, ◌-◌, ◌≤◌, ◌++◌, List, length, min, take, drop, Option, sym, ap, subst, ◌∙◌}
use Rattle.rt_base.specs.declared.ids.TxId.{TxId}
use Rattle.step_journal.specs.declared.entry.Entry.{Entry}
use Rattle.step_journal.specs.History.{IsLegal}
use Rattle.txn_set.specs.Set.{Set}
use Rattle.turn_cell.specs.declared.view.View.{View}
use Rattle.turn_cell.specs.Turn.{Begins, taking, draining, released}
use Rattle.turn_cell.specs.Seats.{Standing}
use Rattle.shared_plant.specs.Seats.{PlantFacts, SeatFacts, facts_of}
use Rattle.shared_plant.specs.Answers.{Drained, having_drained}

having_is : (s t : Standing Entry) (tx : Option TxId) (history : List Entry) (first n : ℕ) → s.view.drained ≡ first → t.cell ≡ s.cell → t.view ≡ released (draining (taking s.view history first) n) → facts_of t tx ≡ having_drained (facts_of s tx) history n
having_is s t tx history first n counts cell view =
    (λ i. facts_of (record { cell = cell i; view = view i }) tx) ∙ ap (λ (b : ℕ). record (having_drained (facts_of s tx) history n) { base = b }) (sym counts)

pub drained_of : (p : PlantFacts) (most spare : ℕ) (was is : List Entry) (n : ℕ) (s t : Standing Entry) (tx : Option TxId) (old : SeatFacts) (history : List Entry) (first room : ℕ) (set : Set)
    → facts_of s tx ≡ old → s.view.drained ≡ first → Begins s.view.seen history → s.view.base ≤ first
    → is ≡ was ++ take n (drop first history) → first + n ≤ length history → length history - first ≤ room → room ≡ p.room → n ≡ min most (min (length history - first) spare)
    → t.cell ≡ s.cell → t.view ≡ released (draining (taking s.view history first) n) → set ≡ p.set → IsLegal set history
    → Drained p most spare was is n old (facts_of t tx)
drained_of p most spare was is n s t tx old history first room set old_is counts begins rises moved within fits room_is count cell view set_is legal =
    let back = sym counts in
    subst (λ (f : SeatFacts). Drained p most spare was is n f (facts_of t tx)) old_is record {
      history = history;
      begins = begins;
      rises = subst (λ (k : ℕ). s.view.base ≤ k) back rises;
      moved = subst (λ (k : ℕ). is ≡ was ++ take n (drop k history)) back moved;
      within = subst (λ (k : ℕ). k + n ≤ length history) back within;
      fits = subst (λ (k : ℕ). length history - k ≤ p.room) back (subst (λ (r : ℕ). length history - first ≤ r) room_is fits);
      count = subst (λ (k : ℕ). n ≡ min most (min (length history - k) spare)) back count;
      after = having_is s t tx history first n counts cell view;
      legal = subst (λ (v : View Entry). IsLegal p.set v.seen) (sym view) (subst (λ (z : Set). IsLegal z history) set_is legal);
    }
