-- What a seat keeps, after a turn.
use Rattle.std.proofs.Common.{◌≡◌, ℕ, ◌+◌, ◌≤◌, List, length, Option, None, Some, Bool, true, if◌then◌else◌, refl, sym, ap, subst, ◌∙◌, arith, length-append, ◌∷◌, []}
use Rattle.rt_base.specs.declared.ids.TxId.{TxId}
use Rattle.step_journal.specs.declared.entry.Entry.{Entry}
use Rattle.board.specs.Histories.{noted}
use Rattle.turn_cell.specs.declared.view.View.{View}
use Rattle.turn_cell.specs.Turn.{Begins, counted, taking, draining, released}
use Rattle.turn_cell.specs.Seats.{Standing}
use Rattle.turn_cell.proofs.Lists.{stand_longer, stand_note}
use Rattle.shared_plant.specs.Seats.{IsKept, facts_of, view_of, is_operator}
use Rattle.shared_plant.specs.Shared.{noting_own}

pub begins_long : (seen history : List Entry) → Begins seen history → length seen ≤ length history
begins_long seen history b = omega (arith, ap length b.1, length-append seen b.0)

-- after a turn in which the seat noted an entry, or none
pub kept_noted : (s t : Standing Entry) (tx : Option TxId) (front next : ℕ) (history : List Entry) (base : ℕ) (own : Option Entry) → IsKept s tx front → Begins s.view.seen history
    → t.view ≡ released (noting_own (taking s.view history base) own) → next ≡ length (noted history own) → IsKept t tx next
kept_noted s t tx front next history base None k b e long =
    let f = facts_of s tx in
    let is : t.view ≡ released (taking (view_of f) history base) = e ∙ ap (λ v. released (taking v history base)) k.0 in
    let more = begins_long s.view.seen history b in let drained = k.2.1 in
    subst (λ (x : View Entry). IsKept (record { cell = t.cell; view = x }) tx next) (sym is) (refl, long, (stand_longer f.mine f.seen history b k.2.0, omega arith))
kept_noted s t tx front next history base (Some entry) k b e long =
    let f = facts_of s tx in
    let is : t.view ≡ released (noting_own (taking (view_of f) history base) (Some entry)) = e ∙ ap (λ v. released (noting_own (taking v history base) (Some entry))) k.0 in
    let more = begins_long s.view.seen history b in let drained = k.2.1 in
    subst (λ (x : View Entry). IsKept (record { cell = t.cell; view = x }) tx next) (sym is)
    (refl, long, (stand_note f.mine history entry (stand_longer f.mine f.seen history b k.2.0), omega (arith, length-append history (entry ∷ []))))

-- after a turn in which it drained
pub kept_drained : (s t : Standing Entry) (tx : Option TxId) (front next : ℕ) (history : List Entry) (base n : ℕ) → IsKept s tx front → Begins s.view.seen history
    → t.view ≡ released (draining (taking s.view history base) n) → next ≡ length history → s.view.drained + n ≤ length history → IsKept t tx next
kept_drained s t tx front next history base n k b e long within =
    let f = facts_of s tx in
    let is : t.view ≡ released (draining (taking (view_of f) history base) n) = e ∙ ap (λ v. released (draining (taking v history base) n)) k.0 in
    subst (λ (x : View Entry). IsKept (record { cell = t.cell; view = x }) tx next) (sym is) (refl, long, (stand_longer f.mine f.seen history b k.2.0, within))

-- the operator's number is what the value says, once its seat has taken the turn
pub operator_counts : (s u : Standing Entry) (tx : Option TxId) (front first : ℕ) (history : List Entry) → IsKept s tx front → tx ≡ None → u.view ≡ taking s.view history first → counted u.view ≡ first → s.view.drained ≡ first
operator_counts s u tx front first history k none took is =
    let marked : s.view.marked ≡ true = ap (λ (v : View Entry). v.marked) k.0 ∙ ap is_operator none in
    let own : counted (taking s.view history first) ≡ s.view.drained = ap (λ (b : Bool). if b then s.view.drained else first) marked in
    sym own ∙ (sym (ap counted took) ∙ is)

-- the operator's seat carries the mark, and counts so many more once it drained them
pub operator_drained : (s u w : Standing Entry) (tx : Option TxId) (front first n : ℕ) (history : List Entry) → IsKept s tx front → tx ≡ None → u.view ≡ taking s.view history first → counted u.view ≡ first → w.view ≡ draining u.view n
    → (u.view.marked ≡ true) × (u.view.drained ≡ first) × (counted w.view ≡ first + n)
operator_drained s u w tx front first n history k none took is more =
    let marked : u.view.marked ≡ true = ap (λ (v : View Entry). v.marked) (took ∙ ap (λ v. taking v history first) k.0) ∙ ap is_operator none in
    let own : counted u.view ≡ u.view.drained = ap (λ (b : Bool). if b then u.view.drained else u.view.base) marked in
    let drained : u.view.drained ≡ first = sym own ∙ is in
    (marked, drained, ap counted more ∙ (ap (λ (b : Bool). if b then u.view.drained + n else u.view.base) marked ∙ ap (λ m. m + n) drained))
