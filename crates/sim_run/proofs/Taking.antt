-- What an out that never stops has taken.
use Rattle.std.proofs.Common.{◌≡◌, ℕ, ◌+◌, ◌≤◌, List, [], ◌++◌, length, Result, Ok, Err, IfOk, refl, ap, arith, length-append}
use Rattle.io_edge.specs.Causes.{HasCause}
use Rattle.step_journal.specs.declared.entry.Entry.{Entry}

took : {A E P : Type 0} (r : Result A E) → IfOk r (λ _. P) → HasCause 0 0 r → P
took (Ok x) h cause = h
took (Err e) h cause = absurd (omega (arith, cause.failed))

-- two pieces have a place where the room is at least their length
pub second_fits : {A E : Type 0} (r : Result A E) (kept kept' first second : List Entry) (room room' : ℕ)
    → IfOk r (λ _. (history : List Entry) → kept ≡ history → kept' ≡ history ++ first) → HasCause 0 0 r
    → ((history : List Entry) → length history ≤ room → length history ≤ room')
    → kept ≡ [] → length first + length second ≤ room
    → (history : List Entry) × (kept' ≡ history) × (length (history ++ second) ≤ room')
second_fits r kept kept' first second room room' taken cause same none fits =
    let is : kept' ≡ first = took r taken cause [] none in
    (kept', refl, same (kept' ++ second) (omega (arith, length-append kept' second, ap (λ (l : List Entry). length l) is, fits)))
