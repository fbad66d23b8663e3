-- Entries that are put in pieces, from the first on.
use Rattle.std.proofs.Common.{◌≡◌, ℕ, ◌+◌, ◌-◌, ◌≤◌, List, [], ◌++◌, take, drop, length, Result, Ok, Err, IfOk, sym, ap, subst, ◌∙◌, arith, append-nil}
use Rattle.std.proofs.lemmas.List.{length-take, take-append-drop}
use Rattle.std.proofs.Math.Seq.{take-append-add}
use Rattle.txn_set.specs.Set.{Set}
use Rattle.step_journal.specs.declared.entry.Entry.{Entry}
use Rattle.step_journal.specs.History.{IsLegal}
use Rattle.job_rows.proofs.Fronts.{legal_front}
use Rattle.scenario_run.specs.ReportOuts.{Begun, OutSeen, IsGoing, HasTaken, IsLost}
use Rattle.scenario_run.proofs.Taking.{going}

-- a front and the piece after it
pub take_piece : (k n : ℕ) (xs : List Entry) → k ≤ length xs → take (k + n) xs ≡ take k xs ++ take (k + n - k) (drop k xs)
take_piece k n xs le =
    let len : length (take k xs) ≡ k = omega (arith, length-take k xs) in
    let same : n ≡ k + n - k = omega arith in
    ap (λ (m : ℕ). take (m + n) xs) (sym len)
    ∙ (ap (λ (l : List Entry). take (length (take k xs) + n) l) (sym (take-append-drop k xs))
    ∙ (take-append-add (take k xs) (drop k xs) n
    ∙ ap (λ (m : ℕ). take k xs ++ take m (drop k xs)) same))

pub both_ok : {A E P Q R : Type 0} (r : Result A E) → (P → Q → R) → IfOk r (λ _. P) → IfOk r (λ _. Q) → IfOk r (λ _. R)
both_ok (Ok x) f p q = f p q
both_ok (Err e) f p q = tt

-- each front of a legal history is one
pub fronts_legal : (begun : Begun) (set : Set) (entries : List Entry) → begun.set ≡ set → IsLegal set entries → (n : ℕ) → IsLegal begun.set (take n entries)
fronts_legal begun set entries is legal n =
    subst (λ (s : Set). IsLegal s (take n entries)) (sym is)
    (legal_front set (take n entries) (drop n entries) (subst (IsLegal set) (sym (take-append-drop n entries)) legal))

-- an out that got all and lost none
pub all_going : (begun : Begun) (out : OutSeen) (set : Set) (entries : List Entry) → begun.set ≡ set → IsLegal set entries → IsLost begun out []
    → HasTaken begun out entries → IsGoing begun out entries
all_going begun out set entries is legal lost has =
    going begun out [] entries lost has (subst (IsLegal begun.set) (sym (append-nil entries)) (subst (λ (s : Set). IsLegal s entries) (sym is) legal))
