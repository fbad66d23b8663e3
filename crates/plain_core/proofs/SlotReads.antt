-- A slot that is read is the row of its transaction.
use Rattle.std.proofs.Common.{◌≡◌, ℕ, ◌<◌, List, length, Option, None, Some, get_or, ap, sym, ◌∙◌, arith}
use Rattle.std.proofs.lemmas.List.{get_or_read}
use Rattle.step_journal.specs.State.{Row, row_of}

pub row_read : (rows xs : List (Option Row)) (i : ℕ) (x : Option Row) (row : Row) → xs ≡ rows → i < length rows → x ≡ get_or xs i x → x ≡ Some row → row_of rows i ≡ Some row
row_read rows xs i x row e lt is h =
    let lt' : i < length xs = omega (arith, ap (λ (l : List (Option Row)). length l) e) in
    ap (λ (l : List (Option Row)). get_or l i None) (sym e) ∙ (sym (get_or_read xs i x lt' is None) ∙ h)
