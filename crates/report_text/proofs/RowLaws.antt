-- Lines, one by one.
use Rattle.std.proofs.Common.{◌≡◌, ℕ, ◌+◌, ◌<◌, ◌≤◌, List, ◌++◌, length, get_or, drop, sym, ap, ◌∙◌, add-one, drop-cons, append_assoc, append-nil, pos}
use Rattle.std.proofs.Math.ListN.{drop_of_length-le}
use Rattle.item_model.specs.declared.decl.ItemDecl.{ItemDecl}
use Rattle.item_model.specs.declared.decl.ItemKind.TheVariants.{State}
use Rattle.report_text.specs.Rows.{numbered}

-- what stands for an item beyond the list
abbrev pub no_item : ItemDecl
no_item = record { kind = State; initial = pos 0 }

pub step : {A : Type 0} (f : ℕ → A → List ℕ) (xs : List A) (i : ℕ) (d : A) → i < length xs
    → numbered f i (drop i xs) ≡ f i (get_or xs i d) ++ numbered f (i + 1) (drop (i + 1) xs)
step f xs i d lt =
    rw (drop-cons xs i d) (ap (λ (j : ℕ). f i (get_or xs i d) ++ numbered f (i + 1) (drop j xs)) (sym (add-one i)))

-- one line more
pub next_row : {A : Type 0} (f : ℕ → A → List ℕ) (before out new : List ℕ) (xs : List A) (i : ℕ) (d : A) → i < length xs
    → new ≡ out ++ f i (get_or xs i d)
    → out ++ numbered f i (drop i xs) ≡ before → new ++ numbered f (i + 1) (drop (i + 1) xs) ≡ before
next_row f before out new xs i d lt is so_far =
    ap (λ (o : List ℕ). o ++ numbered f (i + 1) (drop (i + 1) xs)) is
    ∙ append_assoc out (f i (get_or xs i d)) (numbered f (i + 1) (drop (i + 1) xs))
    ∙ ap (λ (t : List ℕ). out ++ t) (sym (step f xs i d lt))
    ∙ so_far

-- the same where the element is read as x
pub next_row_at : {A : Type 0} (f : ℕ → A → List ℕ) (before out new : List ℕ) (xs : List A) (i : ℕ) (x : A)
    → i < length xs → x ≡ get_or xs i x → new ≡ out ++ f i x
    → out ++ numbered f i (drop i xs) ≡ before → new ++ numbered f (i + 1) (drop (i + 1) xs) ≡ before
next_row_at f before out new xs i x lt at is so_far =
    next_row f before out new xs i x lt (is ∙ ap (λ y. out ++ f i y) at) so_far

-- no line is left
pub all_rows : {A : Type 0} (f : ℕ → A → List ℕ) (before out : List ℕ) (xs : List A) (i : ℕ) → length xs ≤ i
    → out ++ numbered f i (drop i xs) ≡ before → out ≡ before
all_rows f before out xs i le so_far =
    sym (append-nil out) ∙ ap (λ t. out ++ numbered f i t) (sym (drop_of_length-le xs le)) ∙ so_far
