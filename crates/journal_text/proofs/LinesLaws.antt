-- Lines of entries, one after the other.
use Rattle.std.proofs.Common.{◌≡◌, ℕ, ◌+◌, ◌<◌, List, [], ◌∷◌, ◌++◌, length, take, get_or, refl, sym, ap, subst, ◌∙◌, append_assoc, append-nil}
use Rattle.std.proofs.lemmas.List.{take_more}
use Rattle.std.proofs.lemmas.List.Elements.{All-push}
use Rattle.std.specs.List.{All}
use Rattle.rt_base.specs.declared.name.Names.{Names}
use Rattle.step_journal.specs.declared.entry.Entry.{Entry}
use Rattle.journal_text.specs.Lines.{HasLine, entry_line, whole_line, whole_lines}

lines_append : (names : Names) (xs ys : List Entry) → whole_lines names (xs ++ ys) ≡ whole_lines names xs ++ whole_lines names ys
lines_append names [] ys = refl
lines_append names (x ∷ xs) ys =
    ap (λ (t : List ℕ). whole_line names x ++ t) (lines_append names xs ys) ∙ sym (append_assoc (whole_line names x) (whole_lines names xs) (whole_lines names ys))

-- one more line
lines_more : (names : Names) (entries : List Entry) (i : ℕ) (d : Entry) → i < length entries
    → whole_lines names (take (i + 1) entries) ≡ whole_lines names (take i entries) ++ whole_line names (get_or entries i d)
lines_more names entries i d lt =
    ap (whole_lines names) (take_more entries i d lt)
    ∙ (lines_append names (take i entries) (get_or entries i d ∷ [])
    ∙ ap (λ (t : List ℕ). whole_lines names (take i entries) ++ t) (append-nil (whole_line names (get_or entries i d))))

-- the lines so far, and the next one
pub lines_go : (names : Names) (entries : List Entry) (i : ℕ) (d : Entry) (all before now : List ℕ) → i < length entries
    → before ≡ all ++ whole_lines names (take i entries) → now ≡ before ++ whole_line names (get_or entries i d)
    → now ≡ all ++ whole_lines names (take (i + 1) entries)
lines_go names entries i d all before now lt is next =
    next ∙ (ap (λ (l : List ℕ). l ++ whole_line names (get_or entries i d)) is
    ∙ (append_assoc all (whole_lines names (take i entries)) (whole_line names (get_or entries i d))
    ∙ ap (λ (t : List ℕ). all ++ t) (sym (lines_more names entries i d lt))))

pub lines_end : (names : Names) (entries : List Entry) (i : ℕ) (d : Entry) (all before still mid now : List ℕ) → i < length entries
    → before ≡ all ++ whole_lines names (take i entries) → still ≡ before → mid ≡ still ++ entry_line names (get_or entries i d) → now ≡ mid ++ 10 ∷ []
    → now ≡ all ++ whole_lines names (take (i + 1) entries)
lines_end names entries i d all before still mid now lt is same line end =
    lines_go names entries i d all before now lt is
    (end ∙ (ap (λ (l : List ℕ). l ++ 10 ∷ []) (line ∙ ap (λ (l : List ℕ). l ++ entry_line names (get_or entries i d)) same)
    ∙ append_assoc before (entry_line names (get_or entries i d)) (10 ∷ [])))

pub all_more : (names : Names) (entries : List Entry) (i : ℕ) (d : Entry) → i < length entries → All (HasLine names) (take i entries)
    → HasLine names (get_or entries i d) → All (HasLine names) (take (i + 1) entries)
all_more names entries i d lt all one =
    subst (All (HasLine names)) (sym (take_more entries i d lt)) (All-push (HasLine names) (take i entries) (get_or entries i d) all one)
