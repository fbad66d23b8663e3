-- The order and the lines of findings.
use Rattle.std.proofs.Common.{◌≡◌, ℕ, ◌+◌, ◌<◌, ◌≤◌, List, ◌∷◌, ◌++◌, length, map, drop, get_or, set, sym, ap, subst, ◌∙◌, append_assoc}
use Rattle.std.specs.Prelude.{IsPermutation}
use Rattle.std.proofs.lemmas.List.{append-nil, drop_more, drop_all, map-set, set-get_or, get_or-map}
use Rattle.std.proofs.lemmas.List.Sorted.{IsPermutation-map}
use Rattle.rt_base.specs.declared.name.Names.{Names}
use Rattle.scenario_check.specs.declared.found.Finding.{Finding}
use Rattle.scenario_check.specs.declared.found.What.{What}
use Rattle.scenario_check.specs.Texts.{line_of, lines_of}
use Rattle.scenario_check.specs.Findings.{what}

pub same_what : (fs later : List Finding) (i : ℕ) (f g : Finding) → i < length fs → f ≡ get_or fs i f
    → what g ≡ what f → later ≡ set fs i g → map what later ≡ map what fs
same_what fs later i f g lt is same next =
    ap (map what) next ∙ map-set what fs i g
    ∙ ap (λ (w : What). set (map what fs) i w)
    (same ∙ sym (get_or-map what fs i f (what f) lt ∙ ap what (sym is)))
    ∙ set-get_or (map what fs) i (what f)

pub in_order : (xs ys zs : List Finding) → IsPermutation xs ys → map what zs ≡ map what ys
    → IsPermutation (map what xs) (map what zs)
in_order xs ys zs moved same =
    subst (λ (l : List What). IsPermutation (map what xs) l) (sym same) (IsPermutation-map what xs ys moved)

pub line_more : (names : Names) (fs : List Finding) (i : ℕ) (f : Finding) (text later all : List ℕ) → i < length fs
    → f ≡ get_or fs i f → text ++ lines_of names (drop i fs) ≡ all → later ≡ text ++ line_of names f
    → later ++ lines_of names (drop (i + 1) fs) ≡ all
line_more names fs i f text later all lt is h next =
    let rest : drop i fs ≡ f ∷ drop (i + 1) fs =
    drop_more fs i f lt ∙ ap (λ (x : Finding). x ∷ drop (i + 1) fs) (sym is) in
    ap (λ (l : List ℕ). l ++ lines_of names (drop (i + 1) fs)) next
    ∙ append_assoc text (line_of names f) (lines_of names (drop (i + 1) fs))
    ∙ ap (λ (l : List Finding). text ++ lines_of names l) (sym rest) ∙ h

pub line_all : (names : Names) (fs : List Finding) (i : ℕ) (text all : List ℕ) → length fs ≤ i
    → text ++ lines_of names (drop i fs) ≡ all → text ≡ all
line_all names fs i text all le h =
    sym (append-nil text) ∙ ap (λ (l : List Finding). text ++ lines_of names l) (sym (drop_all i fs le)) ∙ h
