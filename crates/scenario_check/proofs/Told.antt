-- What is told, from its parts.
use Rattle.std.proofs.Common.{◌≡◌, ℕ, ◌+◌, ◌<◌, ◌≤◌, List, [], ◌∷◌, ◌++◌, length, map, drop, get_or, Option, Some, None, sym, ap, subst, ◌∙◌, append_assoc}
use Rattle.std.specs.Prelude.{IsPermutation}
use Rattle.std.proofs.lemmas.List.{append-nil, drop_more, drop_all}
use Rattle.std.proofs.lemmas.List.Elements.{All-nil, All-push, Contains-append_left, Contains-push}
use Rattle.rt_base.specs.declared.name.Names.{Names}
use Rattle.scenario_check.specs.declared.kinds.Warning.{Warning}
use Rattle.scenario_check.specs.declared.found.Finding.{Finding}
use Rattle.scenario_check.specs.declared.found.Refusal.{Refusal}
use Rattle.scenario_check.specs.declared.found.What.{What}
use Rattle.scenario_check.specs.declared.found.What.TheVariants.{Refused, Repeated, Warned}
use Rattle.scenario_check.specs.Texts.{lines_of}
use Rattle.scenario_check.specs.Findings.{IsNoWarning, IsRepeated, AreOthers, AreToldBy, AreLines, what}

pub no_others : (xs : List What) → xs ≡ [] → AreOthers None xs
no_others xs none = subst (λ (l : List What). AreOthers None l) (sym none) (All-nil IsRepeated)

pub refusal_told : (refusal : Refusal) (xs ys : List What) → xs ≡ [] → ys ≡ xs ++ Refused refusal ∷ []
    → AreOthers (Some refusal) ys
refusal_told refusal xs ys none is =
    subst (λ (l : List What). AreOthers (Some refusal) l)
    (sym (is ∙ ap (λ (l : List What). l ++ Refused refusal ∷ []) none))
    (All-push IsNoWarning [] (Refused refusal) (All-nil IsNoWarning) tt, Contains-push [] (Refused refusal))

pub repeated_told : (refusal : Option Refusal) (xs ys : List What) → AreOthers refusal xs → ys ≡ xs ++ Repeated ∷ []
    → AreOthers refusal ys
repeated_told None xs ys h is =
    subst (λ (l : List What). AreOthers None l) (sym is) (All-push IsRepeated xs Repeated h tt)
repeated_told (Some refusal) xs ys h is =
    subst (λ (l : List What). AreOthers (Some refusal) l) (sym is)
    (All-push IsNoWarning xs Repeated h.0 tt, Contains-append_left xs (Repeated ∷ []) (Refused refusal) h.1)

pub warn_more : (total xs ys : List What) (ws : List Warning) (i : ℕ) (w : Warning) → i < length ws
    → w ≡ get_or ws i w → xs ++ map Warned (drop i ws) ≡ total → ys ≡ xs ++ Warned w ∷ []
    → ys ++ map Warned (drop (i + 1) ws) ≡ total
warn_more total xs ys ws i w lt is h next =
    let rest : drop i ws ≡ w ∷ drop (i + 1) ws =
    drop_more ws i w lt ∙ ap (λ (x : Warning). x ∷ drop (i + 1) ws) (sym is) in
    ap (λ (l : List What). l ++ map Warned (drop (i + 1) ws)) next
    ∙ append_assoc xs (Warned w ∷ []) (map Warned (drop (i + 1) ws))
    ∙ ap (λ (l : List Warning). xs ++ map Warned l) (sym rest) ∙ h

pub warn_all : (total xs : List What) (ws : List Warning) (i : ℕ) → length ws ≤ i
    → xs ++ map Warned (drop i ws) ≡ total → xs ≡ total
warn_all total xs ws i le h =
    sym (append-nil xs) ∙ ap (λ (l : List Warning). xs ++ map Warned l) (sym (drop_all i ws le)) ∙ h

pub told_all : (refusal : Option Refusal) (ws : List Warning) (xs ys told : List What) → AreOthers refusal xs
    → ys ≡ xs ++ map Warned ws → IsPermutation ys told → AreToldBy refusal ws told
told_all refusal ws xs ys told are all moved = record {
  others = xs;
  are = are;
  order = subst (λ (l : List What). IsPermutation l told) all moved;
}

pub lines_told : (refusal : Option Refusal) (ws : List Warning) (names : Names) (fs : List Finding) (text : List ℕ)
    → AreToldBy refusal ws (map what fs) → text ≡ lines_of names fs → AreLines refusal ws names text
lines_told refusal ws names fs text told lines = record { findings = fs; told = told; written = lines }
