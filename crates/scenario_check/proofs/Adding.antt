-- Lines that are added.
use Rattle.std.proofs.Common.{◌≡◌, ℕ, Bool, true, false, not, ◌||◌, List, [], ◌∷◌, ◌++◌, map, Some, true≢false, refl, sym, ap, ap₂, subst, ◌∙◌, append_assoc}
use Rattle.std.specs.Prelude.{IsPermutation}
use Rattle.std.specs.List.{All, Contains}
use Rattle.std.proofs.lemmas.List.{append-nil, map-append}
use Rattle.std.proofs.lemmas.List.Sorted.{IsPermutation-refl}
use Rattle.std.proofs.lemmas.List.Elements.{All-nil, All-push, All-append, Contains-append_left, Contains-append_right, Contains-push}
use Rattle.rt_base.specs.declared.name.Names.{Names}
use Rattle.scenario_check.specs.declared.found.Finding.{Finding}
use Rattle.scenario_check.specs.declared.found.Refusal.{Refusal}
use Rattle.scenario_check.specs.declared.found.What.{What}
use Rattle.scenario_check.specs.declared.found.What.TheVariants.{Refused, Repeated}
use Rattle.scenario_check.specs.Verdicts.{no_names}
use Rattle.scenario_check.specs.Texts.{line_of, lines_of}
use Rattle.scenario_check.specs.Findings.{IsNoWarning, AreLines, AddsLine, Adds, what}

lines_both : (names : Names) (fs gs : List Finding) → lines_of names (fs ++ gs) ≡ lines_of names fs ++ lines_of names gs
lines_both names [] gs = refl
lines_both names (f ∷ fs) gs =
    ap (λ (l : List ℕ). line_of names f ++ l) (lines_both names fs gs)
    ∙ sym (append_assoc (line_of names f) (lines_of names fs) (lines_of names gs))

abbrev named : List (List ℕ) → List (List ℕ) → Names
named items txns = record { items = items; txns = txns }

pub empty_names : (names : Names) → names.items ≡ [] → names.txns ≡ [] → names ≡ no_names
empty_names names items txns = ap₂ named items txns

pub line_put : (names : Names) (f : Finding) (told : What) (old new : List ℕ) → names ≡ no_names → f.what ≡ told
    → new ≡ old ++ line_of names f → AddsLine told old new
line_put names f told old new none is put = record {
  finding = f;
  is = is;
  written = put ∙ ap (λ (n : Names). old ++ line_of n f) none;
}

pub none_more : (refusal : Refusal) (xs : List ℕ) → Adds false refusal xs xs
none_more refusal xs = record {
  findings = [];
  others = All-nil IsNoWarning;
  told = λ is. absurd (true≢false (sym is));
  written = sym (append-nil xs);
}

-- a line more, among them the refusal if this holds
line_more : (is_told : Bool) (refusal : Refusal) (told : What) (xs ys : List ℕ) → IsNoWarning told
    → (is_told ≡ true → told ≡ Refused refusal) → AddsLine told xs ys → Adds is_told refusal xs ys
line_more is_told refusal told xs ys no_warning same line = record {
  findings = line.finding ∷ [];
  others = All-push IsNoWarning [] (what line.finding) (All-nil IsNoWarning) (subst IsNoWarning (sym line.is) no_warning);
  told = λ is. subst (λ (w : What). Contains (w ∷ []) (Refused refusal)) (sym (line.is ∙ same is))
      (Contains-push [] (Refused refusal));
  written = line.written ∙ ap (λ (l : List ℕ). xs ++ l) (sym (append-nil (line_of no_names line.finding)));
}

among : (a b : Bool) (refusal : Refusal) (xs ys : List What) → (a ≡ true → Contains xs (Refused refusal))
    → (b ≡ true → Contains ys (Refused refusal)) → (a || b) ≡ true → Contains (xs ++ ys) (Refused refusal)
among true b refusal xs ys left right is = Contains-append_left xs ys (Refused refusal) (left refl)
among false b refusal xs ys left right is = Contains-append_right xs ys (Refused refusal) (right is)

pub both_more : (a b : Bool) (refusal : Refusal) (xs ys zs : List ℕ) → Adds a refusal xs ys → Adds b refusal ys zs
    → Adds (a || b) refusal xs zs
both_more a b refusal xs ys zs f g = record {
  findings = f.findings ++ g.findings;
  others = subst (All IsNoWarning) (sym (map-append what f.findings g.findings))
      (All-append IsNoWarning (map what f.findings) (map what g.findings) f.others g.others);
  told = λ is. subst (λ (l : List What). Contains l (Refused refusal)) (sym (map-append what f.findings g.findings))
      (among a b refusal (map what f.findings) (map what g.findings) f.told g.told is);
  written = g.written ∙ ap (λ (l : List ℕ). l ++ lines_of no_names g.findings) f.written
      ∙ append_assoc xs (lines_of no_names f.findings) (lines_of no_names g.findings)
      ∙ ap (λ (l : List ℕ). xs ++ l) (sym (lines_both no_names f.findings g.findings));
}

pub repeated_more : (refusal : Refusal) (xs ys zs : List ℕ) → Adds false refusal xs ys → AddsLine Repeated ys zs
    → Adds false refusal xs zs
repeated_more refusal xs ys zs before line =
    both_more false false refusal xs ys zs before (line_more false refusal Repeated ys zs tt (λ is. absurd (true≢false (sym is))) line)

pub fault_more : (refusal told : Refusal) (xs ys zs : List ℕ) → Adds false refusal xs ys → AddsLine (Refused told) ys zs
    → Adds false refusal xs zs
fault_more refusal told xs ys zs before line =
    both_more false false refusal xs ys zs before (line_more false refusal (Refused told) ys zs tt (λ is. absurd (true≢false (sym is))) line)

pub refusal_more : (refusal : Refusal) (xs ys zs : List ℕ) → Adds false refusal xs ys → AddsLine (Refused refusal) ys zs
    → Adds true refusal xs zs
refusal_more refusal xs ys zs before line =
    both_more false true refusal xs ys zs before
    (line_more true refusal (Refused refusal) ys zs tt (λ is. refl) line)

-- lines that tell the refusal, here or there, are the lines on it
pub whole : (is_told : Bool) (refusal : Refusal) (ys zs : List ℕ) → Adds is_told refusal [] ys
    → Adds (not is_told) refusal ys zs → AreLines (Some refusal) [] no_names zs
whole is_told refusal ys zs f g =
    let all : Adds (is_told || not is_told) refusal [] zs = both_more is_told (not is_told) refusal [] ys zs f g in
    record {
      findings = all.findings;
      told = record {
        others = map what all.findings;
        are = (all.others, all.told (either is_told));
        order = subst (λ (l : List What). IsPermutation l (map what all.findings)) (sym (append-nil (map what all.findings)))
            (IsPermutation-refl (map what all.findings));
      };
      written = all.written;
    }
  where
    either : (b : Bool) → (b || not b) ≡ true
    either true = refl
    either false = refl
