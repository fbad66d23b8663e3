-- A journal's entries beside those of a history that goes on.
use Rattle.std.proofs.Common.{◌≡◌, ℕ, zero, suc, ◌+◌, ◌<◌, inl, inr, min, List, [], ◌∷◌, ◌++◌, take, drop, length, refl, sym, ap, subst, ◌∙◌, arith, append_assoc, append-nil}
use Rattle.std.proofs.lemmas.List.{length-take}
use Rattle.std.proofs.lemmas.Bool.{cases_lt}
use Rattle.std.proofs.Math.Seq.{take-nil, drop-nil}
use Rattle.std.proofs.Math.ListN.{drop_of_length-le}
use Rattle.txn_set.specs.Set.{Set}
use Rattle.step_journal.specs.declared.entry.Entry.{Entry}
use Rattle.step_journal.specs.History.{IsLegal}
use Rattle.scenario_run.specs.Compared.{Begins, Agree, IsFirstOther, with_rest}

-- behind the one what the other has beyond it is behind the other what the one has beyond it
pub joined : (t e : List Entry) → Agree t e → t ++ drop (length t) e ≡ e ++ drop (length e) t
joined [] e h = sym (append-nil e) ∙ ap (λ (l : List Entry). e ++ l) (sym (drop-nil (length e)))
joined (x ∷ t) [] h = append-nil (x ∷ t)
joined (x ∷ t) (y ∷ e) h =
    let head : x ≡ y = cc in
    let tail : Agree t e = cc in
    let rest : t ++ drop (length t) e ≡ e ++ drop (length e) t = joined t e tail in
    cc

-- the first so many of the one begin the other
pub agree_of : (t e : List Entry) → Begins (take (length e) t) e → Agree t e
agree_of [] e h = take-nil (length e)
agree_of (x ∷ t) [] h = refl
agree_of (x ∷ t) (y ∷ e) h =
    let head : x ≡ y = cc in
    let tail : Begins (take (length e) t) e = cc in
    let rest : Agree t e = agree_of t e tail in
    cc

pub agree_on : (there history e : List Entry) → Agree there history → Agree (drop (length history) there) e → Agree there (history ++ e)
agree_on there [] e h k = k
agree_on [] (s ∷ history) e h k = refl
agree_on (t ∷ there) (s ∷ history) e h k =
    let head : t ≡ s = cc in
    let tail : Agree there history = cc in
    let rest : Agree there (history ++ e) = agree_on there history e tail k in
    cc

-- what is not among the first so many
known_behind : (t e : List Entry) → drop (length (take (length e) t)) e ≡ drop (length t) e
known_behind [] e = ap (λ (l : List Entry). drop (length l) e) (take-nil (length e))
known_behind (x ∷ t) [] = refl
known_behind (x ∷ t) (y ∷ e) = known_behind t e

drop_behind : (history e there : List Entry) → drop (length (history ++ e)) there ≡ drop (length e) (drop (length history) there)
drop_behind [] e there = refl
drop_behind (s ∷ history) e [] = sym (drop-nil (length e))
drop_behind (s ∷ history) e (t ∷ there) = drop_behind history e there

pub rest_on : (there history e : List Entry) → Agree (drop (length history) there) e
    → with_rest there history ++ drop (length (take (length e) (drop (length history) there))) e ≡ with_rest there (history ++ e)
rest_on there history e h =
    let t : List Entry = drop (length history) there in
    append_assoc history t (drop (length (take (length e) t)) e)
    ∙ (ap (λ (l : List Entry). history ++ (t ++ l)) (known_behind t e)
    ∙ (ap (λ (l : List Entry). history ++ l) (joined t e h)
    ∙ (sym (append_assoc history e (drop (length e) t))
    ∙ ap (λ (l : List Entry). (history ++ e) ++ l) (sym (drop_behind history e there)))))

-- the longer one is legal, and it is what is added to
pub legal_on : (set : Set) (there history e : List Entry) → Agree (drop (length history) there) e → IsLegal set (with_rest there history) → IsLegal set (history ++ e)
    → IsLegal set (with_rest there history ++ drop (length (take (length e) (drop (length history) there))) e)
legal_on set there history e h had goes =
    let t : List Entry = drop (length history) there in
    let known : List Entry = take (length e) t in
    let shorter : length known ≡ min (length e) (length t) = length-take (length e) t in
    elim (cases_lt (length t) (length e)) [
      | inl lt ↦
          let none : drop (length e) t ≡ [] = drop_of_length-le t (omega (arith, lt)) in
          subst (IsLegal set) (sym (rest_on there history e h ∙ (ap (λ (l : List Entry). (history ++ e) ++ l) (drop_behind history e there ∙ none) ∙ append-nil (history ++ e)))) goes
      | inr le ↦
          let none : drop (length known) e ≡ [] = drop_of_length-le e (omega (arith, shorter, le)) in
          subst (IsLegal set) (sym (ap (λ (l : List Entry). with_rest there history ++ l) none ∙ append-nil (with_rest there history))) had
    ]

-- ---- another entry

other_next : (x : Entry) (there history : List Entry) (place : ℕ) → IsFirstOther there history place → IsFirstOther (x ∷ there) (x ∷ history) (suc place)
other_next x there history place h = record {
  same = ap (λ (l : List Entry). x ∷ l) h.same;
  within = omega (arith, h.within);
  other = h.other;
}

-- among the first so many is among all
other_among : (n : ℕ) (t e : List Entry) (at : ℕ) → IsFirstOther (take n t) e at → IsFirstOther t e at
other_among zero t e at h = absurd (omega (arith, h.within))
other_among (suc n) [] e at h = absurd (omega (arith, h.within))
other_among (suc n) (x ∷ t) e zero h = record { same = refl; within = omega arith; other = h.other }
other_among (suc n) (x ∷ t) [] (suc at) h = absurd cc
other_among (suc n) (x ∷ t) (y ∷ e) (suc at) h =
    let head : x ≡ y = cc in
    let rest : IsFirstOther (take n t) e at = record { same = cc; within = omega (arith, h.within); other = h.other } in
    subst (λ (z : Entry). IsFirstOther (x ∷ t) (z ∷ e) (suc at)) head (other_next x t e at (other_among n t e at rest))

pub other_behind : (there history e : List Entry) (at : ℕ) → Agree there history → IsFirstOther (take (length e) (drop (length history) there)) e at
    → IsFirstOther there (history ++ e) (length history + at)
other_behind there [] e at h o =
    let same : at ≡ 0 + at = omega arith in
    subst (λ (n : ℕ). IsFirstOther there e n) same (other_among (length e) there e at o)
other_behind [] (s ∷ history) e at h o = absurd (omega (arith, o.within, ap (λ (l : List Entry). length l) (take-nil {A = Entry} (length e))))
other_behind (t ∷ there) (s ∷ history) e at h o =
    let head : t ≡ s = cc in
    let tail : Agree there history = cc in
    let rest = other_next t there (history ++ e) (length history + at) (other_behind there history e at tail o) in
    let place : suc (length history + at) ≡ suc (length history) + at = omega arith in
    subst (λ (n : ℕ). IsFirstOther (t ∷ there) (s ∷ (history ++ e)) n) place
    (subst (λ (z : Entry). IsFirstOther (t ∷ there) (z ∷ (history ++ e)) (suc (length history + at))) head rest)

-- of a history that goes on it is the same place
pub other_on : (there history rest : List Entry) (place : ℕ) → place < length history → IsFirstOther there history place → IsFirstOther there (history ++ rest) place
other_on there [] rest place lt h = absurd (omega (arith, lt))
other_on there (x ∷ history) rest zero lt h = record { same = refl; within = h.within; other = h.other }
other_on [] (x ∷ history) rest (suc place) lt h = absurd (omega (arith, h.within))
other_on (t ∷ there) (x ∷ history) rest (suc place) lt h =
    let head : t ≡ x = cc in
    let less : IsFirstOther there history place = record { same = cc; within = omega (arith, h.within); other = h.other } in
    subst (λ (z : Entry). IsFirstOther (t ∷ there) (z ∷ (history ++ rest)) (suc place)) head
    (other_next t there (history ++ rest) place (other_on there history rest place (omega (arith, lt)) less))
