-- What a journal has, with some of a history behind it.
use Rattle.std.proofs.Common.{Result, Ok, Err, IsOk, ◌≡◌, ℕ, ◌+◌, ◌-◌, ◌<◌, ◌≤◌, min, List, [], ◌∷◌, ◌++◌, take, drop, length, refl, sym, ap, subst, ◌∙◌, arith, append_assoc, length-append, length-drop}
use Rattle.std.proofs.lemmas.List.{length-take, take_all, take-append-le}
use Rattle.std.proofs.Math.Seq.{take-append-add, take-nil}
use Rattle.std.proofs.Math.ListN.{drop_of_length-le}
use Rattle.rt_base.specs.declared.name.Names.{Names}
use Rattle.txn_set.specs.Set.{Set}
use Rattle.step_journal.specs.declared.entry.Entry.{Entry}
use Rattle.durable_journal.specs.Log.{OpensAs, HasSome}
use Rattle.scenario_run.specs.Compared.{Begins, Agree, with_rest}
use Rattle.scenario_run.proofs.Joined.{joined, agree_on, rest_on}

pub begins_of_agree : (there history : List Entry) → Agree there history → length there ≤ length history → Begins there history
begins_of_agree there history agree fits = sym agree ∙ take_all (length history) there fits

drop_seam : (xs ys : List Entry) → drop (length xs) (xs ++ ys) ≡ ys
drop_seam [] ys = refl
drop_seam (x ∷ xs) ys = drop_seam xs ys

-- what the history has behind what the disk has, and what is added of a piece
pub front_more : (there kept e rest : List Entry) → Agree there kept → Agree (drop (length kept) there) e → rest ≡ drop (length (take (length e) (drop (length kept) there))) e
    → drop (length there) (kept ++ e) ≡ drop (length there) kept ++ rest
front_more there kept e rest agree here is =
    let whole : there ++ (drop (length there) kept ++ rest) ≡ there ++ drop (length there) (kept ++ e) =
    sym (append_assoc there (drop (length there) kept) rest)
    ∙ (ap (λ (l : List Entry). l ++ rest) (joined there kept agree)
    ∙ (ap (λ (l : List Entry). with_rest there kept ++ l) is
    ∙ (rest_on there kept e here ∙ sym (joined there (kept ++ e) (agree_on there kept e agree here))))) in
    sym (drop_seam there (drop (length there) (kept ++ e))) ∙ (ap (λ (l : List Entry). drop (length there) l) (sym whole) ∙ drop_seam there (drop (length there) kept ++ rest))

-- where the disk has all of a piece, nothing of it is left
pub none_left : (there kept e known : List Entry) → known ≡ take (length e) (drop (length kept) there) → length (kept ++ e) ≤ length there → take (length e - length known) (drop (length known) e) ≡ []
none_left there kept e known is fits =
    let n : length known ≡ min (length e) (length there - length kept) = ap (λ (l : List Entry). length l) is ∙ (length-take (length e) (drop (length kept) there) ∙ ap (λ (m : ℕ). min (length e) m) (length-drop (length kept) there)) in
    let all : length e ≤ length known = omega (arith, n, fits, length-append kept e) in
    ap (λ (l : List Entry). take (length e - length known) l) (drop_of_length-le e all) ∙ take-nil (length e - length known)

pub shorter_than : (there kept e known : List Entry) → known ≡ take (length e) (drop (length kept) there) → length known < length e → length there ≤ length (kept ++ e)
shorter_than there kept e known is some =
    let n : length known ≡ min (length e) (length there - length kept) = ap (λ (l : List Entry). length l) is ∙ (length-take (length e) (drop (length kept) there) ∙ ap (λ (m : ℕ). min (length e) m) (length-drop (length kept) there)) in
    omega (arith, n, some, length-append kept e)

module _ (names : Names) (set : Set) where
  -- some of a list are some of a longer one
  pub some_longer : (before entries more : List Entry) (image : List ℕ) → HasSome names set before entries image → HasSome names set before (entries ++ more) image
  some_longer before entries more image (n, within, opens) =
      (n, omega (arith, within, length-append entries more), subst (λ (l : List Entry). OpensAs names set image (before ++ l)) (sym (take-append-le n entries more within)) opens)

  -- some of what is added to what the disk and the history have
  pub some_behind : (there kept rest : List Entry) (image : List ℕ) → Agree there kept → HasSome names set (with_rest there kept) rest image
      → HasSome names set there (drop (length there) kept ++ rest) image
  some_behind there kept rest image agree (n, within, opens) =
      let front : List Entry = drop (length there) kept in
      let same : with_rest there kept ++ take n rest ≡ there ++ take (length front + n) (front ++ rest) =
      ap (λ (l : List Entry). l ++ take n rest) (sym (joined there kept agree))
      ∙ (append_assoc there front (take n rest) ∙ ap (λ (l : List Entry). there ++ l) (sym (take-append-add front rest n))) in
      (length front + n, omega (arith, within, length-append front rest), subst (λ (l : List Entry). OpensAs names set image l) same opens)

pub some_left : (rest : List Entry) → (rest ≡ [] → ⊥) → 0 < length rest
some_left [] off = absurd (off refl)
some_left (x ∷ rest) off = omega arith

pub not_ok : {T E : Type 0} (r : Result T E) (e : E) → r ≡ Err e → IsOk r → ⊥
not_ok (Ok t) e is ok = absurd (cc)
not_ok (Err x) e is ok = absurd (cc)
