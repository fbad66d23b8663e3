-- Changing the rows at named places, one after another.
use Rattle.std.proofs.Common.{◌≡◌, ℕ, ◌+◌, ◌<◌, false, cond, eqb, List, ◌∷◌, length, get_or, set, take, drop, replicate, ◌++◌, refl, sym, ap, subst, ◌∙◌, ⊎_elim, arith, add-one, drop-cons, length-drop}
use Rattle.std.proofs.lemmas.Bool.{cases_eq, eq-eqb, ne_eqb}
use Rattle.std.specs.List.{All}
use Rattle.std.proofs.lemmas.List.{get_or_default, get_or-set_same, get_or-set_other, get_or-drop, get_or-replicate, length-replicate, take-append-le}
use Rattle.std.proofs.Math.Seq.{take-length}
use Rattle.std.proofs.lemmas.List.Folds.{list_any_none}
use Rattle.rt_base.specs.declared.ids.ItemId.{ItemId}
use Rattle.txn_set.specs.Set.{names_item}
use Rattle.txn_compiler.specs.Tables.{IsList}

-- as many rows as are made at first, all alike
pub all-alike : {X : Type 0} (rows : List X) (n : ℕ) (x : X) → rows ≡ replicate n x → All (λ row. row ≡ x) rows
all-alike rows n x e = subst (All (λ row. row ≡ x)) (sym e) (λ i d below. get_or-replicate n i x d (omega (arith, below, length-replicate n x)))

pub as-many : {X : Type 0} (rows : List X) (n : ℕ) (x : X) → rows ≡ replicate n x → length rows ≡ n
as-many rows n x e = ap (λ (l : List _). length l) e ∙ length-replicate n x

-- rows that were changed in place, in the list that they stand in
pub in-place : {X : Type 0} (n : ℕ) (rows others : List X) → n ≡ length rows → take n (rows ++ others) ≡ rows
in-place n rows others e = take-append-le n rows others (omega (arith, e)) ∙ subst (λ (k : ℕ). take k rows ≡ rows) (sym e) (take-length rows)

-- the rows so far, with those that are still to be changed, are the rows wanted
pub record IsDueAt {X : Type 0} (change : X → X) (items : List ItemId) (at : ℕ) (old now : List X) : Type 0 where
  pub each : (i : ℕ) (d : X) → i < length old → cond (names_item (drop at items) i) (change (get_or now i d)) (get_or now i d) ≡ cond (names_item items i) (change (get_or old i d)) (get_or old i d)

-- in a rising list the item at a place is not named after it
not-later : (items : List ItemId) (at count : ℕ) (d : ItemId) → IsList count items → at < length items → names_item (drop (at + 1) items) (get_or items at d).0 ≡ false
not-later items at count d h inside =
    list_any_none (λ i. eqb i.0 (get_or items at d).0) (drop (at + 1) items)
    (λ k e below.
    let there : (at + 1) + k < length items = omega (arith, below, length-drop (at + 1) items) in
    let less : (get_or items at e).0 < (get_or items ((at + 1) + k) e).0 = h.rising at ((at + 1) + k) e (omega arith) there in
    let here : get_or items at d ≡ get_or items at e = get_or_default items at d e inside in
    rw (get_or-drop (at + 1) items k e, here) (ne_eqb (get_or items ((at + 1) + k) e).0 (get_or items at e).0 (λ same. absurd (omega arith))))

step : {X : Type 0} (change : X → X) (item : ItemId) (rest : List ItemId) (now : List X) (e : X) → item.0 < length now → names_item rest item.0 ≡ false → (i : ℕ) (d : X) → cond (names_item rest i) (change (get_or (set now item.0 (change (get_or now item.0 e))) i d)) (get_or (set now item.0 (change (get_or now item.0 e))) i d) ≡ cond (names_item (item ∷ rest) i) (change (get_or now i d)) (get_or now i d)
step change item rest now e inside later i d =
    ⊎_elim
    (λ (same : item.0 ≡ i).
    subst
    (λ (k : ℕ). cond (names_item rest k) (change (get_or (set now item.0 (change (get_or now item.0 e))) k d)) (get_or (set now item.0 (change (get_or now item.0 e))) k d) ≡ cond (names_item (item ∷ rest) k) (change (get_or now k d)) (get_or now k d))
    same
    (rw (later, eq-eqb item.0 item.0 refl, get_or-set_same now item.0 (change (get_or now item.0 e)) d inside) (ap change (get_or_default now item.0 e d inside))))
    (λ (other : item.0 ≡ i → ⊥).
    rw (ne_eqb item.0 i other, get_or-set_other now item.0 i (change (get_or now item.0 e)) d (λ back. other (sym back))) refl)
    (cases_eq item.0 i)

pub due-more : {X : Type 0} (change : X → X) (items : List ItemId) (at : ℕ) (d : ItemId) (old now : List X) (row e : X) → IsList (length old) items → length now ≡ length old → at < length items → row ≡ change (get_or now (get_or items at d).0 e) → IsDueAt change items at old now → IsDueAt change items (at + 1) old (set now (get_or items at d).0 row)
due-more change items at d old now row e list same inside row-is due =
    let below : (get_or items at d).0 < length now = omega (arith, list.in_range at d inside) in
    let later = not-later items at (length old) d list inside in
    let rest : drop at items ≡ get_or items at d ∷ drop (at + 1) items = rw add-one (drop-cons items at d inside) in
    record {
      each =
          λ i a within.
          rw row-is
          (step change (get_or items at d) (drop (at + 1) items) now e below later i a ∙
          subst (λ (l : List ItemId). cond (names_item l i) (change (get_or now i a)) (get_or now i a) ≡ cond (names_item items i) (change (get_or old i a)) (get_or old i a)) rest (due.each i a within));
    }
