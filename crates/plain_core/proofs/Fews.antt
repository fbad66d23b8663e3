-- Lists of items, each once: one more fits.
use Rattle.std.proofs.Common.{◌≡◌, ℕ, ◌<◌, ◌≤◌, ◌==◌, Bool, true, false, cond, ◌||◌, List, [], ◌∷◌, ◌++◌, length, map, take, drop, zero, suc, get_or, set as with_item, Some, refl, ap, sym, ◌∙◌, subst, arith, length-append}
use Rattle.std.proofs.lemmas.Bool.{ne_eqb, eqb-false, eqb-true, eq-eqb}
use Rattle.std.proofs.lemmas.List.{length-map, map-append}
use Rattle.std.proofs.lemmas.Map.Keys.{IsDistinct-cons, IsDistinct-head, IsDistinct-tail}
use Rattle.std.proofs.lemmas.Map.Steps.{length-le_from_distinct_below}
use Rattle.std.specs.Prelude.{eqb, is_some, ℤ}
use Rattle.std.specs.List.{find, list_any, IsDistinct, AllByRecursion}
use Rattle.rt_base.specs.declared.ids.ItemId.{ItemId}
use Rattle.item_model.specs.declared.stored.OutsideRead.{OutsideRead}
use Rattle.item_model.specs.declared.stored.OwnWrite.{OwnWrite}
use Rattle.item_model.specs.Work.{with_write, read_items, write_items}
use Rattle.item_model.proofs.Noting.{apart_more, none_listed, write_old}
use Rattle.plain_core.specs.Places.{AreFew, HasPlaces, most_items}

low_more : (xs : List ℕ) (y : ℕ) → ((i : ℕ) → list_any (eqb i) xs ≡ true → i < most_items) → y < most_items → (i : ℕ) → list_any (eqb i) (xs ++ y ∷ []) ≡ true → i < most_items
low_more [] y low lt i h = low_one (eqb i y) refl h where
  low_one : (b : Bool) → eqb i y ≡ b → (b || false) ≡ true → i < most_items
  low_one true e h = omega (arith, eqb-true _ _ e)
  low_one false e h = absurd cc
low_more (x ∷ xs) y low lt i h = low_at (eqb i x) refl (λ k. low_more xs y (λ j k. low j (below j (eqb j x) k)) lt i k) h where
  low_at : (b : Bool) → eqb i x ≡ b → (list_any (eqb i) (xs ++ y ∷ []) ≡ true → i < most_items) → (b || list_any (eqb i) (xs ++ y ∷ [])) ≡ true → i < most_items
  low_at true e rest h = low i (ap (λ (c : Bool). c || list_any (eqb i) xs) e)
  low_at false e rest h = rest h

  below : (j : ℕ) (b : Bool) → list_any (eqb j) xs ≡ true → (b || list_any (eqb j) xs) ≡ true
  below j true k = refl
  below j false k = k

pub few_more : (xs : List ℕ) (y : ℕ) → AreFew xs → y < most_items → list_any (eqb y) xs ≡ false → AreFew (xs ++ y ∷ [])
few_more xs y few lt h = record { low = low_more xs y few.low lt; once = apart_more xs y few.once h }

pub few_fits : (xs : List ℕ) (y : ℕ) → AreFew xs → y < most_items → list_any (eqb y) xs ≡ false → length xs < most_items
few_fits xs y few lt h =
    let f = few_more xs y few lt h in
    omega (arith, length-le_from_distinct_below (xs ++ y ∷ []) most_items f.once f.low, length-append xs (y ∷ []))

-- the places

pub few_none : AreFew []
unfolding IsDistinct
few_none = record { low = λ i h. absurd cc; once = tt }

pub places_new : (a b : ℕ) → most_items ≤ a → most_items ≤ b → HasPlaces [] [] a b
places_new a b ha hb = record { reads_few = few_none; writes_few = few_none; reads_fit = ha; writes_fit = hb }

pub places_read : (reads : List OutsideRead) (writes : List OwnWrite) (a b : ℕ) (item : ItemId) (stamp : ℕ) → HasPlaces reads writes a b → item.0 < most_items → is_some (find (λ r. r.item.0 == item.0) reads) ≡ false
    → HasPlaces (reads ++ record { item = item; stamp = stamp } ∷ []) writes a b
places_read reads writes a b item stamp p lt h = record {
  reads_few = subst AreFew (sym (map-append (λ (r : OutsideRead). r.item.0) reads (record { item = item; stamp = stamp } ∷ []))) (few_more (read_items reads) item.0 p.reads_few lt (none_listed (λ (r : OutsideRead). r.item.0) item.0 reads h));
  writes_few = p.writes_few;
  reads_fit = p.reads_fit;
  writes_fit = p.writes_fit;
}

pub read_place : (reads : List OutsideRead) (writes : List OwnWrite) (a b : ℕ) (item : ItemId) → HasPlaces reads writes a b → item.0 < most_items → is_some (find (λ r. r.item.0 == item.0) reads) ≡ false → length reads < a
read_place reads writes a b item p lt h =
    let f : length (read_items reads) < most_items = few_fits (read_items reads) item.0 p.reads_few lt (none_listed (λ (r : OutsideRead). r.item.0) item.0 reads h) in
    let e : length (read_items reads) ≡ length reads = length-map reads (λ (r : OutsideRead). r.item.0) in
    omega (arith, p.reads_fit)

pub places_write : (reads : List OutsideRead) (writes : List OwnWrite) (a b : ℕ) (item : ItemId) (value : ℤ) → HasPlaces reads writes a b → item.0 < most_items → is_some (find (λ w. w.item.0 == item.0) writes) ≡ false
    → HasPlaces reads (writes ++ record { item = item; value = value } ∷ []) a b
places_write reads writes a b item value p lt h = record {
  reads_few = p.reads_few;
  writes_few = subst AreFew (sym (map-append (λ (w : OwnWrite). w.item.0) writes (record { item = item; value = value } ∷ []))) (few_more (write_items writes) item.0 p.writes_few lt (none_listed (λ (w : OwnWrite). w.item.0) item.0 writes h));
  reads_fit = p.reads_fit;
  writes_fit = p.writes_fit;
}

pub write_place : (reads : List OutsideRead) (writes : List OwnWrite) (a b : ℕ) (item : ItemId) → HasPlaces reads writes a b → item.0 < most_items → is_some (find (λ w. w.item.0 == item.0) writes) ≡ false → length writes < b
write_place reads writes a b item p lt h =
    let f : length (write_items writes) < most_items = few_fits (write_items writes) item.0 p.writes_few lt (none_listed (λ (w : OwnWrite). w.item.0) item.0 writes h) in
    let e : length (write_items writes) ≡ length writes = length-map writes (λ (w : OwnWrite). w.item.0) in
    omega (arith, p.writes_fit)

pub places_rewritten : (reads : List OutsideRead) (writes : List OwnWrite) (a b : ℕ) (item : ItemId) (value : ℤ) → HasPlaces reads writes a b → is_some (find (λ w. w.item.0 == item.0) writes) ≡ true
    → HasPlaces reads (with_write writes item value) a b
places_rewritten reads writes a b item value p h = record {
  reads_few = p.reads_few;
  writes_few = subst AreFew (sym (write_old writes item value h)) p.writes_few;
  reads_fit = p.reads_fit;
  writes_fit = p.writes_fit;
}
