-- Lists of items, each once: one more fits.
use Rattle.std.proofs.Common.{◌≡◌, ℕ, ◌<◌, ◌≤◌, ◌==◌, Bool, true, false, cond, ◌||◌, List, [], ◌∷◌, ◌++◌, length, map, take, drop, zero, suc, get_or, set as with_item, Some, refl, ap, sym, ◌∙◌, subst, arith, length-append}
use Rattle.std.proofs.lemmas.Bool.{ne_eqb, eqb-false, eqb-true, eq-eqb, or_left, or_right}
use Rattle.std.proofs.lemmas.List.{length-map, map-append}
use Rattle.std.proofs.lemmas.Map.Keys.{IsDistinct-cons, IsDistinct-head, IsDistinct-tail}
use Rattle.std.proofs.lemmas.Map.Made.{length-le_from_is_member}
use Rattle.std.proofs.lemmas.Cmp.{nat_eq_equiv}
use Rattle.std.specs.Prelude.{eqb, is_some, IsTrue, ℤ}
use Rattle.std.specs.List.{find, list_any, IsDistinct, AllByRecursion}
use Rattle.rt_base.specs.declared.ids.ItemId.{ItemId}
use Rattle.item_model.specs.declared.stored.OutsideRead.{OutsideRead}
use Rattle.item_model.specs.declared.stored.OwnWrite.{OwnWrite}
use Rattle.item_model.specs.Work.{with_read, with_write, read_items, write_items}
use Rattle.item_model.proofs.Noting.{apart_more, none_listed, write_old}
use Rattle.strict_commit.specs.Jobs.{AreInItemOrder}
use Rattle.strict_commit.specs.Places.{AreDeclared, HasPlaces, items_of}

among_more : (P : ℕ → Type 0) (xs : List ℕ) (y : ℕ) → ((i : ℕ) → list_any (eqb i) xs ≡ true → P i) → P y → (i : ℕ) → list_any (eqb i) (xs ++ y ∷ []) ≡ true → P i
among_more P [] y all one i h = last (eqb i y) refl h where
  last : (b : Bool) → eqb i y ≡ b → (b || false) ≡ true → P i
  last true e h = subst P (sym (eqb-true i y e)) one
  last false e h = absurd cc
among_more P (x ∷ xs) y all one i h = at (eqb i x) refl (λ k. among_more P xs y (λ j k. all j (below j (eqb j x) k)) one i k) h where
  at : (b : Bool) → eqb i x ≡ b → (list_any (eqb i) (xs ++ y ∷ []) ≡ true → P i) → (b || list_any (eqb i) (xs ++ y ∷ [])) ≡ true → P i
  at true e rest h = all i (ap (λ (c : Bool). c || list_any (eqb i) xs) e)
  at false e rest h = rest h

  below : (j : ℕ) (b : Bool) → list_any (eqb j) xs ≡ true → (b || list_any (eqb j) xs) ≡ true
  below j true k = refl
  below j false k = k

-- a number is among the declared ones
abbrev pub Declared : List ItemId → ℕ → Type 0
Declared declared i = list_any (eqb i) (items_of declared) ≡ true

declared_at : (i : ItemId) (n : ℕ) (rest : List ItemId) (b : Bool) → (i.0 == n) ≡ b → (IsTrue (list_any (λ j. j.0 == n) rest) → Declared rest n) → IsTrue (b || list_any (λ j. j.0 == n) rest) → (eqb n i.0 || list_any (eqb n) (items_of rest)) ≡ true
declared_at i n rest true e more h = or_left (eqb n i.0) (list_any (eqb n) (items_of rest)) (eq-eqb n i.0 (sym (eqb-true i.0 n e)))
declared_at i n rest false e more h = or_right (eqb n i.0) (list_any (eqb n) (items_of rest)) (more h)

pub declared_is : (declared : List ItemId) (n : ℕ) → IsTrue (list_any (λ i. i.0 == n) declared) → Declared declared n
declared_is [] n h = absurd cc
declared_is (i ∷ rest) n h = declared_at i n rest (i.0 == n) refl (declared_is rest n) h

declared_more : (declared : List ItemId) (xs : List ℕ) (y : ℕ) → AreDeclared declared xs → Declared declared y → list_any (eqb y) xs ≡ false → AreDeclared declared (xs ++ y ∷ [])
declared_more declared xs y few one h = record { among = among_more (Declared declared) xs y few.among one; once = apart_more xs y few.once h }

declared_fits : (declared : List ItemId) (xs : List ℕ) (y : ℕ) → AreDeclared declared xs → Declared declared y → list_any (eqb y) xs ≡ false → length xs < length declared
declared_fits declared xs y few one h =
    let f : AreDeclared declared (xs ++ y ∷ []) = declared_more declared xs y few one h in
    omega (arith, length-le_from_is_member nat_eq_equiv (xs ++ y ∷ []) (items_of declared) f.once f.among, length-append xs (y ∷ []), length-map declared (λ (i : ItemId). i.0))

-- the places

none_declared : (declared : List ItemId) → AreDeclared declared []
unfolding IsDistinct
none_declared declared = record { among = λ i h. absurd cc; once = tt }

pub places_new : (may_read may_write : List ItemId) (a b : ℕ) → length may_read ≤ a → length may_write ≤ b → AreInItemOrder may_read → AreInItemOrder may_write → HasPlaces may_read [] a may_write [] b
places_new may_read may_write a b ha hb hr hw = record { reads_declared = none_declared may_read; writes_declared = none_declared may_write; reads_fit = ha; writes_fit = hb; reads_rise = hr; writes_rise = hw }

module _ {may_read may_write : List ItemId} (reads : List OutsideRead) (writes : List OwnWrite) (a b : ℕ) (item : ItemId) where
  pub places_read : (stamp : ℕ) → HasPlaces may_read reads a may_write writes b → IsTrue (list_any (λ i. i.0 == item.0) may_read) → is_some (find (λ r. r.item.0 == item.0) reads) ≡ false → HasPlaces may_read (reads ++ record { item = item; stamp = stamp } ∷ []) a may_write writes b
  places_read stamp p one h = record {
    reads_declared = subst (AreDeclared may_read) (sym (map-append (λ (r : OutsideRead). r.item.0) reads (record { item = item; stamp = stamp } ∷ []))) (declared_more may_read (read_items reads) item.0 p.reads_declared (declared_is may_read item.0 one) (none_listed (λ (r : OutsideRead). r.item.0) item.0 reads h));
    writes_declared = p.writes_declared;
    reads_fit = p.reads_fit;
    writes_fit = p.writes_fit;
    reads_rise = p.reads_rise;
    writes_rise = p.writes_rise;
  }

  pub read_place : HasPlaces may_read reads a may_write writes b → IsTrue (list_any (λ i. i.0 == item.0) may_read) → is_some (find (λ r. r.item.0 == item.0) reads) ≡ false → length reads < a
  read_place p one h =
      let f : length (read_items reads) < length may_read = declared_fits may_read (read_items reads) item.0 p.reads_declared (declared_is may_read item.0 one) (none_listed (λ (r : OutsideRead). r.item.0) item.0 reads h) in
      let e : length (read_items reads) ≡ length reads = length-map reads (λ (r : OutsideRead). r.item.0) in
      omega (arith, p.reads_fit)

  pub places_write : (value : ℤ) → HasPlaces may_read reads a may_write writes b → IsTrue (list_any (λ i. i.0 == item.0) may_write) → is_some (find (λ w. w.item.0 == item.0) writes) ≡ false → HasPlaces may_read reads a may_write (writes ++ record { item = item; value = value } ∷ []) b
  places_write value p one h = record {
    reads_declared = p.reads_declared;
    writes_declared = subst (AreDeclared may_write) (sym (map-append (λ (w : OwnWrite). w.item.0) writes (record { item = item; value = value } ∷ []))) (declared_more may_write (write_items writes) item.0 p.writes_declared (declared_is may_write item.0 one) (none_listed (λ (w : OwnWrite). w.item.0) item.0 writes h));
    reads_fit = p.reads_fit;
    writes_fit = p.writes_fit;
    reads_rise = p.reads_rise;
    writes_rise = p.writes_rise;
  }

  pub write_place : HasPlaces may_read reads a may_write writes b → IsTrue (list_any (λ i. i.0 == item.0) may_write) → is_some (find (λ w. w.item.0 == item.0) writes) ≡ false → length writes < b
  write_place p one h =
      let f : length (write_items writes) < length may_write = declared_fits may_write (write_items writes) item.0 p.writes_declared (declared_is may_write item.0 one) (none_listed (λ (w : OwnWrite). w.item.0) item.0 writes h) in
      let e : length (write_items writes) ≡ length writes = length-map writes (λ (w : OwnWrite). w.item.0) in
      omega (arith, p.writes_fit)

  pub places_rewritten : (value : ℤ) → HasPlaces may_read reads a may_write writes b → is_some (find (λ w. w.item.0 == item.0) writes) ≡ true → HasPlaces may_read reads a may_write (with_write writes item value) b
  places_rewritten value p h = record {
    reads_declared = p.reads_declared;
    writes_declared = subst (AreDeclared may_write) (sym (write_old writes item value h)) p.writes_declared;
    reads_fit = p.reads_fit;
    writes_fit = p.writes_fit;
    reads_rise = p.reads_rise;
    writes_rise = p.writes_rise;
  }
