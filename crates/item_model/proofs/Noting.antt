-- Lists of notes, each item once: one more of another item, and one in the place of another.
use Rattle.std.proofs.Common.{◌≡◌, ℕ, ◌<◌, ◌==◌, Bool, true, false, cond, ◌||◌, List, [], ◌∷◌, ◌++◌, length, map, take, drop, zero, suc, get_or, set as with_item, Some, refl, ap, sym, ◌∙◌, arith}
use Rattle.std.proofs.lemmas.Bool.{ne_eqb, eqb-false, eqb-true, eq-eqb}
use Rattle.std.proofs.lemmas.Map.Keys.{IsDistinct-cons, IsDistinct-head, IsDistinct-tail}
use Rattle.std.specs.Prelude.{eqb, is_some, ℤ}
use Rattle.std.specs.List.{find, list_any, IsDistinct, AllByRecursion}
use Rattle.rt_base.specs.declared.ids.ItemId.{ItemId}
use Rattle.item_model.specs.declared.stored.OutsideRead.{OutsideRead}
use Rattle.item_model.specs.declared.stored.OwnWrite.{OwnWrite}
use Rattle.item_model.specs.Work.{with_read, with_write, write_items}

pub or_false : (a b : Bool) → (a || b) ≡ false → (a ≡ false) × (b ≡ false)
or_false true b h = absurd cc
or_false false b h = (refl, h)

eqb_flip : (a b : ℕ) → eqb a b ≡ false → eqb b a ≡ false
eqb_flip a b h = ne_eqb b a (λ e. eqb-false _ _ h (sym e))

all_more : (x y : ℕ) (xs : List ℕ) → AllByRecursion (λ z. eqb x z ≡ false) xs → eqb x y ≡ false → AllByRecursion (λ z. eqb x z ≡ false) (xs ++ y ∷ [])
all_more x y [] a h = (h, tt)
all_more x y (z ∷ zs) a h = (a.0, all_more x y zs a.1 h)

pub apart_more : (xs : List ℕ) (y : ℕ) → IsDistinct eqb xs → list_any (eqb y) xs ≡ false → IsDistinct eqb (xs ++ y ∷ [])
apart_more [] y d h = IsDistinct-cons eqb y [] tt d
apart_more (x ∷ xs) y d h =
    let o = or_false (eqb y x) (list_any (eqb y) xs) h in
    IsDistinct-cons eqb x (xs ++ y ∷ []) (all_more x y xs (IsDistinct-head eqb x xs d) (eqb_flip y x o.0)) (apart_more xs y (IsDistinct-tail eqb x xs d) o.1)

none_at : {A : Type 0} (f : A → ℕ) (n : ℕ) (x : A) (xs : List A) (b : Bool) → (f x == n) ≡ b → (is_some (find (λ r. f r == n) xs) ≡ false → list_any (eqb n) (map f xs) ≡ false)
    → is_some (cond b (Some x) (find (λ r. f r == n) xs)) ≡ false → (eqb n (f x) || list_any (eqb n) (map f xs)) ≡ false
none_at f n x xs true e rest h = absurd cc
none_at f n x xs false e rest h = ap (λ (c : Bool). c || list_any (eqb n) (map f xs)) (eqb_flip (f x) n e) ∙ rest h

pub none_listed : {A : Type 0} (f : A → ℕ) (n : ℕ) (xs : List A) → is_some (find (λ r. f r == n) xs) ≡ false → list_any (eqb n) (map f xs) ≡ false
none_listed f n [] h = refl
none_listed f n (x ∷ xs) h = none_at f n x xs (f x == n) refl (none_listed f n xs) h

-- reads

read_new_at : (r : OutsideRead) (rs : List OutsideRead) (item : ItemId) (stamp : ℕ) (b : Bool) → (is_some (find (λ r. r.item.0 == item.0) rs) ≡ false → with_read rs item stamp ≡ rs ++ record { item = item; stamp = stamp } ∷ [])
    → is_some (cond b (Some r) (find (λ r. r.item.0 == item.0) rs)) ≡ false → cond b (r ∷ rs) (r ∷ with_read rs item stamp) ≡ r ∷ rs ++ record { item = item; stamp = stamp } ∷ []
read_new_at r rs item stamp true rest h = absurd cc
read_new_at r rs item stamp false rest h = ap (λ (l : List OutsideRead). r ∷ l) (rest h)

pub read_new : (rs : List OutsideRead) (item : ItemId) (stamp : ℕ) → is_some (find (λ r. r.item.0 == item.0) rs) ≡ false → with_read rs item stamp ≡ rs ++ record { item = item; stamp = stamp } ∷ []
read_new [] item stamp h = refl
read_new (r ∷ rs) item stamp h = read_new_at r rs item stamp (r.item.0 == item.0) (read_new rs item stamp) h

read_old_at : (r : OutsideRead) (rs : List OutsideRead) (item : ItemId) (stamp : ℕ) (b : Bool) → (is_some (find (λ r. r.item.0 == item.0) rs) ≡ true → with_read rs item stamp ≡ rs)
    → is_some (cond b (Some r) (find (λ r. r.item.0 == item.0) rs)) ≡ true → cond b (r ∷ rs) (r ∷ with_read rs item stamp) ≡ r ∷ rs
read_old_at r rs item stamp true rest h = refl
read_old_at r rs item stamp false rest h = ap (λ (l : List OutsideRead). r ∷ l) (rest h)

pub read_old : (rs : List OutsideRead) (item : ItemId) (stamp : ℕ) → is_some (find (λ r. r.item.0 == item.0) rs) ≡ true → with_read rs item stamp ≡ rs
read_old [] item stamp h = absurd cc
read_old (r ∷ rs) item stamp h = read_old_at r rs item stamp (r.item.0 == item.0) (read_old rs item stamp) h

-- writes

write_new_at : (w : OwnWrite) (ws : List OwnWrite) (item : ItemId) (value : ℤ) (b : Bool) → (is_some (find (λ w. w.item.0 == item.0) ws) ≡ false → with_write ws item value ≡ ws ++ record { item = item; value = value } ∷ [])
    → is_some (cond b (Some w) (find (λ w. w.item.0 == item.0) ws)) ≡ false → cond b (record { item = item; value = value } ∷ ws) (w ∷ with_write ws item value) ≡ w ∷ ws ++ record { item = item; value = value } ∷ []
write_new_at w ws item value true rest h = absurd cc
write_new_at w ws item value false rest h = ap (λ (l : List OwnWrite). w ∷ l) (rest h)

pub write_new : (ws : List OwnWrite) (item : ItemId) (value : ℤ) → is_some (find (λ w. w.item.0 == item.0) ws) ≡ false → with_write ws item value ≡ ws ++ record { item = item; value = value } ∷ []
write_new [] item value h = refl
write_new (w ∷ ws) item value h = write_new_at w ws item value (w.item.0 == item.0) (write_new ws item value) h

write_old_at : (w : OwnWrite) (ws : List OwnWrite) (item : ItemId) (value : ℤ) (b : Bool) → (w.item.0 == item.0) ≡ b → (is_some (find (λ w. w.item.0 == item.0) ws) ≡ true → write_items (with_write ws item value) ≡ write_items ws)
    → is_some (cond b (Some w) (find (λ w. w.item.0 == item.0) ws)) ≡ true → write_items (cond b (record { item = item; value = value } ∷ ws) (w ∷ with_write ws item value)) ≡ w.item.0 ∷ write_items ws
write_old_at w ws item value true e rest h = ap (λ (n : ℕ). n ∷ write_items ws) (sym (eqb-true _ _ e))
write_old_at w ws item value false e rest h = ap (λ (l : List ℕ). w.item.0 ∷ l) (rest h)

pub write_old : (ws : List OwnWrite) (item : ItemId) (value : ℤ) → is_some (find (λ w. w.item.0 == item.0) ws) ≡ true → write_items (with_write ws item value) ≡ write_items ws
write_old [] item value h = absurd cc
write_old (w ∷ ws) item value h = write_old_at w ws item value (w.item.0 == item.0) refl (write_old ws item value) h

-- a write at the place of the one that it replaces
pub write_at : (ws : List OwnWrite) (i : ℕ) (item : ItemId) (value : ℤ) (d : OwnWrite) → i < length ws → (get_or ws i d).item.0 ≡ item.0
    → with_item ws i (record { item = item; value = value }) ≡ take i ws ++ with_write (drop i ws) item value
write_at [] i item value d lt e = absurd (omega arith)
write_at (w ∷ ws) zero item value d lt e = sym (ap (λ (b : Bool). cond b (record { item = item; value = value } ∷ ws) (w ∷ with_write ws item value)) (eq-eqb w.item.0 item.0 e))
write_at (w ∷ ws) (suc i) item value d lt e = ap (λ (l : List OwnWrite). w ∷ l) (write_at ws i item value d (omega arith) e)
